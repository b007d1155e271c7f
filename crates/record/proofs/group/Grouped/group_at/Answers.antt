use Rattle.std.proofs.Common.{◌≡◌, ◌+◌, ◌-◌, ◌*◌, ◌<◌, ◌≤◌, length, IsErrAnd, sym, ap, ◌∙◌}
use Rattle.wire.specs.Bytes.{be_at}
use Rattle.layout.specs.Layout.{size}
use Rattle.layout.specs.Group.{group_offset, groups_start}
use Rattle.layout.proofs.Walk.{offset_flat}
use Rattle.record.specs.Paper.{counted_behind}
use Rattle.record.proofs.Counted.{counted_fits}
use Rattle.record.proofs.Grouped.{group_as_refused, group-found, group-none, group-there}
use Rattle.record.proofs.group.Grouped.group_at.Goals as goal

pub returns-in_err-judge : goal.returns-in_err-judge
returns-in_err-judge g c =
    let e : IsErrAnd c.from_residual.result (λ x. x ≡ c.in_err-judge.field-0.0) = c.from_residual.ensures.1 in
    group_as_refused g.Self.Listed.layout c.args.body.now c.args.i c.from_residual.result _ e c.in_err-judge.ensures

pub overflow_sub-SIZE : goal.overflow_sub-SIZE
overflow_sub-SIZE g c =
    rw (c.SIZE.ensures, ← g.met.Self.Listed.size_is)
    (counted_fits g.Self.Listed.layout g.Self.Grouped.each (ap counted_behind (sym g.met.Self.Grouped.each_is)))

pub returns-then-at-i : goal.returns-then-at-i
returns-then-at-i g c =
    group-none g.Self.Listed.layout g.Self.Grouped.each c.args.body.now c.args.i g.met.Self.Grouped.each_is (sym c.in_ok-judge.ensures)
    (rw (g.met.Self.Listed.size_is, ← c.SIZE.ensures, ← c.at.ensures) c.if-at-i.true)

pub group-requires : goal.group-requires
group-requires g c =
    let m = g.Self.Listed.layout in
    let x = g.Self.Grouped.each in
    let s = c.args.body.now in
    let h : c.args.i < be_at s (groups_start m - 4) 4 = rw (g.met.Self.Listed.size_is, ← c.SIZE.ensures, ← c.at.ensures) c.if-at-i.false in
    let there : groups_start m + size x.fields * c.args.i + size x.fields ≤ length s =
    rw (← offset_flat x s g.met.Self.Grouped.flat_is (groups_start m) c.args.i)
    (group-there m x s c.args.i g.met.Self.Grouped.each_is (sym c.in_ok-judge.ensures) h) in
    rw (← g.met.Self.Listed.size_is, ← g.met.Self.Grouped.stride_is) there

pub returns : goal.returns
returns g c =
    let m = g.Self.Listed.layout in
    let x = g.Self.Grouped.each in
    let s = c.args.body.now in
    let h : c.args.i < be_at s (groups_start m - 4) 4 = rw (g.met.Self.Listed.size_is, ← c.SIZE.ensures, ← c.at.ensures) c.if-at-i.false in
    let p : group_offset x s (groups_start m) c.args.i ≡ g.Self.Listed.SIZE + g.Self.Grouped.stride * c.args.i =
    rw (← g.met.Self.Listed.size_is, ← g.met.Self.Grouped.stride_is) (offset_flat x s g.met.Self.Grouped.flat_is (groups_start m) c.args.i) in
    c.group.ensures ∙ group-found m x s c.args.i g.met.Self.Grouped.each_is (sym c.in_ok-judge.ensures) h p
