use Rattle.std.proofs.Common.{◌≡◌, ℕ, ◌-◌, ◌≤◌, length, sym, ap, ◌∙◌, arith}
use Rattle.wire.specs.Bytes.{be_at, part}
use Rattle.layout.specs.Group.{groups_start, needs}
use Rattle.layout.specs.Paper.{means_groups}
use Rattle.record.proofs.Counted.{counted_fits, parts_good, parts_refused, parts_none, ends_at, ends-behind, ends-within}
use Rattle.record.proofs.body.Listed.behind.Given.{Over}
use Rattle.record.proofs.body.Listed.behind.Goals as goal
use Rattle.record.proofs.body.Listed.behind.Goals.{After-SIZE-in-Some-2}

pub overflow_sub-SIZE : goal.overflow_sub-SIZE
overflow_sub-SIZE g c =
    rw (c.SIZE.ensures, ← g.met.Self.Listed.size_is)
    (counted_fits g.Self.Listed.layout (means_groups c.in-Some.g) c.in-Some.ensures)

pub returns-in-None : goal.returns-in-None
returns-in-None g c = parts_none g.Self.Listed.layout c.args.body.now (sym c.in-Ok.ensures) c.in-None.ensures

pub returns-in-Err : goal.returns-in-Err
returns-in-Err g c = parts_refused g.Self.Listed.layout c.args.body.now c.in-Err.ensures

starts : (g : Over) (c : After-SIZE-in-Some-2 g) → c.SIZE-in-Some-2.result ≡ groups_start g.Self.Listed.layout
starts g c = c.SIZE-in-Some-2.ensures ∙ sym g.met.Self.Listed.size_is

ends : (g : Over) (c : After-SIZE-in-Some-2 g) → c.offset_from-end.result ≡ needs g.Self.Listed.layout c.args.body.now
ends g c =
    let size = g.met.Self.Listed.size_is in
    let k = c.at-count.ensures ∙ ap (λ (n : ℕ). be_at c.args.body.now (n - 4) 4) (c.SIZE.ensures ∙ sym size) in
    ends_at g.Self.Listed.layout c.args.body.now (sym c.in-Ok.ensures) (means_groups c.in-Some.g) c.in-Some.ensures
    (c.SIZE-in-Some.ensures ∙ sym size) k c.offset_from-end.ensures

above : (g : Over) (c : After-SIZE-in-Some-2 g) → c.SIZE-in-Some-2.result ≤ c.offset_from-end.result
above g c = rw (starts g c, ends g c) (ends-behind g.Self.Listed.layout c.args.body.now)

pub slice_bounds-result-count : goal.slice_bounds-result-count
slice_bounds-result-count g c = above g c

pub slice_bounds-result-start : goal.slice_bounds-result-start
slice_bounds-result-start g c = let h = above g c in omega arith

pub slice_bounds-result-end : goal.slice_bounds-result-end
slice_bounds-result-end g c =
    let h : c.offset_from-end.result ≤ length c.args.body.now = rw (ends g c) (ends-within g.Self.Listed.layout c.args.body.now (sym c.in-Ok.ensures)) in
    omega arith

pub returns-in-Some : goal.returns-in-Some
returns-in-Some g c =
    let d = (goal.at.returns-in-Some g c).After-SIZE-in-Some-2 in
    (λ i. part (starts g d i) (ends g d i) c.args.body.now) ∙ parts_good g.Self.Listed.layout c.args.body.now (sym c.in-Ok.ensures)
