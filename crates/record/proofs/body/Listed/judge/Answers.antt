use Rattle.std.proofs.Common.{◌≡◌, ℕ, ◌-◌, sym, ap, ◌∙◌}
use Rattle.wire.specs.Bytes.{be_at}
use Rattle.layout.specs.Layout.{behind}
use Rattle.layout.specs.Group.{also, group, count, groups_start, judge_groups}
use Rattle.layout.specs.Paper.{means_groups, means_verdict}
use Rattle.layout.proofs.Walk.{judged_short, judged_long}
use Rattle.record.proofs.Counted.{counted_fits, judges_none, judges_some}
use Rattle.record.proofs.body.Listed.judge.Goals as goal
use Rattle.record.proofs.body.Listed.judge.Goals.{in-Some, in-None}

pub returns-then-body-SIZE : goal.returns-then-body-SIZE
returns-then-body-SIZE g c =
    sym (judged_short g.Self.Listed.layout c.args.body.now (rw (g.met.Self.Listed.size_is, ← c.SIZE.ensures) c.if-body-SIZE.true))

pub overflow_sub-SIZE : goal.overflow_sub-SIZE
overflow_sub-SIZE g c =
    rw (c.SIZE-in-Some-2.ensures, ← g.met.Self.Listed.size_is)
    (counted_fits g.Self.Listed.layout (means_groups c.in-Some.g) c.in-Some.ensures)

pub returns : goal.returns
returns g c =
    let m = g.Self.Listed.layout in
    let s = c.args.body.now in
    let size = g.met.Self.Listed.size_is in
    let b : means_verdict c.match-groups.behind ≡ judge_groups (group m) s (groups_start m) (count m s) =
    elim c.match-groups.branch [
      | in-Some w ↦
          let at = w.SIZE-in-Some.ensures ∙ sym size in
          let k = w.at.ensures ∙ ap (λ (n : ℕ). be_at s (n - 4) 4) (w.SIZE-in-Some-2.ensures ∙ sym size) in
          ap means_verdict w.behind-is
          ∙ w.judge-behind.ensures
          ∙ (λ i. judge_groups (means_groups w.in-Some.g) s (at i) (k i))
          ∙ judges_some m s (means_groups w.in-Some.g) w.in-Some.ensures
      | in-None w ↦ ap means_verdict w.behind-is ∙ judges_none s (groups_start m) (behind m) w.in-None.ensures
    ] in
    c.also.ensures ∙ (λ i. also (c.in_range.ensures i) (b i)) ∙ sym (judged_long m s (rw (size, ← c.SIZE.ensures) c.if-body-SIZE.false))
