use Rattle.std.proofs.Common.{sym, ◌∙◌}
use Rattle.wire.specs.Answer.{guard}
use Rattle.layout.specs.Group.{judge_all}
use Rattle.layout.specs.Paper.{means_groups}
use Rattle.layout.proofs.Walk.{fits, evenly, longer, lacking}
use Rattle.layout.proofs.group.judge_all.Goals as goal

pub groups_in-requires : goal.groups_in-requires
groups_in-requires c = (fits (means_groups c.args.g) c.args.s.now 0 c.args.k (sym c.end_of.ensures ∙ c.in-Some.is)).0

pub returns-in-Some : goal.returns-in-Some
unfolding judge_all guard
returns-in-Some c =
    let e = evenly (means_groups c.args.g) c.args.s.now c.args.k (sym c.end_of.ensures ∙ c.in-Some.is) c.if-end-s.true in
    rw (e, ← c.groups_in.ensures) c.also.ensures

pub returns-in_default : goal.returns-in_default
unfolding judge_all guard
returns-in_default c = rw (longer (means_groups c.args.g) c.args.s.now c.args.k (sym c.end_of.ensures ∙ c.in-Some.is) c.if-end-s.false)

pub returns-in_default-2 : goal.returns-in_default-2
unfolding judge_all guard
returns-in_default-2 c = rw (lacking (means_groups c.args.g) c.args.s.now c.args.k (sym c.end_of.ensures ∙ c.in_default.is))
