use Rattle.std.proofs.Common.{sym, ◌∙◌}
use Rattle.wire.specs.Answer.{guard}
use Rattle.layout.specs.Group.{judge_groups}
use Rattle.layout.specs.Paper.{means_groups}
use Rattle.layout.proofs.Walk.{fits, fits_not}
use Rattle.layout.proofs.group.judge.Goals as goal

pub groups_in-requires : goal.groups_in-requires
groups_in-requires c = (fits (means_groups c.args.g) c.args.s.now c.args.at c.args.k (sym c.end_of.ensures ∙ c.in-Some.is)).0

pub returns-in-Some : goal.returns-in-Some
unfolding judge_groups guard
returns-in-Some c =
    let there = (fits (means_groups c.args.g) c.args.s.now c.args.at c.args.k (sym c.end_of.ensures ∙ c.in-Some.is)).0 in
    rw (there, ← c.groups_in.ensures) c.also.ensures

pub returns-in-None : goal.returns-in-None
unfolding judge_groups guard
returns-in-None c = rw (fits_not (means_groups c.args.g) c.args.s.now c.args.at c.args.k (sym c.end_of.ensures ∙ c.in-None.is))
