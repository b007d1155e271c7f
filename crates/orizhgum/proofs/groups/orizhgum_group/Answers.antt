use Rattle.std.proofs.Common.{ap, ◌∙◌}
use Rattle.orizhgum.specs.Groups.{group_answer}
use Rattle.orizhgum.proofs.groups.orizhgum_group.Goals as goal

pub returns-in-Ok-Some : goal.returns-in-Ok-Some
unfolding group_answer
returns-in-Ok-Some c = c.found.ensures ∙ ap group_answer (rw c.in-Ok-Some.field-0-is at c.in-Ok-Some.ensures)

pub returns-in-Ok-None : goal.returns-in-Ok-None
unfolding group_answer
returns-in-Ok-None c = ap group_answer (rw c.in-Ok-None.field-0-is at c.in-Ok-None.ensures)

pub returns-in-Err : goal.returns-in-Err
unfolding group_answer
returns-in-Err c = rw c.from.ensures (ap group_answer c.in-Err.ensures)
