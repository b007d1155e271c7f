use Rattle.std.proofs.Common.{sym, arith}
use Rattle.layout.specs.Layout.{snapshot, index}
use Rattle.record.proofs.Choice.{named_as}
use Rattle.entries.specs.Entry.{step}
use Rattle.entries.proofs.Entries.{no_entries, no_step}
use Rattle.entries.proofs.cursor.Cursor.step.Goals as goal

pub returns-in-300111 : goal.returns-in-300111
unfolding step
returns-in-300111 c = rw (named_as snapshot c.in-300111.is) c.step_in.ensures

pub returns-in-309011 : goal.returns-in-309011
unfolding step
returns-in-309011 c = rw (named_as index c.in-309011.is) c.step_in-in-309011.ensures

pub returns-in_default : goal.returns-in_default
returns-in_default c = sym (no_step _ _ (no_entries _ (λ e. omega arith) (λ e. omega arith)))
