use Rattle.std.proofs.Common.{sym, arith}
use Rattle.entries.proofs.Entries.{no_entries, no_start, starts}
use Rattle.entries.proofs.cursor.Cursor.start.Goals as goal

pub returns-in-300111 : goal.returns-in-300111
returns-in-300111 c = rw c.at.ensures (sym (starts _ _ c.in-300111.is))

pub returns-in_default : goal.returns-in_default
returns-in_default c = sym (no_start _ (no_entries _ (λ e. grind (arith, c.in_default)) (λ e. grind (arith, c.in_default))))
