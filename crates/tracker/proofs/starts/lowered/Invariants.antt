use mathlib.Core.Path.{◌≡◌}
use Rattle.rows.proofs.Begin.{filled}
use Rattle.tracker.proofs.Lowered.{less}
use Rattle.tracker.proofs.starts.lowered.Given as goal

abbrev pub invariant-loop-i : goal.invariant-loop-i
invariant-loop-i l = l.out ≡ filled (less l.by l.from) l.i
