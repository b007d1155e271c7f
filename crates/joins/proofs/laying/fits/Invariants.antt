use Prim.Native.Nat.{◌-◌}
use mathlib.Core.Path.{◌≡◌}
use Rattle.seats.specs.Arrays.{held}
use Rattle.joins.specs.Join.{overfull}
use Rattle.joins.specs.Meet.{met_runs}
use Rattle.joins.proofs.laying.fits.Given as goal

abbrev pub invariant-loop-i : goal.invariant-loop-i
invariant-loop-i l = overfull (met_runs (held l.mine) (held l.other)) 0 l.mine.count ≡ overfull (met_runs (held l.mine) (held l.other)) l.i (l.mine.count - l.i)
