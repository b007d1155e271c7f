use Prim.Native.Nat.{◌≤◌, ◌-◌}
use mathlib.Core.Path.{◌≡◌}
use Rattle.seats.specs.Arrays.{held}
use Rattle.seats.specs.Rules.{blank}
use Rattle.seats.proofs.rules.unused.Given as goal

abbrev pub invariant-loop-i : goal.invariant-loop-i
invariant-loop-i l = (l.i ≤ 8) × (blank (held l.fields) l.fields.count (8 - l.fields.count) ≡ blank (held l.fields) l.i (8 - l.i))
