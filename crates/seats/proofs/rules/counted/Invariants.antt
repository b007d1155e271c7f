use Prim.Native.Nat.{◌≤◌}
use mathlib.Core.Path.{◌≡◌}
use lib.ListN.{length, drop}
use Rattle.seats.specs.Rules.{first_numbers}
use Rattle.seats.proofs.rules.counted.Given as goal

abbrev pub invariant-loop-number : goal.invariant-loop-number
invariant-loop-number l = (l.number-index ≤ length l.from) × (first_numbers l.from ≡ first_numbers (drop l.number-index l.from))
