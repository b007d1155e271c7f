use Prim.Native.Nat.{◌≤◌, ◌-◌}
use mathlib.Core.Path.{◌≡◌}
use lib.Dec.{eqb}
use mathlib.Core.Bool.{◌&&◌}
use Rattle.seats.specs.Rules.{all_zero}
use Rattle.seats.specs.Places.{span}
use Rattle.seats.proofs.rules.cleared.Given as goal

abbrev pub invariant-loop-i : goal.invariant-loop-i
invariant-loop-i l = (l.begin ≤ l.i) × (l.i ≤ l.to) × (all_zero (span l.fields.first.now l.fields.last.now l.begin (l.to - l.begin)) ≡ (eqb l.bits 0 && all_zero (span l.fields.first.now l.fields.last.now l.i (l.to - l.i))))
