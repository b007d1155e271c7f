use Prim.Native.Nat.{◌≤◌, ◌-◌}
use mathlib.Core.Path.{◌≡◌}
use Rattle.gaps.specs.Gaps.{canon}
use Rattle.seats.specs.Places.{span}
use Rattle.seats.proofs.rules.ordered.Given as goal

abbrev pub invariant-loop-i : goal.invariant-loop-i
invariant-loop-i l = (l.begin ≤ l.i) × (l.i ≤ l.to) × (canon l.lowest l.highest (span l.fields.first.now l.fields.last.now l.begin (l.to - l.begin)) ≡ canon l.low l.highest (span l.fields.first.now l.fields.last.now l.i (l.to - l.i)))
