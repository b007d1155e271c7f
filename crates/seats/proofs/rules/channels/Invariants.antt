use Prim.Native.Nat.{◌≤◌, ◌-◌}
use mathlib.Core.Path.{◌≡◌}
use Rattle.seats.specs.Arrays.{held}
use Rattle.seats.specs.Rules.{sound_rows}
use Rattle.seats.proofs.rules.channels.Given as goal

abbrev pub invariant-loop-i : goal.invariant-loop-i
invariant-loop-i l = (l.i ≤ l.fields.count) × (sound_rows (held l.fields) 0 0 l.fields.count ≡ sound_rows (held l.fields) l.low l.i (l.fields.count - l.i))
