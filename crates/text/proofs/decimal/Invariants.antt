use Prim.Native.Nat.{◌-◌, ◌^◌, ◌≤◌, ◌<◌}
use mathlib.Core.Path.{◌≡◌}
use mathlib.Core.List.{◌++◌}
use lib.ListN.{length, drop}
use Rattle.text.specs.Text.{glyphs, decimal_of}
use Rattle.text.proofs.decimal.Given as goal

-- `text::decimal` meets its contract: the digits of the number are those of what is left of it, and then those that stand in the buffer.
-- Assumes nothing.
abbrev pub invariant-loop-rest : goal.invariant-loop-rest
invariant-loop-rest l = (length l.digits ≡ 20) × (0 < l.i) × (l.i ≤ 20) × (l.rest < 10 ^ l.i) × (glyphs (l.i - 1) l.rest ++ drop l.i l.digits ≡ decimal_of l.v)

abbrev pub decreases-loop-rest : goal.decreases-loop-rest
decreases-loop-rest l = l.i
