use Prim.Native.Nat.{◌≤◌}
use mathlib.Core.Path.{◌≡◌}
use lib.ListN.{length, drop}
use Rattle.seats.specs.Rules.{ascends}
use Rattle.seats.proofs.rules.ascending.Given as goal

abbrev pub invariant-loop-channel : goal.invariant-loop-channel
invariant-loop-channel l = (l.channel-index ≤ length l.numbers) × (ascends 0 l.numbers ≡ ascends l.low (drop l.channel-index l.numbers))
