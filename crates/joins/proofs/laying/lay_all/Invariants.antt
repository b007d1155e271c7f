use mathlib.Core.Path.{◌≡◌}
use Rattle.seats.specs.Arrays.{held, held_mut, SamePlaces}
use Rattle.joins.specs.Join.{SameChannels}
use Rattle.joins.specs.Meet.{joined_all}
use Rattle.joins.proofs.laying.lay_all.Given as goal

abbrev pub invariant-loop-i : goal.invariant-loop-i
invariant-loop-i l = SamePlaces l.initial.mine l.mine × SameChannels l.initial.mine l.mine × (held_mut l.mine ≡ joined_all l.i (held_mut l.initial.mine) (held l.other))
