use mathlib.Core.Bool.{and-true}
use Rattle.layout.specs.Layout.{ranges}
use Rattle.layout.proofs.Free.{free-channel, free-group-count}
use Rattle.record.proofs.statistics.StatisticsListed.in_range.Goals as goal

pub returns : goal.returns
unfolding ranges
returns c = simp (free-channel, free-group-count, and-true) (cc)
