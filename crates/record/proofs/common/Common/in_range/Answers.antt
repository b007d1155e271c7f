use mathlib.Core.Bool.{and-true}
use Rattle.layout.specs.Layout.{ranges}
use Rattle.layout.proofs.Free.{free-channel, free-text, trade_count_as, previous_close_as}
use Rattle.record.proofs.common.Common.in_range.Goals as goal

pub returns : goal.returns
unfolding ranges
returns c = simp (free-channel, free-text, trade_count_as, previous_close_as, and-true) (cc)
