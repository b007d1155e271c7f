use mathlib.Core.Bool.{and-true}
use Rattle.layout.specs.Layout.{ranges}
use Rattle.layout.proofs.Free.{free-channel, free-text, first_number_as}
use Rattle.record.proofs.resend.ResendListed.in_range.Goals as goal

pub returns : goal.returns
unfolding ranges
returns c = simp (free-channel, free-text, first_number_as, and-true) (cc)
