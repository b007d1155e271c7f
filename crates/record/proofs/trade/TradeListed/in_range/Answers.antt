use mathlib.Core.Bool.{and-true}
use Rattle.layout.specs.Layout.{ranges}
use Rattle.layout.proofs.Free.{free-channel, free-text, bid_number_as, offer_number_as, trade_price_as}
use Rattle.record.proofs.trade.TradeListed.in_range.Goals as goal

pub returns : goal.returns
unfolding ranges
returns c = simp (free-channel, free-text, bid_number_as, offer_number_as, trade_price_as, and-true) (cc)
