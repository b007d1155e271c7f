use Rattle.std.proofs.Common.{sym, ◌∙◌}
use Rattle.wire.proofs.Signs.{kept}
use Rattle.entries.proofs.Sayings.{says-index, says-index-unknown}
use Rattle.entries.proofs.entry.said_in_index.Goals as goal

pub returns-then-is_index_price : goal.returns-then-is_index_price
returns-then-is_index_price c =
    rw (kept c.args.price c.ranges.price, says-index _ _ (sym c.is_index_price.ensures ∙ c.if-is_index_price.true))

pub returns-else-is_index_price : goal.returns-else-is_index_price
returns-else-is_index_price c =
    rw (says-index-unknown _ _ (sym c.is_index_price.ensures ∙ c.if-is_index_price.false))
