use Rattle.std.proofs.Common.{[], ◌∷◌, pos}
use Rattle.layout.specs.Layout.{trade, values}
use Rattle.record.specs.Record.{known}
use Rattle.record.proofs.Tell.{kept}
use Rattle.record.proofs.trade.TradeListed.fields.Goals as goal

pub returns : goal.returns
unfolding values
returns c =
    (λ i.
    known trade
    (pos (c.at.ensures i)
    ∷ kept c.at-2.type_inv c.at-2.ensures i
    ∷ kept c.at-3.type_inv c.at-3.ensures i
    ∷ kept c.at-4.type_inv c.at-4.ensures i
    ∷ kept c.at-5.type_inv c.at-5.ensures i
    ∷ kept c.at-6.type_inv c.at-6.ensures i
    ∷ pos (c.at-7.ensures i)
    ∷ kept c.at-8.type_inv c.at-8.ensures i
    ∷ []))
