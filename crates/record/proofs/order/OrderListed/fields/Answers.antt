use Rattle.std.proofs.Common.{[], ◌∷◌, pos}
use Rattle.layout.specs.Layout.{order, values}
use Rattle.record.specs.Record.{known}
use Rattle.record.proofs.Tell.{kept}
use Rattle.record.proofs.order.OrderListed.fields.Goals as goal

pub returns : goal.returns
unfolding values
returns c =
    (λ i.
    known order
    (pos (c.at.ensures i)
    ∷ kept c.at-2.type_inv c.at-2.ensures i
    ∷ kept c.at-3.type_inv c.at-3.ensures i
    ∷ kept c.at-4.type_inv c.at-4.ensures i
    ∷ pos (c.at-5.ensures i)
    ∷ kept c.at-6.type_inv c.at-6.ensures i
    ∷ pos (c.at-7.ensures i)
    ∷ []))
