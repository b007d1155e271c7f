use Rattle.std.proofs.Common.{[], ◌∷◌, pos}
use Rattle.layout.specs.Layout.{values}
use Rattle.record.proofs.Tell.{kept}
use Rattle.record.proofs.common.Common.read.Goals as goal

pub returns : goal.returns
unfolding values
returns c =
    λ i.
    kept c.at.type_inv c.at.ensures i
    ∷ pos (c.at-2.ensures i)
    ∷ kept c.at-3.type_inv c.at-3.ensures i
    ∷ kept c.at-4.type_inv c.at-4.ensures i
    ∷ kept c.at-5.type_inv c.at-5.ensures i
    ∷ kept c.at-6.type_inv c.at-6.ensures i
    ∷ []
