use Rattle.std.proofs.Common.{[], ◌∷◌, pos}
use Rattle.layout.specs.Layout.{resend, values}
use Rattle.record.specs.Record.{known}
use Rattle.record.proofs.Tell.{kept}
use Rattle.record.proofs.resend.ResendListed.fields.Goals as goal

pub returns : goal.returns
unfolding values
returns c =
    (λ i.
    known resend
    (pos (c.at.ensures i)
    ∷ pos (c.at-2.ensures i)
    ∷ kept c.at-3.type_inv c.at-3.ensures i
    ∷ kept c.at-4.type_inv c.at-4.ensures i
    ∷ pos (c.at-5.ensures i)
    ∷ []))
