use Rattle.std.proofs.Common.{[], ◌∷◌, pos}
use Rattle.layout.specs.Layout.{security_status, values}
use Rattle.record.specs.Record.{known}
use Rattle.record.proofs.Tell.{kept}
use Rattle.record.proofs.security_status.SecurityStatusListed.fields.Goals as goal

pub returns : goal.returns
unfolding values
returns c =
    (λ i.
    known security_status
    (kept c.at.type_inv c.at.ensures i
    ∷ pos (c.at-2.ensures i)
    ∷ pos (c.at-3.ensures i)
    ∷ []))
