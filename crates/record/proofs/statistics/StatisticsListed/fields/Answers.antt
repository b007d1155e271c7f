use Rattle.std.proofs.Common.{[], ◌∷◌, pos}
use Rattle.layout.specs.Layout.{statistics, values}
use Rattle.record.specs.Record.{known}
use Rattle.record.proofs.Tell.{kept}
use Rattle.record.proofs.statistics.StatisticsListed.fields.Goals as goal

pub returns : goal.returns
unfolding values
returns c =
    (λ i.
    known statistics
    (kept c.at.type_inv c.at.ensures i
    ∷ pos (c.at-2.ensures i)
    ∷ pos (c.at-3.ensures i)
    ∷ []))
