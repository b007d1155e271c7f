use Rattle.std.proofs.Common.{[], ◌∷◌, ◌++◌, pos}
use Rattle.layout.specs.Layout.{snapshot, values}
use Rattle.record.specs.Record.{known}
use Rattle.record.proofs.snapshot.SnapshotListed.fields.Goals as goal

pub returns : goal.returns
unfolding values
returns c = λ i. known snapshot (c.fields.ensures i ++ (pos (c.at.ensures i) ∷ []))
