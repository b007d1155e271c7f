use Rattle.std.proofs.Common.{[], ◌∷◌, ◌++◌, pos}
use Rattle.layout.specs.Layout.{volume_index, values}
use Rattle.record.specs.Record.{known}
use Rattle.record.proofs.volume_index.VolumeIndexListed.fields.Goals as goal

pub returns : goal.returns
unfolding values
returns c = λ i. known volume_index (c.fields.ensures i ++ (pos (c.at.ensures i) ∷ []))
