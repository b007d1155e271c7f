use Rattle.layout.specs.Layout.{texts}
use Rattle.record.proofs.volume_index.VolumeIndexListed.gathered.Goals as goal

pub returns : goal.returns
unfolding texts
returns c = c.gathered.ensures
