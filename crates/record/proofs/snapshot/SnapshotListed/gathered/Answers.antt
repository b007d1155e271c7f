use Rattle.layout.specs.Layout.{texts}
use Rattle.record.proofs.snapshot.SnapshotListed.gathered.Goals as goal

pub returns : goal.returns
unfolding texts
returns c = c.gathered.ensures
