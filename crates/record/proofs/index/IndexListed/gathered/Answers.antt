use Rattle.layout.specs.Layout.{texts}
use Rattle.record.proofs.index.IndexListed.gathered.Goals as goal

pub returns : goal.returns
unfolding texts
returns c = c.gathered.ensures
