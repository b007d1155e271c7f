use Rattle.layout.specs.Kind.{ranged}
use Rattle.layout.proofs.Ranges.{at_least}
use Rattle.layout.proofs.range.number_in_range.Goals as goal

pub returns : goal.returns
unfolding ranged
returns c = at_least c.args.v 1
