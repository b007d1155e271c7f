use Rattle.layout.specs.Kind.{ranged}
use Rattle.layout.proofs.Ranges.{at_least_0}
use Rattle.layout.proofs.range.natural_in_range.Goals as goal

pub returns : goal.returns
unfolding ranged
returns c = at_least_0 c.args.v
