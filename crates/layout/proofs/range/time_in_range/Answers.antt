use Rattle.layout.specs.Kind.{ranged}
use Rattle.layout.proofs.Ranges.{timed}
use Rattle.layout.proofs.range.time_in_range.Goals as goal

pub returns : goal.returns
unfolding ranged
returns c = timed c.args.v
