use lib.Dec.{lit<}
use Rattle.layout.specs.Kind.{ranged, amount_limit}
use Rattle.layout.proofs.Ranges.{up_to}
use Rattle.layout.proofs.range.amount_in_range.Goals as goal

pub returns : goal.returns
unfolding ranged
returns c = up_to c.args.v amount_limit (lit< tt)
