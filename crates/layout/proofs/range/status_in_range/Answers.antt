use lib.Dec.{leb-zero}
use Rattle.layout.specs.Kind.{ranged}
use Rattle.layout.proofs.range.status_in_range.Goals as goal

pub returns : goal.returns
unfolding ranged
returns c = rw leb-zero
