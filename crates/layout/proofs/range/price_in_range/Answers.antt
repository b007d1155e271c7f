use Prim.Native.Nat.{◌-◌}
use borrow.Author.Rules.{rules}
use lib.Dec.{lit<}
use Rattle.layout.specs.Kind.{ranged, price_limit}
use Rattle.layout.proofs.Ranges.{around_0}
use Rattle.layout.proofs.range.price_in_range.Goals as goal

pub returns : goal.returns
unfolding ranged
returns c = around_0 c.args.v (price_limit - 1) (lit< tt) (search rules)
