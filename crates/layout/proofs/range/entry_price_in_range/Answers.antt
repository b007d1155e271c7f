use Prim.Native.Nat.{◌-◌}
use borrow.Author.Rules.{rules}
use lib.Dec.{lit<}
use Rattle.layout.specs.Kind.{ranged, entry_price_limit}
use Rattle.layout.proofs.Ranges.{around_0}
use Rattle.layout.proofs.range.entry_price_in_range.Goals as goal

pub returns : goal.returns
unfolding ranged
returns c = around_0 c.args.v (entry_price_limit - 1) (lit< tt) (search rules)
