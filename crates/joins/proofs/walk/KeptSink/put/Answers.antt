use native.Mathlib.Omega.{arith}
use borrow.Author.Tests.{lt-ltb, le-ltb}
use Rattle.joins.specs.Meet.{laid_one}
use Rattle.joins.proofs.walk.KeptSink.put.Goals as goal

pub returns-then-k-lt-LIMIT : goal.returns-then-k-lt-LIMIT
unfolding laid_one
returns-then-k-lt-LIMIT c = rw (lt-ltb c.args.self.now.count 32 (omega arith))

pub returns-else-k-lt-LIMIT : goal.returns-else-k-lt-LIMIT
unfolding laid_one
returns-else-k-lt-LIMIT c = rw (le-ltb c.args.self.now.count 32 (omega arith))
