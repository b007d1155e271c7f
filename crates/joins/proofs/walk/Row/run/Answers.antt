use native.Mathlib.Omega.{arith}
use borrow.Author.Tests.{eq-eqb, ne_eqb}
use Rattle.joins.specs.Meet.{run_at}
use Rattle.joins.proofs.walk.Row.run.Goals as goal

pub returns-then-j-r : goal.returns-then-j-r
unfolding run_at
returns-then-j-r c = let s = c.args in rw (eq-eqb s.j s.r.at (omega arith))

pub returns : goal.returns
unfolding run_at
returns c = let s = c.args in rw (ne_eqb s.j s.r.at c.if-j-r.false)
