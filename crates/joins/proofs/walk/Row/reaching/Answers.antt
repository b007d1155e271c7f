use native.Mathlib.Omega.{arith}
use Rattle.joins.proofs.Steps.{reach-none, reach-first, reach_touch, reach-next}
use Rattle.joins.proofs.walk.Row.reaching.Goals as goal

pub returns-then-top-highest : goal.returns-then-top-highest
returns-then-top-highest c = reach-none _ _ _ _ _ _ c.requires.1 (omega arith)

pub returns-then-count-eq0 : goal.returns-then-count-eq0
returns-then-count-eq0 c = reach-first _ _ _ _ _ _ c.requires.1 (omega arith) (omega arith)

pub returns-then-last-begin : goal.returns-then-last-begin
returns-then-last-begin c = reach_touch _ _ _ _ _ _ c.requires.1 (omega arith) (omega arith) (omega arith)

pub returns : goal.returns
returns c = reach-next _ _ _ _ _ _ c.requires.1 (omega arith) (omega arith) c.if-last-begin.false
