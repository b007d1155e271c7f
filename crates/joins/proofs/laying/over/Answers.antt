use native.Mathlib.Omega.{arith}
use mathlib.Core.Path.{refl, sym, ap, ◌∙◌}
use mathlib.Core.List.{List, []}
use lib.Dec.{ltb}
use lib.ListN.{length}
use Rattle.gaps.specs.declared.Run.{Run}
use borrow.Author.Tests.{le-ltb}
use Rattle.seats.specs.Arrays.{held}
use Rattle.joins.specs.Meet.{Laid}
use Rattle.joins.proofs.Few.{few-met}
use Rattle.joins.proofs.Laid.{laid-count}
use Rattle.joins.proofs.Rows.{rows-met}
use Rattle.joins.proofs.laying.over.Goals as goal

pub returns-then-has-others-le-LIMIT : goal.returns-then-has-others-le-LIMIT
returns-then-has-others-le-LIMIT c = let s = c.args in
    sym (le-ltb 32 _ (few-met (held s.mine) (held s.other) s.at (omega (arith, c.if-has-others-le-LIMIT.true))))

pub returns : goal.returns
returns c = let s = c.args in
    ap (ltb 32) (ap (λ (p : Laid). p.count) c.meet.ensures ∙ laid-count [] [] _ ∙
    ap (λ (l : List Run). length l) (rows-met s.mine s.other (held s.mine) (held s.other) s.at _ _ refl refl c.of.ensures c.of-2.ensures))
