use Rattle.std.proofs.Common.{rules}
use Rattle.window.proofs.Slides.{left-turn}
use Rattle.window.proofs.each.Goals as goal

pub returns-then-ends : goal.returns-then-ends
returns-then-ends g c =
    left-turn _ _ _ _ c.in_ok-filled.filled c.in_ok-from.from _ _ _ _ c.loop.invariant c.fill.ensures.stay c.slide-left.ensures
    (Prim.search rules) (Prim.search rules) (Prim.search rules) (Prim.search rules)

pub loop-preserved : goal.loop-preserved
loop-preserved g c =
    left-turn _ _ _ _ c.in_ok-filled.filled c.in_ok-from.from _ _ _ _ c.loop.invariant c.fill.ensures.stay c.slide-left.ensures
    (Prim.search rules) (Prim.search rules) (Prim.search rules) (Prim.search rules)
