use native.Mathlib.Omega.{arith}
use mathlib.Core.Path.{ap, ◌∙◌}
use Rattle.joins.specs.Meet.{Laid}
use Rattle.joins.proofs.Steps.{put-none, put_one, one-more}
use Rattle.joins.proofs.walk.put_shared.Goals as goal

pub returns-then-a-e : goal.returns-then-a-e
returns-then-a-e g c = let s = c.args in
    let p = g.S.Sink.holds s.out.now in
    let e = c.put.ensures in
    (omega (arith, ap (λ (p : Laid). p.count) e ∙ one-more p _), e ∙ put_one p s.r s.s _ _ c.max-a.ensures c.min-e.ensures (omega arith))

pub returns-else-a-e : goal.returns-else-a-e
returns-else-a-e g c = let s = c.args in
    (omega arith, put-none (g.S.Sink.holds s.out.now) s.r s.s _ _ c.max-a.ensures c.min-e.ensures (omega arith))
