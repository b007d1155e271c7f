use native.Mathlib.Omega.{arith}
use mathlib.Core.Path.{sym, ◌∙◌}
use Rattle.joins.proofs.Steps.{max-larger, walking, left_over, right_over, left-ends, left-on, right_ends, right_on}
use Rattle.joins.proofs.walk.meet.Goals as goal

pub returns-then-n-eq0 : goal.returns-then-n-eq0
returns-then-n-eq0 g c = let x = c.reaching-x.ensures in
    let y = c.reaching-y.ensures in
    let s = c.args in
    let w = walking c.requires.2 x.size y.size x.runs y.runs in
    rw (sym (c.max-top.ensures ∙ max-larger s.mine.highest s.other.highest)) (left_over w (omega (arith, c.if-n-eq0.true)))

pub returns-then-m-eq0 : goal.returns-then-m-eq0
returns-then-m-eq0 g c = let x = c.reaching-x.ensures in
    let y = c.reaching-y.ensures in
    let s = c.args in
    let w = walking c.requires.2 x.size y.size x.runs y.runs in
    rw (sym (c.max-top.ensures ∙ max-larger s.mine.highest s.other.highest)) (right_over w (omega (arith, c.if-m-eq0.true)))

pub run-r-requires : goal.run-r-requires
run-r-requires g c = (c.requires.0, c.reaching-x.ensures.there 0 (omega (arith, c.if-n-eq0.false)))

pub run-s-requires : goal.run-s-requires
run-s-requires g c = (c.requires.1, c.reaching-y.ensures.there 0 (omega (arith, c.if-m-eq0.false)))

pub loop-i-init : goal.loop-i-init
loop-i-init g c = let x = c.reaching-x.ensures in
    let y = c.reaching-y.ensures in
    let s = c.args in
    let w = walking c.requires.2 x.size y.size x.runs y.runs in
    rw (sym (c.max-top.ensures ∙ max-larger s.mine.highest s.other.highest))
    (record { walk = w; here = omega (arith, c.if-n-eq0.false); there = omega (arith, c.if-m-eq0.false); one = c.run-r.ensures; other = c.run-s.ensures })

pub put_shared-requires : goal.put_shared-requires
put_shared-requires g c = let k = c.loop-i.invariant in
    omega (arith, k.walk.few, k.here, k.there, c.reaching-x.ensures.small, c.reaching-y.ensures.small)

pub returns-then-i-n : goal.returns-then-i-n
returns-then-i-n g c = left-ends c.loop-i.invariant c.put_shared.ensures c.if-r-s.true c.if-i-n.true

pub run-r-requires-then-r-s : goal.run-r-requires-then-r-s
run-r-requires-then-r-s g c = (c.requires.0, c.reaching-x.ensures.there _ (omega (arith, c.loop-i.invariant.here, c.if-i-n.false)))

pub loop-i-preserved-then-r-s : goal.loop-i-preserved-then-r-s
loop-i-preserved-then-r-s g c = left-on c.loop-i.invariant c.put_shared.ensures c.if-r-s.true c.if-i-n.false _ c.run-r-then-r-s.ensures

pub returns-then-j-m : goal.returns-then-j-m
returns-then-j-m g c = right_ends c.loop-i.invariant c.put_shared.ensures c.if-r-s.false c.if-j-m.true

pub run-s-requires-else-r-s : goal.run-s-requires-else-r-s
run-s-requires-else-r-s g c = (c.requires.1, c.reaching-y.ensures.there _ (omega (arith, c.loop-i.invariant.there, c.if-j-m.false)))

pub loop-i-preserved : goal.loop-i-preserved
loop-i-preserved g c = right_on c.loop-i.invariant c.put_shared.ensures c.if-r-s.false c.if-j-m.false _ c.run-s-else-r-s.ensures

pub returns : goal.returns
returns g c = absurd (omega (arith, c.loop-i.invariant.here, c.loop-i-test.false))
