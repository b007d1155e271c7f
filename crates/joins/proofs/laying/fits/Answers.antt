use native.Mathlib.Omega.{arith}
use Prim.Native.Nat.{◌-◌}
use mathlib.Core.Path.{◌≡◌, ◌∙◌, sym}
use borrow.Author.Tests.{ltb-true, ltb-false}
use Rattle.seats.specs.Arrays.{held}
use Rattle.joins.specs.Meet.{met_runs}
use Rattle.joins.proofs.Pass.{over-here, over_pass, over-end}
use Rattle.joins.proofs.laying.fits.Goals as goal

pub loop-i-init : goal.loop-i-init
loop-i-init c = (let e : c.args.mine.count - 0 ≡ c.args.mine.count = omega arith in rw e)

pub returns-then-over : goal.returns-then-over
returns-then-over c = let s = c.args in
    let k = c.loop-i in
    rw (k.invariant ∙ over-here (met_runs (held s.mine) (held s.other)) k.i s.mine.count (omega arith) (ltb-true 32 _ (sym c.over.ensures ∙ c.if-over.true)))

pub loop-i-preserved : goal.loop-i-preserved
loop-i-preserved c = let s = c.args in
    let k = c.loop-i in
    k.invariant ∙ over_pass (met_runs (held s.mine) (held s.other)) k.i s.mine.count (omega arith) (ltb-false 32 _ (sym c.over.ensures ∙ c.if-over.false))

pub returns : goal.returns
returns c = let s = c.args in
    let k = c.loop-i in
    rw (k.invariant ∙ over-end (met_runs (held s.mine) (held s.other)) k.i s.mine.count (omega arith))
