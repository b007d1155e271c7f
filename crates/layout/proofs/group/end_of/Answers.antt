use Rattle.std.proofs.Common.{◌≡◌, ◌+◌, ◌-◌, ◌*◌, ◌∙◌, arith}
use Rattle.layout.specs.Paper.{means_groups}
use Rattle.layout.specs.Group as of
use Rattle.layout.specs.Group.{next_offset}
use Rattle.layout.proofs.Walk.{fit_none, fit_short, fit-behind, fit_on, offset_step, offset-none, shown-here, lacks, ends}
use Rattle.layout.proofs.group.end_of.Goals as goal

pub returns-then-n-p : goal.returns-then-n-p
returns-then-n-p c =
    lacks (means_groups c.args.g) c.args.s.now c.args.at c.args.k
    (c.loop.invariant.fits ∙ fit_short (means_groups c.args.g) c.args.s.now c.loop.p (c.args.k - c.loop.counter) (omega arith) (omega arith))

pub returns-then-n-p-2 : goal.returns-then-n-p-2
returns-then-n-p-2 c =
    lacks (means_groups c.args.g) c.args.s.now c.args.at c.args.k
    (c.loop.invariant.fits ∙ fit_short (means_groups c.args.g) c.args.s.now c.loop.p (c.args.k - c.loop.counter) (omega arith) (omega arith))

pub returns-then-n-q : goal.returns-then-n-q
returns-then-n-q c =
    let shown : c.shown-m.result ≡ of.shown (means_groups c.args.g) c.args.s.now c.loop.p = c.shown-m.ensures.0 ∙ shown-here (means_groups c.args.g) _ c.loop.p _ (omega arith) (omega arith) in
    let onward : c.loop.p + c.width-w.result + 8 * c.shown-m.result ≡ next_offset (means_groups c.args.g) c.args.s.now c.loop.p = omega arith in
    lacks (means_groups c.args.g) c.args.s.now c.args.at c.args.k
    (c.loop.invariant.fits ∙ fit-behind (means_groups c.args.g) c.args.s.now c.loop.p (c.args.k - c.loop.counter) (omega arith) (omega arith))

pub loop-preserved : goal.loop-preserved
loop-preserved c =
    let shown : c.shown-m.result ≡ of.shown (means_groups c.args.g) c.args.s.now c.loop.p = c.shown-m.ensures.0 ∙ shown-here (means_groups c.args.g) _ c.loop.p _ (omega arith) (omega arith) in
    let onward : c.loop.p + c.width-w.result + 8 * c.shown-m.result ≡ next_offset (means_groups c.args.g) c.args.s.now c.loop.p = omega arith in
    let left : c.args.k - c.loop.counter - 1 ≡ c.args.k - (c.loop.counter + 1) = omega arith in
    record {
      fits = c.loop.invariant.fits ∙ fit_on (means_groups c.args.g) c.args.s.now c.loop.p (c.args.k - c.loop.counter) (omega arith) (omega arith) ∙ rw (← onward, left);
      ends = c.loop.invariant.ends ∙ offset_step (means_groups c.args.g) c.args.s.now c.loop.p (c.args.k - c.loop.counter) (omega arith) ∙ rw (← onward, left);
    }

pub returns : goal.returns
returns c =
    ends (means_groups c.args.g) c.args.s.now c.args.at c.args.k
    (c.loop.invariant.fits ∙ fit_none _ _ _ _ (omega arith))
    (c.loop.invariant.ends ∙ offset-none _ _ _ _ (omega arith))
