use native.Mathlib.Omega.{arith}
use Prim.Native.Nat.{◌-◌}
use mathlib.Core.Path.{◌≡◌, ◌∙◌, sym}
use Rattle.seats.specs.Arrays.{held}
use Rattle.seats.specs.Rules.{sound_channels}
use Rattle.seats.proofs.Heads.{rows_low, rows_bad, rows_pass, rows_end}
use Rattle.seats.proofs.rules.channels.Goals as goal

pub loop-i-init : goal.loop-i-init
loop-i-init c = let e : c.args.fields.count - 0 ≡ c.args.fields.count = omega arith in (omega arith, rw e)

pub returns-then-number-low : goal.returns-then-number-low
unfolding sound_channels
returns-then-number-low c = let s = c.args.fields in
    let k = c.loop-i in
    rw (k.invariant.1 ∙ rows_low (held s) k.low k.i s.count (omega arith) (omega arith))

pub returns-then-not-good : goal.returns-then-not-good
unfolding sound_channels
returns-then-not-good c = let s = c.args.fields in
    let k = c.loop-i in
    rw (k.invariant.1 ∙ rows_bad (held s) k.low k.i s.count (omega arith) (omega arith) (sym c.row-good.ensures ∙ c.if-not-good.true))

pub loop-i-preserved : goal.loop-i-preserved
loop-i-preserved c = let s = c.args.fields in
    let k = c.loop-i in
    (omega arith, rw c.from-number.ensures (k.invariant.1 ∙ rows_pass (held s) k.low k.i s.count (omega arith) (omega arith) (sym c.row-good.ensures ∙ c.if-not-good.false)))

pub returns : goal.returns
unfolding sound_channels
returns c = let s = c.args.fields in
    let k = c.loop-i in
    rw (k.invariant.1 ∙ rows_end (held s) k.low k.i s.count (omega arith)) c.marked.ensures
