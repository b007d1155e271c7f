use native.Mathlib.Omega.{arith}
use mathlib.Core.Path.{refl, ◌∙◌}
use Rattle.seats.specs.Arrays.{held}
use Rattle.seats.specs.Rules.{unused}
use Rattle.seats.proofs.Heads.{blank-number, blank-from, blank-highest, blank-ended, blank-count, blank_pass, blank-end}
use Rattle.seats.proofs.rules.unused.Goals as goal

pub loop-i-init : goal.loop-i-init
loop-i-init c = (omega arith, refl)

pub returns-then-fields-i-ne0 : goal.returns-then-fields-i-ne0
unfolding unused
returns-then-fields-i-ne0 c = let s = c.args.fields in
    let k = c.loop-i in
    rw (k.invariant.1 ∙ blank-number (held s) k.i 8 (omega arith) c.if-fields-i-ne0.true)

pub returns-then-fields-i-ne0-2 : goal.returns-then-fields-i-ne0-2
unfolding unused
returns-then-fields-i-ne0-2 c = let s = c.args.fields in
    let k = c.loop-i in
    rw (k.invariant.1 ∙ blank-from (held s) k.i 8 (omega arith) (omega arith) c.if-fields-i-ne0-2.true)

pub returns-then-fields-i-ne0-3 : goal.returns-then-fields-i-ne0-3
unfolding unused
returns-then-fields-i-ne0-3 c = let s = c.args.fields in
    let k = c.loop-i in
    rw (k.invariant.1 ∙ blank-highest (held s) k.i 8 (omega arith) (omega arith) (omega arith) c.if-fields-i-ne0-3.true)

pub returns-then-fields-i-ne0-4 : goal.returns-then-fields-i-ne0-4
unfolding unused
returns-then-fields-i-ne0-4 c = let s = c.args.fields in
    let k = c.loop-i in
    rw (k.invariant.1 ∙ blank-ended (held s) k.i 8 (omega arith) (omega arith) (omega arith) (omega arith) c.if-fields-i-ne0-4.true)

pub returns-then-fields-i-ne0-5 : goal.returns-then-fields-i-ne0-5
unfolding unused
returns-then-fields-i-ne0-5 c = let s = c.args.fields in
    let k = c.loop-i in
    rw (k.invariant.1 ∙ blank-count (held s) k.i 8 (omega arith) (omega arith) (omega arith) (omega arith) (omega arith) c.if-fields-i-ne0-5.true)

pub loop-i-preserved : goal.loop-i-preserved
loop-i-preserved c = let s = c.args.fields in
    let k = c.loop-i in
    (omega arith, k.invariant.1 ∙ blank_pass (held s) k.i 8 (omega arith) (omega arith) (omega arith) (omega arith) (omega arith) (omega arith))

pub returns : goal.returns
unfolding unused
returns c = let s = c.args.fields in
    let k = c.loop-i in
    rw (k.invariant.1 ∙ blank-end (held s) k.i 8 (omega arith)) c.cleared.ensures
