use native.Mathlib.Omega.{arith}
use mathlib.Core.Path.{refl, ◌∙◌, sym}
use Rattle.seats.proofs.Span.{gather, gathered}
use Rattle.seats.proofs.rules.cleared.Goals as goal

pub loop-i-init : goal.loop-i-init
loop-i-init c = (omega arith, omega arith, refl)

pub loop-i-preserved : goal.loop-i-preserved
loop-i-preserved c = let s = c.args in
    let k = c.loop-i in
    (omega arith, omega arith, k.invariant.2 ∙ gather s.fields.first.now s.fields.last.now k.i s.to k.bits (omega arith))

pub returns : goal.returns
returns c = let s = c.args in
    let k = c.loop-i in
    sym (k.invariant.2 ∙ gathered s.fields.first.now s.fields.last.now k.i s.to k.bits (omega arith))
