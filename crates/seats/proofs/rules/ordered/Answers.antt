use native.Mathlib.Omega.{arith}
use mathlib.Core.Path.{refl, ◌∙◌, sym}
use borrow.Author.Tests.{eq-eqb, ne_eqb}
use Rattle.seats.proofs.Span.{canon_low, canon_back, canon-over, canon_pass, canon-end}
use Rattle.seats.proofs.rules.ordered.Goals as goal

pub loop-i-init : goal.loop-i-init
loop-i-init c = (omega arith, omega arith, refl)

pub returns-then-a-low : goal.returns-then-a-low
returns-then-a-low c = let s = c.args in
    let k = c.loop-i in
    ne_eqb k.i s.to (λ e. omega arith) ∙ sym (k.invariant.2 ∙ canon_low s.fields.first.now s.fields.last.now k.i s.to k.low s.highest (omega arith) (omega arith))

pub returns-then-e-a : goal.returns-then-e-a
returns-then-e-a c = let s = c.args in
    let k = c.loop-i in
    ne_eqb k.i s.to (λ e. omega arith) ∙ sym (k.invariant.2 ∙ canon_back s.fields.first.now s.fields.last.now k.i s.to k.low s.highest (omega arith) (omega arith) (omega arith))

pub returns-then-highest-e : goal.returns-then-highest-e
returns-then-highest-e c = let s = c.args in
    let k = c.loop-i in
    ne_eqb k.i s.to (λ e. omega arith) ∙ sym (k.invariant.2 ∙ canon-over s.fields.first.now s.fields.last.now k.i s.to k.low s.highest (omega arith) (omega arith) (omega arith) (omega arith))

pub loop-i-preserved : goal.loop-i-preserved
loop-i-preserved c = let s = c.args in
    let k = c.loop-i in
    (omega arith, omega arith, k.invariant.2 ∙ canon_pass s.fields.first.now s.fields.last.now k.i s.to k.low s.highest (omega arith) (omega arith) (omega arith) (omega arith))

pub returns : goal.returns
returns c = let s = c.args in
    let k = c.loop-i in
    eq-eqb s.to s.to refl ∙ sym (k.invariant.2 ∙ canon-end s.fields.first.now s.fields.last.now k.i s.to k.low s.highest (omega arith))
