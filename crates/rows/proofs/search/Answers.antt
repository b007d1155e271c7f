use native.Mathlib.Omega.{arith}
use Prim.Native.Nat.{◌+◌, ◌*◌, ◌-◌}
use mathlib.Core.Path.{◌≡◌, refl, ◌∙◌, sym}
use Rattle.rows.proofs.Row.{there_yes}
use Rattle.rows.proofs.Found.{held_row, held_none, sought-here, sought_pass, sought-end}
use Rattle.rows.proofs.search.Goals as goal

pub overflow_mul-b : goal.overflow_mul-b
overflow_mul-b c = let s = c.args in
    omega (arith, there_yes s.at s.count (sym c.there.ensures ∙ c.if-there.true))

pub loop-j-init : goal.loop-j-init
loop-j-init c = let s = c.args in
    let h = there_yes s.at s.count (sym c.there.ensures ∙ c.if-there.true) in
    let e : s.at * 32 + 0 ≡ s.at * 32 = omega arith in
    let d : s.count - 0 ≡ s.count = omega arith in
    (omega arith, h.1, h.0, refl, rw (e, d))

pub returns-then-n-last : goal.returns-then-n-last
returns-then-n-last c = let s = c.args in
    let k = c.loop-j in
    let t = sym c.there.ensures ∙ c.if-there.true in
    c.left.ensures ∙ sym (held_row s.first.now s.last.now s.at s.count s.n t ∙ k.invariant.4 ∙ sought-here s.first.now s.last.now (s.at * 32) s.count k.j s.n (omega arith) (omega arith))

pub loop-j-preserved : goal.loop-j-preserved
loop-j-preserved c = let s = c.args in
    let k = c.loop-j in
    (omega arith, k.invariant.1, k.invariant.2, k.invariant.3, k.invariant.4 ∙ sought_pass s.first.now s.last.now (s.at * 32) s.count k.j s.n (omega arith) (omega arith))

pub returns-after-loop-j : goal.returns-after-loop-j
returns-after-loop-j c = let s = c.args in
    let k = c.loop-j in
    let t = sym c.there.ensures ∙ c.if-there.true in
    let e : k.j ≡ s.count = omega arith in
    sym (held_row s.first.now s.last.now s.at s.count s.n t ∙ (rw e at k.invariant.4) ∙ sought-end s.first.now s.last.now (s.at * 32 + s.count) (s.at * 32 + s.count) s.count s.n)

pub returns-else-there : goal.returns-else-there
returns-else-there c = let s = c.args in
    sym (held_none s.first.now s.last.now s.at s.count s.n (sym c.there.ensures ∙ c.if-there.false))
