use native.Mathlib.Omega.{arith}
use Prim.Native.Nat.{◌<◌}
use mathlib.Core.Path.{◌≡◌, refl, ◌∙◌, sym}
use mathlib.Core.Bool.{Bool}
use lib.Dec.{ltb}
use lib.IntN.{ℤ, pos}
use lib.ListN.{get_or}
use lib.Signed.{lt_z, mag}
use mir.Syntax.{w64}
use mir.Val.{of_z, to_z}
use mir.Facts.{to_z-of_z}
use borrow.Author.Tests.{ltb-true, ltb-false}
use Rattle.gaps.specs.Channel.{natural}
use Rattle.gaps.proofs.Signed.{below_one, natural_most}
use Rattle.seats.proofs.Ascends.{firsts_low, firsts_pass, firsts-end}
use Rattle.seats.proofs.rules.counted.Goals as goal

-- the test of a number as the code holds it
tested : (z : ℤ) {b : Bool} → mag z < 9223372036854775808 → lt_z (to_z w64 (of_z w64 z)) (pos 1) ≡ b → ltb (natural z) 1 ≡ b
tested z h e = sym (below_one z) ∙ (rw (to_z-of_z {w = w64} {z = z} (record { sfits = h })) at e)

pub loop-number-init : goal.loop-number-init
loop-number-init c = (omega arith, refl)

pub returns-then-number : goal.returns-then-number
returns-then-number c = let l = c.args.from.now in
    let k = c.loop-number in
    let h : mag (get_or l k.number-index (pos 0)) < 9223372036854775808 = omega arith in
    sym (k.invariant.1 ∙ firsts_low l k.number-index (omega arith) (ltb-true _ 1 (tested (get_or l k.number-index (pos 0)) h c.if-number.true)))

pub loop-number-preserved : goal.loop-number-preserved
loop-number-preserved c = let l = c.args.from.now in
    let k = c.loop-number in
    let h : mag (get_or l k.number-index (pos 0)) < 9223372036854775808 = omega arith in
    (omega arith, k.invariant.1 ∙ firsts_pass l k.number-index (omega arith) (ltb-false _ 1 (tested (get_or l k.number-index (pos 0)) h c.if-number.false)) (natural_most (get_or l k.number-index (pos 0)) (record { sfits = h })))

pub returns : goal.returns
returns c = let k = c.loop-number in
    sym (k.invariant.1 ∙ firsts-end _ k.number-index (omega arith))
