use native.Mathlib.Nat.{min-le_left, min-le_right}
use native.Mathlib.Omega.{arith}
use Prim.Native.Nat.{ℕ, ◌-◌}
use mathlib.Core.Path.{◌≡◌, refl, ap, ◌∙◌}
use lib.IntN.{ℤ, pos}
use lib.ListN.{length, get_or}
use mir.Syntax.{w64}
use mir.Facts.{to_z-of_z}
use Rattle.tracker.proofs.Lowered.{lowered-more, lowered_end}
use Rattle.tracker.proofs.starts.lowered.Goals as goal

pub loop-i-init : goal.loop-i-init
loop-i-init c = refl

pub loop-i-preserved : goal.loop-i-preserved
loop-i-preserved c = let s = c.args in
    let k = c.loop-i in
    let a = min-le_left (length s.from.now) 8 in
    let b = min-le_right (length s.from.now) 8 in
    let z : ℤ = get_or s.from.now k.i (pos 0) in
    let n = rw (to_z-of_z {w = w64} {z = z} (record { sfits = c.natural-arg-1.given })) at c.natural.ensures in
    rw k.invariant (lowered-more s.by s.from.now k.i (omega (arith, c.min-i-end.ensures)) (omega (arith, c.min-i-end.ensures)) c.saturating_sub.result (c.saturating_sub.ensures ∙ ap (λ (x : ℕ). x - s.by) n))

pub returns : goal.returns
returns c = let s = c.args in
    let k = c.loop-i in
    let e : k.i ≡ c.min-i-end.result = omega arith in
    k.invariant ∙ lowered_end s.by s.from.now k.i (e ∙ c.min-i-end.ensures)
