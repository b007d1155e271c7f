-- The tests and the cast of a signed number.
use Prim.Native.Nat.{◌≤◌, zero-le}
use native.Mathlib.Omega.{arith}
use mathlib.Core.Path.{◌≡◌, refl, sym, ◌∙◌}
use mathlib.Core.Bool.{true, false, false≢true}
use lib.Dec.{T, ltb}
use lib.IntN.{ℤ, pos, negsuc, nat_abs}
use lib.Signed.{lt_z, non_neg}
use mir.Syntax.{w64}
use mir.Val.{Fits, SFits}
use borrow.Author.Tests.{le-ltb}
use Rattle.gaps.specs.Limits.{most_number}
use Rattle.gaps.specs.Channel.{natural}

pub natural-none : (z : ℤ) → lt_z z (pos 0) ≡ true → 0 ≡ natural z
natural-none (pos n) e = absurd (false≢true (sym (le-ltb n 0 zero-le) ∙ e))
natural-none (negsuc n) e = refl

pub natural-some : (z : ℤ) → lt_z z (pos 0) ≡ false → nat_abs z ≡ natural z
natural-some (pos n) e = refl
natural-some (negsuc n) e = absurd (false≢true (sym e))

pub cast_some : (z : ℤ) → SFits w64 z → lt_z z (pos 0) ≡ false → T (non_neg z) × Fits w64 (nat_abs z)
cast_some (pos n) s e = (tt, record { fits = omega (arith, s.sfits) })
cast_some (negsuc n) s e = absurd (false≢true (sym e))

-- an arrival's number is at most the largest that the record holds
pub natural_most : (z : ℤ) → SFits w64 z → natural z ≤ most_number
natural_most (pos n) s = omega (arith, s.sfits)
natural_most (negsuc n) s = zero-le

-- a number that is not below zero is its natural one
pub natural_pos : (z : ℤ) → lt_z z (pos 0) ≡ false → z ≡ pos (natural z)
natural_pos (pos n) e = refl
natural_pos (negsuc n) e = absurd (false≢true (sym e))

pub below_one : (z : ℤ) → lt_z z (pos 1) ≡ ltb (natural z) 1
below_one (pos n) = refl
below_one (negsuc n) = refl

pub natural-one : (z : ℤ) → 1 ≤ natural z → z ≡ pos (natural z)
natural-one (pos n) h = refl
natural-one (negsuc n) h = absurd (omega arith)
