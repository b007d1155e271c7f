-- Ranges of numbers with a sign, tested on the number without one; once for every bound.
-- Assumes nothing.
use Prim.Native.Nat.{ℕ, suc, ◌-◌, ◌/◌, ◌%◌, ◌<◌, ◌≤◌, ◌^◌}
use mathlib.Core.Path.{◌≡◌, refl}
use mathlib.Core.Bool.{Bool, true, false, ◌&&◌, ◌||◌, and-true, and-false, or-false}
use native.Mathlib.Omega.{arith}
use borrow.Author.Tests.{le-leb, lt-leb, le-ltb, ltb-true, ltb-false, leb-true, leb-false}
use lib.Dec.{leb, ltb, leb-zero}
use lib.IntN.{pos, negsuc}
use lib.Signed.{le_z}
use mir.Syntax.{w64}
use mir.Val.{to_z}
use Rattle.layout.specs.Kind.{timely, month, hour, minute, second, year}

-- a number of 64 bits is below 2^63 and itself, or it is negative
module _ (v : ℕ) where
  low_by : (low : ℕ) (b : Bool) → ltb v (2 ^ 63) ≡ b → leb low v && leb v 9223372036854775807 ≡ le_z (pos low) (to_z w64 v)
  low_by low true e =
      let g : v < 2 ^ 63 = ltb-true _ _ e in
      rw (e, le-leb v 9223372036854775807 (omega arith), and-true)
  low_by low false e =
      let g : 2 ^ 63 ≤ v = ltb-false _ _ e in
      rw (e, lt-leb v 9223372036854775807 (omega arith), and-false)

  -- at least a number
  pub at_least : (low : ℕ) → leb low v && leb v 9223372036854775807 ≡ le_z (pos low) (to_z w64 v)
  at_least low = low_by low (ltb v (2 ^ 63)) refl

  pub at_least_0 : leb v 9223372036854775807 ≡ le_z (pos 0) (to_z w64 v)
  at_least_0 = rw (leb-zero v) at (at_least 0)

  up_by : (high : ℕ) → high < 2 ^ 63 → (b : Bool) → ltb v (2 ^ 63) ≡ b → leb v high ≡ le_z (pos 0) (to_z w64 v) && le_z (to_z w64 v) (pos high)
  up_by high h true e = rw (e, leb-zero v)
  up_by high h false e =
      let g : 2 ^ 63 ≤ v = ltb-false _ _ e in
      rw (e, lt-leb v high (omega arith))

  -- from 0 to a number
  pub up_to : (high : ℕ) → high < 2 ^ 63 → leb v high ≡ le_z (pos 0) (to_z w64 v) && le_z (to_z w64 v) (pos high)
  up_to high h = up_by high h (ltb v (2 ^ 63)) refl

  far : (n : ℕ) → n < 2 ^ 63 → v < 2 ^ 64 → (b : Bool) → leb (2 ^ 64 - suc n) v ≡ b → b ≡ leb (2 ^ 64 - suc v) n
  far n h f true e =
      let g : 2 ^ 64 - suc n ≤ v = leb-true _ _ e in
      rw (le-leb (2 ^ 64 - suc v) n (omega arith))
  far n h f false e =
      let g : v < 2 ^ 64 - suc n = leb-false _ _ e in
      rw (lt-leb (2 ^ 64 - suc v) n (omega arith))

  around_by : (n : ℕ) → suc n < 2 ^ 63 → v < 2 ^ 64 → (b : Bool) → ltb v (2 ^ 63) ≡ b → leb v (suc n) || leb (2 ^ 64 - suc n) v ≡ le_z (negsuc n) (to_z w64 v) && le_z (to_z w64 v) (pos (suc n))
  around_by n h f true e =
      let g : v < 2 ^ 63 = ltb-true _ _ e in
      rw (e, lt-leb (2 ^ 64 - suc n) v (omega arith), or-false)
  around_by n h f false e =
      let g : 2 ^ 63 ≤ v = ltb-false _ _ e in
      rw (e, lt-leb v (suc n) (omega arith), and-true) (far n (omega arith) f (leb (2 ^ 64 - suc n) v) refl)

  -- as far below 0 as above
  pub around_0 : (n : ℕ) → suc n < 2 ^ 63 → v < 2 ^ 64 → leb v (suc n) || leb (2 ^ 64 - suc n) v ≡ le_z (negsuc n) (to_z w64 v) && le_z (to_z w64 v) (pos (suc n))
  around_0 n h f = around_by n h f (ltb v (2 ^ 63)) refl

-- a time by its date and its clock
year_by : (v : ℕ) (b : Bool) → ltb v 100000000000000000 ≡ b → b ≡ leb (year v) 9999
year_by v true e =
    let g : v < 100000000000000000 = ltb-true _ _ e in
    rw (le-leb (year v) 9999 (omega arith))
year_by v false e =
    let g : 100000000000000000 ≤ v = ltb-false _ _ e in
    rw (lt-leb (year v) 9999 (omega arith))

-- what the code tests
abbrev pub by_clock : ℕ → Bool
by_clock v =
    (leb 1 (v / 1000000000 / 100 % 100) && leb (v / 1000000000 / 100 % 100) 12)
    && ((leb 1 (v / 1000000000 % 100) && leb (v / 1000000000 % 100) 31)
    && (leb (v % 1000000000 / 10000000) 23
    && (leb (v % 1000000000 / 100000 % 100) 59
    && (leb (v % 1000000000 / 1000 % 100) 60 && ltb v 100000000000000000))))

by_digits : (v : ℕ) → by_clock v ≡ timely (pos v)
unfolding timely
by_digits v =
    let a : v / 1000000000 / 100 % 100 ≡ month v = omega arith in
    let b : v % 1000000000 / 10000000 ≡ hour v = omega arith in
    let c : v % 1000000000 / 100000 % 100 ≡ minute v = omega arith in
    let d : v % 1000000000 / 1000 % 100 ≡ second v = omega arith in
    rw (a, b, c, d, leb-zero (hour v), leb-zero (minute v), leb-zero (second v), leb-zero (year v), year_by v (ltb v 100000000000000000) refl)

time_by : (v : ℕ) (b : Bool) → ltb v (2 ^ 63) ≡ b → by_clock v ≡ timely (to_z w64 v)
unfolding timely
time_by v true e = rw e (by_digits v)
time_by v false e =
    let g : 2 ^ 63 ≤ v = ltb-false _ _ e in
    rw (e, le-ltb v 100000000000000000 (omega arith)) (simp and-false)

pub timed : (v : ℕ) → by_clock v ≡ timely (to_z w64 v)
timed v = time_by v (ltb v (2 ^ 63)) refl
