-- Two numbers as one, by their bits.
use Prim.Native.Nat.{ℕ, ◌+◌, ◌-◌, ◌^◌, ◌≤◌, ◌<◌}
use native.Mathlib.Omega.{arith}
use mathlib.Core.Path.{◌≡◌, refl, ◌∙◌, sym}
use mathlib.Core.List.{List}
use mathlib.Core.Bool.{Bool, true, false, true≢false, ◌&&◌, and-false, and-true}
use lib.Dec.{leb}
use lib.Bits.{bit_or, or_add_and, or_lt, and_le_l, and_le_r}
use borrow.Author.Tests.{le-leb, lt-leb, leb-true, leb-false}
use Rattle.gaps.specs.Limits.{most_number}
use Rattle.gaps.specs.Gaps.{canon}
use Rattle.seats.specs.Places.{span}
use Rattle.seats.specs.Rules.{all_zero, sound_row}

-- an or is at most all ones where both are
pub leb_or : (m k a b : ℕ) → m + 1 ≡ 2 ^ k → leb (bit_or a b) m ≡ (leb a m && leb b m)
leb_or m k a b e = go (leb a m) refl (leb b m) refl
  where
    go : (x : Bool) → leb a m ≡ x → (y : Bool) → leb b m ≡ y → leb (bit_or a b) m ≡ (leb a m && leb b m)
    go true p true q =
        let h : bit_or a b < 2 ^ k = or_lt k a b (omega (arith, e, leb-true a m p)) (omega (arith, e, leb-true b m q)) in
        rw (p, q) (le-leb (bit_or a b) m (omega (arith, e, h)))
    go true p false q = rw (p, q) (lt-leb (bit_or a b) m (omega (arith, leb-false b m q, or_add_and a b, and_le_l a b)))
    go false p y q = rw p (lt-leb (bit_or a b) m (omega (arith, leb-false a m p, or_add_and a b, and_le_r a b)))

module _ (from h : ℕ) where
  most_or : leb (bit_or from h) most_number ≡ (leb from most_number && leb h most_number)
  most_or = leb_or most_number 63 from h refl

  -- both are numbers that can come, by their or
  pub most_both : bit_or from h ≤ most_number → (from ≤ most_number) × (h ≤ most_number)
  most_both p =
      let s = or_add_and from h in
      (omega (arith, p, s, and_le_r from h), omega (arith, p, s, and_le_l from h))

  -- one of them is not
  pub row-over : (n : ℕ) (f l : List ℕ) (b : ℕ) → n ≤ 32 → most_number < bit_or from h → sound_row from h n f l b ≡ false
  unfolding sound_row
  row-over n f l b p q = go (leb from most_number) refl (leb h most_number) refl (sym most_or ∙ lt-leb (bit_or from h) most_number q)
    where
      go : (x : Bool) → leb from most_number ≡ x → (y : Bool) → leb h most_number ≡ y → (leb from most_number && leb h most_number) ≡ false → sound_row from h n f l b ≡ false
      go x a false c e = rw (le-leb n 32 p, c)
      go false a true c e = rw (le-leb n 32 p, c, a, and-false (leb 1 from))
      go true a true c e = absurd (true≢false (rw (a, c) at e))

  -- neither is, and the row's own rules are left
  pub row_rest : (n : ℕ) (f l : List ℕ) (b : ℕ) → n ≤ 32 → bit_or from h ≤ most_number →
      sound_row from h n f l b ≡ ((leb 1 from && leb from (h + 1)) && (canon from h (span f l b n) && all_zero (span f l (b + n) (32 - n))))
  unfolding sound_row
  row_rest n f l b p q =
      let m = most_both q in
      rw (le-leb n 32 p, le-leb h most_number m.1, le-leb from most_number m.0, and-true (leb 1 from))

  -- without a run, the places alone
  pub row-none : (n : ℕ) (f l : List ℕ) (b : ℕ) → n ≡ 0 → (canon from h (span f l b n) && all_zero (span f l (b + n) (32 - n))) ≡ all_zero (span f l b ((b + 32) - b))
  unfolding canon span
  row-none n f l b e =
      let y : b + 0 ≡ b = omega arith in
      let z : (b + 32) - b ≡ 32 = omega arith in
      rw (e, y, z)
