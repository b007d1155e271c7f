-- Decimal digits, made from the last to the first into the end of a buffer.
-- Assumes nothing.
use Prim.Native.Nat.{ℕ, zero, suc, ◌+◌, ◌-◌, ◌/◌, ◌%◌, ◌^◌, ◌≤◌, ◌<◌}
use mathlib.Core.Path.{◌≡◌, refl, ap, ◌∙◌}
use mathlib.Core.List.{List, [], ◌∷◌, ◌++◌, append_assoc}
use native.Mathlib.Nat.{pow-suc}
use native.Mathlib.Omega.{arith}
use borrow.Author.Tests.{le-leb, lt-leb}
use lib.ListN.{length, take, drop, set}
use lib.Seq.{set_split, drop_at, length-take-le}
use Rattle.text.specs.Text.{glyph, glyphs, offset_behind}

drop-set : (l : List ℕ) (i a : ℕ) → i < length l → drop i (set l i a) ≡ a ∷ drop (suc i) l
drop-set l i a h = rw (set_split l i a h) (drop_at (take i l) (a ∷ drop (suc i) l) i (length-take-le i l (omega arith)))

pub last-digit : (k v : ℕ) → v ≤ 9 → glyphs k v ≡ glyph v ∷ []
unfolding glyphs
last-digit zero v h = refl
last-digit (suc k) v h = rw (le-leb v 9 h)

more-digits : (k v : ℕ) → 9 < v → glyphs (suc k) v ≡ glyphs k (v / 10) ++ (glyph (v % 10) ∷ [])
unfolding glyphs
more-digits k v h = rw (lt-leb v 9 h)

-- a number of two digits or more wants two places
pub two_places : (i v : ℕ) → 9 < v → v < 10 ^ i → 1 < i
two_places zero v h l = absurd (omega arith)
two_places (suc zero) v h l = absurd (omega arith)
two_places (suc (suc i)) v h l = omega arith

pub fewer_digits : (i v : ℕ) → 9 < v → v < 10 ^ i → v / 10 < 10 ^ (i - 1)
fewer_digits zero v h l = absurd (omega arith)
fewer_digits (suc i) v h l = let e : suc i - 1 ≡ i = omega arith in rw e (omega (arith, pow-suc 10 i))

-- i places are left for the digits of a number, and behind them stand the rest
pub one_more :
    (l : List ℕ) (i v : ℕ) → 9 < v → v < 10 ^ i → i ≤ length l →
    glyphs (i - 1) v ++ drop i l ≡ glyphs (i - 1 - 1) (v / 10) ++ drop (i - 1) (set l (i - 1) (48 + v % 10))
one_more l i v h m n =
    let t = two_places i v h m in
    let e : i - 1 ≡ suc (i - 1 - 1) = omega arith in
    let f : suc (i - 1) ≡ i = omega arith in
    ap (λ (k : ℕ). glyphs k v ++ drop i l) e
    ∙ rw (more-digits (i - 1 - 1) v h, append_assoc, drop-set l (i - 1) (48 + v % 10) (omega arith), f)

pub the_last :
    (l : List ℕ) (i v : ℕ) → v ≤ 9 → 0 < i → i ≤ length l →
    glyphs (i - 1) v ++ drop i l ≡ drop (i - 1) (set l (i - 1) (48 + v))
the_last l i v h m n =
    let f : suc (i - 1) ≡ i = omega arith in
    rw (last-digit (i - 1) v h, drop-set l (i - 1) (48 + v) (omega arith), f)

pub next_fits : (out : List ℕ) (at : ℕ) (bs : List ℕ) → at + length bs ≤ length out → offset_behind out at bs ≡ at + length bs
unfolding offset_behind
next_fits out at bs h = rw (le-leb (at + length bs) (length out) h)

pub next_short : (out : List ℕ) (at : ℕ) (bs : List ℕ) → length out < at + length bs → offset_behind out at bs ≡ at
unfolding offset_behind
next_short out at bs h = rw (lt-leb (at + length bs) (length out) h)
