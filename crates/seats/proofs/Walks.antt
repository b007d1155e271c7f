-- What the walks over lists answer.
use Prim.Native.Nat.{ℕ, zero, suc, ◌+◌, ◌≤◌, ◌<◌}
use native.Mathlib.Omega.{arith}
use mathlib.Core.Path.{◌≡◌, refl, ◌∙◌}
use mathlib.Core.List.{List}
use mathlib.Core.Bool.{Bool, true, false, cond, not, ◌&&◌, and_assoc, and-true}
use lib.Bits.{bit_or}
use lib.Dec.{leb, eqb}
use lib.ListN.{length, drop, take, get_or}
use lib.Seq.{drop-cons, drop-length, length-take-le}
use Rattle.std.specs.List.{position, position_or_len, fold}
use Rattle.seats.specs.Rules.{marks}
use Rattle.seats.specs.Seat.{place_from, place_in}
use Rattle.seats.proofs.Bits.{leb_or}

-- ---- a search

place_walk : (l : List ℕ) (k i n : ℕ) → i + n ≤ length l → place_from l k i n ≡ i + position_or_len (λ x. eqb x k) (take n (drop i l))
unfolding place_from
place_walk l k i zero h = omega arith
place_walk l k i (suc n) h =
    let m : i < length l = omega arith in
    let r = position_or_len (λ x. eqb x k) (take n (drop (suc i) l)) in
    rw (drop-cons l i 0 m, place_walk l k (suc i) n (omega arith)) (go (eqb (get_or l i 0) k) r)
  where
    go : (b : Bool) (r : ℕ) → cond b i (suc i + r) ≡ i + cond (not b) (1 + r) 0
    go true r = omega arith
    go false r = omega arith

pub place_found : (l : List ℕ) (k n : ℕ) → n ≤ length l → position (λ x. eqb x k) (take n l) ≡ place_in l k n
place_found l k n h =
    let e : place_from l k 0 n ≡ position_or_len (λ x. eqb x k) (take n l) = place_walk l k 0 n (omega arith) ∙ omega arith in
    rw (length-take-le n l h, e)

-- ---- marks

marks_walk : (es : List ℕ) (bits : ℕ) (i n : ℕ) → i + n ≡ length es → leb (fold bit_or bits (drop i es)) 1 ≡ (leb bits 1 && marks es i n)
unfolding marks
marks_walk es bits i zero h =
    let e : i ≡ length es = omega arith in
    rw (e, drop-length es, and-true (leb bits 1))
marks_walk es bits i (suc n) h =
    let m : i < length es = omega arith in
    rw (drop-cons es i 0 m, marks_walk es (bit_or bits (get_or es i 0)) (suc i) n (omega arith), leb_or 1 1 bits (get_or es i 0) refl)
    (and_assoc (leb bits 1) (leb (get_or es i 0) 1) (marks es (suc i) n))

pub marks_all : (es : List ℕ) → length es ≡ 8 → leb (fold bit_or 0 es) 1 ≡ marks es 0 8
marks_all es h = marks_walk es 0 0 8 (omega arith)
