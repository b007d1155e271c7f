-- Runs laid one after the other in a row's places.
use Prim.Native.Nat.{ℕ, zero, suc, ◌+◌, ◌-◌, ◌≤◌}
use native.Mathlib.Omega.{arith}
use native.Mathlib.Numerals.{add-one}
use mathlib.Core.Path.{◌≡◌, refl, ap, sym, ◌∙◌}
use mathlib.Core.List.{List, [], ◌∷◌, map}
use lib.ListN.{length, drop, set, replicate, length-replicate, length-map}
use lib.Seq.{sets, sets-eq, length-sets}
use borrow.Author.Tests.{lt-ltb}
use Rattle.gaps.specs.declared.Run.{Run}
use Rattle.gaps.specs.Built.{firsts, lasts, padded}
use mathlib.Core.Bool.{true}
use Rattle.seats.specs.Places.{span}
use Rattle.seats.specs.Rules.{all_zero}
use Rattle.seats.proofs.Cells.{cells, sets_same, zero_places}
use Rattle.joins.specs.Meet.{Laid, laid, laid_one, laid_all}

-- all are counted
count-more : (p : Laid) (l : List Run) → (laid_all p l).count ≡ p.count + length l
unfolding laid_all laid_one
count-more p [] = omega arith
count-more p (r ∷ l) = count-more (laid_one p r) l ∙ omega arith

pub laid-count : (f l : List ℕ) (rs : List Run) → (laid_all (laid 0 f l) rs).count ≡ length rs
laid-count f l rs = count-more (laid 0 f l) rs ∙ omega arith

-- those that have a place stand in it
laid_places : (k : ℕ) (f l : List ℕ) (rs : List Run) → k + length rs ≤ 32 →
    laid_all (laid k f l) rs ≡ laid (k + length rs) (sets f k (firsts rs)) (sets l k (lasts rs))
unfolding laid_all laid_one
laid_places k f l [] h = let e : k + 0 ≡ k = omega arith in rw e
laid_places k f l (r ∷ rs) h =
    let t = lt-ltb k 32 (omega arith) in
    let e : suc k + length rs ≡ k + suc (length rs) = omega arith in
    rw (t, add-one k) (laid_places (suc k) (set f k r.first) (set l k r.last) rs (omega arith) ∙ rw e)

-- numbers in places that were zero
drop-zeros : (n k : ℕ) → drop n (replicate {A = ℕ} k 0) ≡ replicate (k - n) 0
drop-zeros zero k = let e : k - 0 ≡ k = omega arith in rw e
drop-zeros (suc n) zero = let e : 0 - suc n ≡ 0 = omega arith in rw e
drop-zeros (suc n) (suc k) = let e : suc k - suc n ≡ k - n = omega arith in rw e (drop-zeros n k)

sets_padded : (k : ℕ) (xs : List ℕ) → length xs ≤ k → sets (replicate k 0) 0 xs ≡ padded k xs
sets_padded k xs h =
    let d : 0 + length xs ≡ length xs = omega arith in
    sets-eq xs (replicate k 0) 0 (omega (arith, length-replicate {A = ℕ} k 0)) ∙ rw (d, drop-zeros (length xs) k)

numbers-length : (g : Run → ℕ) (rs : List Run) → length (map g rs) ≡ length rs
numbers-length g rs = length-map rs g

-- zeros laid where zeros stand
none-same : (all : List ℕ) (b : ℕ) (row : List ℕ) → cells all b 32 ≡ replicate 32 0 → row ≡ replicate 32 0 → sets all b row ≡ all
none-same all b row z e = ap (sets all b) (e ∙ sym z) ∙ sets_same all b 32

no_run : (f l : List ℕ) (b c n : ℕ) → c + n ≡ 0 → all_zero (span f l (b + c) (32 - c)) ≡ true → all_zero (span f l b 32) ≡ true
no_run f l b c n d z =
    let e : b + c ≡ b = omega arith in
    let h : 32 - c ≡ 32 = omega arith in
    rw (e, h) at z

none-padded : (g : Run → ℕ) (rs : List Run) → length rs ≡ 0 → padded 32 (map g rs) ≡ replicate 32 0
none-padded g [] e = refl
none-padded g (r ∷ rs) e = absurd (omega arith)

-- a row that was zero, with runs that all have a place
module _ (n : ℕ) (f l : List ℕ) (rs : List Run) (h : length rs ≤ 32) (e : laid n f l ≡ laid_all (laid 0 (replicate 32 0) (replicate 32 0)) rs) where
  whole : laid n f l ≡ laid (0 + length rs) (sets (replicate 32 0) 0 (firsts rs)) (sets (replicate 32 0) 0 (lasts rs))
  whole = e ∙ laid_places 0 (replicate 32 0) (replicate 32 0) rs (omega arith)

  pub row_count : n ≡ length rs
  row_count = ap (λ (p : Laid). p.count) whole ∙ omega arith

  pub row_first : f ≡ padded 32 (firsts rs)
  row_first = ap (λ (p : Laid). p.first) whole ∙ sets_padded 32 (firsts rs) (omega (arith, numbers-length (λ (r : Run). r.first) rs))

  pub row_last : l ≡ padded 32 (lasts rs)
  row_last = ap (λ (p : Laid). p.last) whole ∙ sets_padded 32 (lasts rs) (omega (arith, numbers-length (λ (r : Run). r.last) rs))

  pub first-length : length f ≡ 32
  first-length = ap (λ (p : Laid). length p.first) whole ∙ length-sets (replicate 32 0) 0 (firsts rs)

  pub last-length : length l ≡ 32
  last-length = ap (λ (p : Laid). length p.last) whole ∙ length-sets (replicate 32 0) 0 (lasts rs)

  -- with no run before and none now nothing changes
  pub row-first-same : (all other : List ℕ) (b c : ℕ) → all_zero (span all other (b + c) (32 - c)) ≡ true → c + n ≡ 0 → sets all b f ≡ all
  row-first-same all other b c z d = none-same all b f (zero_places all other b 32 (no_run all other b c n d z)).0 (row_first ∙ none-padded (λ (r : Run). r.first) rs (omega (arith, row_count)))

  pub row-last-same : (other all : List ℕ) (b c : ℕ) → all_zero (span other all (b + c) (32 - c)) ≡ true → c + n ≡ 0 → sets all b l ≡ all
  row-last-same other all b c z d = none-same all b l (zero_places other all b 32 (no_run other all b c n d z)).1 (row_last ∙ none-padded (λ (r : Run). r.last) rs (omega (arith, row_count)))
