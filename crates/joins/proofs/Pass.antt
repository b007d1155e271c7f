-- One channel more of a pass over two trackers.
use Prim.Native.Nat.{ℕ, zero, suc, ◌+◌, ◌-◌, ◌≤◌, ◌<◌}
use native.Mathlib.Omega.{arith}
use native.Mathlib.Numerals.{add-one}
use mathlib.Core.Path.{◌≡◌, refl, sym, ◌∙◌}
use mathlib.Core.Logic.{◌⊎◌, inl, inr}
use mathlib.Core.List.{List}
use mathlib.Core.Bool.{Bool, true, false, true≢false, false≢true, ◌&&◌, ◌||◌}
use lib.Dec.{ltb, eqb}
use lib.ListN.{length, get_or}
use borrow.Author.Tests.{ltb-true, ltb-false, lt-ltb, le-ltb, eqb-true, eq-eqb}
use Rattle.gaps.specs.declared.Run.{Run}
use Rattle.gaps.proofs.Numbers.{and_split, or_split}
use Rattle.seats.specs.Arrays.{Arrays}
use Rattle.std.specs.Cmp.Lexicographic.{pointwise, same_text, other_text}
use Rattle.std.specs.Prelude.{nat_eq}
use Rattle.std.proofs.lemmas.List.{ext_get_or}
use Rattle.joins.specs.Join.{alike, same_set_up, overfull}

-- ---- set-ups

alike_at : (a b : Arrays) (i n j : ℕ) → alike a b i n ≡ true → j < n →
    (get_or a.numbers (i + j) 0 ≡ get_or b.numbers (i + j) 0) × (get_or a.from (i + j) 0 ≡ get_or b.from (i + j) 0)
unfolding alike
alike_at a b i zero j e h = absurd (omega arith)
alike_at a b i (suc n) zero e h =
    let g : i + 0 ≡ i = omega arith in
    let p = and_split (eqb (get_or a.numbers i 0) (get_or b.numbers i 0)) _ e in
    let q = and_split (eqb (get_or a.from i 0) (get_or b.from i 0)) _ p.1 in
    rw g (eqb-true (get_or a.numbers i 0) (get_or b.numbers i 0) p.0, eqb-true (get_or a.from i 0) (get_or b.from i 0) q.0)
alike_at a b i (suc n) (suc j) e h =
    let g : i + suc j ≡ suc i + j = omega arith in
    let p = and_split (eqb (get_or a.numbers i 0) (get_or b.numbers i 0)) _ e in
    let q = and_split (eqb (get_or a.from i 0) (get_or b.from i 0)) _ p.1 in
    rw g (alike_at a b (suc i) n j q.1 (omega arith))

alike_same : (a b : Arrays) (i n : ℕ) → a.numbers ≡ b.numbers → a.from ≡ b.from → alike a b i n ≡ true
unfolding alike
alike_same a b i zero e f = refl
alike_same a b i (suc n) e f =
    rw (e, f, eq-eqb (get_or b.numbers i 0) (get_or b.numbers i 0) refl, eq-eqb (get_or b.from i 0) (get_or b.from i 0) refl) (alike_same a b (suc i) n e f)

-- lists of eight are the same where their places are
alike-lists : (a b : Arrays) → length a.numbers ≡ 8 → length b.numbers ≡ 8 → length a.from ≡ 8 → length b.from ≡ 8 → alike a b 0 8 ≡ true →
    (a.numbers ≡ b.numbers) × (a.from ≡ b.from)
alike-lists a b n n' f f' e = (
  ext_get_or 0 a.numbers b.numbers (omega arith) (λ i h. let g : 0 + i ≡ i = omega arith in rw g at (alike_at a b 0 8 i e (omega arith)).0),
  ext_get_or 0 a.from b.from (omega arith) (λ i h. let g : 0 + i ≡ i = omega arith in rw g at (alike_at a b 0 8 i e (omega arith)).1),
)

-- the set-ups by their lists
pub alike-by : (a b : Arrays) → length a.numbers ≡ 8 → length b.numbers ≡ 8 → length a.from ≡ 8 → length b.from ≡ 8 → (p q r : Bool) →
    p ≡ eqb a.count b.count → q ≡ pointwise nat_eq a.numbers b.numbers → r ≡ pointwise nat_eq a.from b.from → (p && q && r) ≡ same_set_up a b
unfolding same_set_up
alike-by a b n n' f f' p q r x y z = rw (sym x) (go p q r y z (alike a b 0 8) refl)
  where
    go : (p q r : Bool) → q ≡ pointwise nat_eq a.numbers b.numbers → r ≡ pointwise nat_eq a.from b.from → (t : Bool) → alike a b 0 8 ≡ t → (p && q && r) ≡ (p && t)
    go false q r y z t e = refl
    go true true true y z t e = sym (alike_same a b 0 8 (same_text a.numbers b.numbers y) (same_text a.from b.from z)) ∙ e
    go true false r y z true e = absurd (other_text a.numbers b.numbers y (alike-lists a b n n' f f' e).0)
    go true true false y z true e = absurd (other_text a.from b.from z (alike-lists a b n n' f f' e).1)
    go true false r y z false e = refl
    go true true false y z false e = refl

-- one set-up, place by place
module _ (a b : Arrays) (s : same_set_up a b ≡ true) where
  pub one-count : a.count ≡ b.count
  unfolding same_set_up
  one-count = eqb-true a.count b.count (and_split (eqb a.count b.count) _ s).0

  pub one_head : (i : ℕ) → i < 8 → (get_or a.numbers i 0 ≡ get_or b.numbers i 0) × (get_or a.from i 0 ≡ get_or b.from i 0)
  unfolding same_set_up
  one_head i h = let g : 0 + i ≡ i = omega arith in rw g at (alike_at a b 0 8 i (and_split (eqb a.count b.count) _ s).1 h)

-- ---- too many runs

module _ (runs : ℕ → List Run) (i to : ℕ) where
  over-more : i < to → overfull runs i (to - i) ≡ (ltb 32 (length (runs i)) || overfull runs (i + 1) (to - (i + 1)))
  unfolding overfull
  over-more h = let e : to - i ≡ suc (to - (i + 1)) = omega arith in rw (e, add-one)

  pub over-here : i < to → 32 < length (runs i) → overfull runs i (to - i) ≡ true
  over-here h p = rw (over-more h, lt-ltb 32 (length (runs i)) p)

  pub over_pass : i < to → length (runs i) ≤ 32 → overfull runs i (to - i) ≡ overfull runs (i + 1) (to - (i + 1))
  over_pass h p = rw (over-more h, le-ltb 32 (length (runs i)) p)

  pub over-end : to ≤ i → overfull runs i (to - i) ≡ false
  unfolding overfull
  over-end h = let e : to - i ≡ 0 = omega arith in rw e

-- the first n channels in one view: one of them has too many runs, or none has
pub record Over (runs : ℕ → List Run) (i n : ℕ) : Type 0 where
  pub place : ℕ
  pub below : place < i + n
  pub over : 32 < length (runs place)

pub over-some : (runs : ℕ → List Run) (i n : ℕ) → overfull runs i n ≡ true → Over runs i n
unfolding overfull
over-some runs i zero e = absurd (false≢true e)
over-some runs i (suc n) e = go (or_split (ltb 32 (length (runs i))) (overfull runs (suc i) n) e) (over-some runs (suc i) n)
  where
    go : (ltb 32 (length (runs i)) ≡ true) ⊎ (overfull runs (suc i) n ≡ true) → (overfull runs (suc i) n ≡ true → Over runs (suc i) n) → Over runs i (suc n)
    go (inl a) ih = record { place = i; below = omega arith; over = ltb-true 32 (length (runs i)) a }
    go (inr a) ih = let x = ih a in record { place = x.place; below = omega (arith, x.below); over = x.over }

or-none : (a b : Bool) → (a || b) ≡ false → (a ≡ false) × (b ≡ false)
or-none true b e = absurd (true≢false e)
or-none false b e = (refl, e)

none_from : (runs : ℕ → List Run) (i n j : ℕ) → overfull runs i n ≡ false → j < n → length (runs (i + j)) ≤ 32
unfolding overfull
none_from runs i zero j e h = absurd (omega arith)
none_from runs i (suc n) zero e h =
    let g : i + 0 ≡ i = omega arith in
    rw g (ltb-false 32 (length (runs i)) (or-none (ltb 32 (length (runs i))) _ e).0)
none_from runs i (suc n) (suc j) e h =
    let g : i + suc j ≡ suc i + j = omega arith in
    rw g (none_from runs (suc i) n j (or-none (ltb 32 (length (runs i))) _ e).1 (omega arith))

pub over_none : (runs : ℕ → List Run) (n j : ℕ) → overfull runs 0 n ≡ false → j < n → length (runs j) ≤ 32
over_none runs n j e h = let g : 0 + j ≡ j = omega arith in rw g at (none_from runs 0 n j e h)
