-- The walk over two rows: what is reached, and one step more.
use Prim.Native.Nat.{ℕ, zero, suc, ◌+◌, ◌-◌, ◌≤◌, ◌<◌, min, max}
use native.Mathlib.Nat.{le-max_left, le-max_right, max-eq_left, max-eq_right, min-eq_left, min-eq_right, le_of_lt}
use native.Mathlib.Omega.{arith}
use native.Mathlib.Numerals.{add-one}
use mathlib.Core.Path.{◌≡◌, refl, ap, sym, ◌∙◌}
use mathlib.Core.Logic.{inl, inr, ⊎_elim}
use mathlib.Core.List.{List, [], ◌∷◌, ◌++◌}
use mathlib.Core.Bool.{Bool, true, false, cond}
use lib.Dec.{leb, eqb}
use lib.ListN.{length, drop, get_or, drop_of_length-le, length-append, get_or-append}
use lib.Seq.{get_or_at, drop-cons}
use borrow.Author.Tests.{le-leb, lt-leb, eqb-true, eqb-false, ne_eqb}
use Rattle.gaps.specs.declared.Run.{Run}
use Rattle.gaps.specs.Gaps.{run, larger, grow, fill}
use Rattle.gaps.proofs.Grow.{grow-apart, grow_touch}
use Rattle.gaps.proofs.Numbers.{lt_or_le, larger-is}
use Rattle.seats.specs.Places.{span}
use Rattle.seats.proofs.Cells.{span-length, span-at, span_last}
use Rattle.joins.specs.declared.walk.Reach.{Reach}
use Rattle.joins.specs.Meet.{smaller, shared, meet, met_in, run_at, Reaches, Laid, laid_one, laid_all}

-- ---- what is reached

abbrev reached : ℕ → ℕ → ℕ → Reach
reached count at first = record { count = count; at = at; first = first }

module _ (f l : List ℕ) (b n h m : ℕ) (small : n ≤ 32) where
  pub reach-none : m ≤ h → Reaches f l b n h m (reached n n 0)
  unfolding fill run_at
  reach-none p =
      record {
        size = rw (le-leb m h p, span-length f l b n);
        small = omega arith;
        there = λ j q e. omega arith;
        runs = λ j q. rw (le-leb m h p, span-at f l b n j q, ne_eqb j n (λ e. omega (arith, e)));
      }

  -- the first k runs, and one with the numbers behind the highest
  reach_by : (k a : ℕ) → k ≤ 32 → fill (span f l b n) h m ≡ span f l b k ++ (run a m ∷ []) → Reaches f l b n h m (reached (k + 1) k a)
  unfolding run_at
  reach_by k a q e =
      record {
        size = rw (e, length-append (span f l b k) (run a m ∷ []), span-length f l b k);
        small = omega arith;
        there = λ j p d. omega (arith, d);
        runs = λ j p. rw e (go j p (eqb j k) refl);
      }
    where
      go : (j : ℕ) → j < k + 1 → (t : Bool) → eqb j k ≡ t → get_or (span f l b k ++ (run a m ∷ [])) j (run 0 0) ≡ cond t (run a m) (run (get_or f (b + j) 0) (get_or l (b + j) 0))
      go j p true d = get_or_at (span f l b k) (run a m) [] (run 0 0) j (span-length f l b k ∙ sym (eqb-true j k d))
      go j p false d =
          let o : j < k = omega (arith, eqb-false j k d) in
          get_or-append (span f l b k) (run a m ∷ []) (run 0 0) j (rw (span-length f l b k) o) ∙ span-at f l b k j o

  fill_grown : h < m → fill (span f l b n) h m ≡ grow (span f l b n) h m
  unfolding fill
  fill_grown p = rw (lt-leb m h p)

  pub reach-first : h < m → n ≡ 0 → Reaches f l b n h m (reached 1 0 (h + 1))
  unfolding span grow
  reach-first p e = reach_by 0 (h + 1) (omega arith) (fill_grown p ∙ rw e)

  module _ (p : h < m) (o : 1 ≤ n) where
    span-end : span f l b n ≡ span f l b (n - 1) ++ (run (get_or f (b + (n - 1)) 0) (get_or l (b + (n - 1)) 0) ∷ [])
    span-end = let e : n ≡ n - 1 + 1 = omega arith in ap (span f l b) e ∙ span_last f l b (n - 1)

    pub reach_touch : get_or l (b + (n - 1)) 0 ≡ h → Reaches f l b n h m (reached n (n - 1) (get_or f (b + (n - 1)) 0))
    reach_touch e =
        let d : n - 1 + 1 ≡ n = omega arith in
        let x = reach_by (n - 1) (get_or f (b + (n - 1)) 0) (omega arith)
        (fill_grown p ∙ rw span-end (grow_touch (span f l b (n - 1)) (run (get_or f (b + (n - 1)) 0) (get_or l (b + (n - 1)) 0)) h m e)) in
        rw d at x

    pub reach-next : (get_or l (b + (n - 1)) 0 ≡ h → ⊥) → Reaches f l b n h m (reached (n + 1) n (h + 1))
    reach-next e =
        reach_by n (h + 1) small
        (fill_grown p ∙ rw span-end (grow-apart (span f l b (n - 1)) (run (get_or f (b + (n - 1)) 0) (get_or l (b + (n - 1)) 0)) h m e))

-- ---- what two runs share is laid

-- the library's larger and smaller of two numbers
pub max-larger : (a b : ℕ) → max a b ≡ larger a b
max-larger a b = sym (larger-is a b (max a b) (le-max_left a b) (le-max_right a b) (⊎_elim (λ h. inl (max-eq_left (le_of_lt h))) (λ h. inr (max-eq_right h)) (lt_or_le b a)))

pub min-smaller : (a b : ℕ) → min a b ≡ smaller a b
unfolding smaller
min-smaller a b = ⊎_elim (λ h. min-eq_right (le_of_lt h) ∙ rw (lt-leb a b h)) (λ h. min-eq_left h ∙ rw (le-leb a b h)) (lt_or_le b a)

module _ (p : Laid) (r s : Run) (a e : ℕ) (x : a ≡ max r.first s.first) (y : e ≡ min r.last s.last) where
  first_is : larger r.first s.first ≡ a
  first_is = sym (x ∙ max-larger r.first s.first)

  last_is : smaller r.last s.last ≡ e
  last_is = sym (y ∙ min-smaller r.last s.last)

  pub put-none : e < a → p ≡ laid_all p (shared r s)
  unfolding shared laid_all
  put-none h = let t = lt-leb a e h in rw (first_is, last_is, t)

  pub put_one : a ≤ e → laid_one p (run a e) ≡ laid_all p (shared r s)
  unfolding shared laid_all
  put_one h = let t = le-leb a e h in rw (first_is, last_is, t)

-- one run more is counted
pub one-more : (p : Laid) (r : Run) → (laid_one p r).count ≡ p.count + 1
unfolding laid_one
one-more p r = refl

-- ---- one step

meet-none : (k : ℕ) (y : List Run) → meet k [] y ≡ []
unfolding meet
meet-none zero y = refl
meet-none (suc k) y = refl

none-meet : (k : ℕ) (x : List Run) → meet k x [] ≡ []
unfolding meet
none-meet zero x = refl
none-meet (suc k) [] = refl
none-meet (suc k) (r ∷ x) = refl

laid-append : (p : Laid) (xs ys : List Run) → laid_all p (xs ++ ys) ≡ laid_all (laid_all p xs) ys
unfolding laid_all
laid-append p [] ys = refl
laid-append p (x ∷ xs) ys = laid-append (laid_one p x) xs ys

-- the walk over the n runs of x and the m runs of y, at run i and run j: what is laid, and what it becomes
pub record Walking (x y : List Run) (n m : ℕ) (p q : ℕ → Run) (i j : ℕ) (out w : Laid) : Type 0 where
  pub size : n ≡ length x
  pub other_size : m ≡ length y
  pub runs : (a : ℕ) → a < n → get_or x a (run 0 0) ≡ p a
  pub other_runs : (a : ℕ) → a < m → get_or y a (run 0 0) ≡ q a
  pub left : i ≤ n
  pub right : j ≤ m
  pub few : out.count ≤ i + j
  pub rest : laid_all out (meet (n - i + (m - j)) (drop i x) (drop j y)) ≡ w

-- at first
pub walking : {x y : List Run} {n m : ℕ} {p q : ℕ → Run} {out : Laid} → out.count ≡ 0 → n ≡ length x → m ≡ length y →
    ((a : ℕ) → a < n → get_or x a (run 0 0) ≡ p a) → ((a : ℕ) → a < m → get_or y a (run 0 0) ≡ q a) →
    Walking x y n m p q 0 0 out (laid_all out (met_in x y))
unfolding met_in
walking {x} {y} {n} {m} o a c d e =
    let z : n - 0 + (m - 0) ≡ length x + length y = omega arith in
    record { size = a; other_size = c; runs = d; other_runs = e; left = omega arith; right = omega arith; few = omega (arith, o); rest = rw z }

module _ {x y : List Run} {n m : ℕ} {p q : ℕ → Run} {i j : ℕ} {out w : Laid} (k : Walking x y n m p q i j out w) where
  pub left_over : n ≤ i → out ≡ w
  unfolding laid_all
  left_over e =
      let z = drop_of_length-le x {i = i} (omega arith) in
      rw (z, meet-none (n - i + (m - j)) (drop j y)) at k.rest

  pub right_over : m ≤ j → out ≡ w
  unfolding laid_all
  right_over e =
      let z = drop_of_length-le y {i = j} (omega arith) in
      rw (z, none-meet (n - i + (m - j)) (drop i x)) at k.rest

  module _ (u : i < n) (v : j < m) {r s : Run} (e : r ≡ p i) (g : s ≡ q j) {after : Laid} (o : (after.count ≤ out.count + 1) × (after ≡ laid_all out (shared r s))) where
    left_front : drop i x ≡ r ∷ drop (i + 1) x
    left_front = drop-cons x i (run 0 0) (omega arith) ∙ rw (k.runs i u, sym e, add-one i)

    right_front : drop j y ≡ s ∷ drop (j + 1) y
    right_front = drop-cons y j (run 0 0) (omega arith) ∙ rw (k.other_runs j v, sym g, add-one j)

    stepped : meet (n - i + (m - j)) (drop i x) (drop j y) ≡
        shared r s ++ cond (leb r.last s.last) (meet (n - (i + 1) + (m - j)) (drop (i + 1) x) (drop j y)) (meet (n - i + (m - (j + 1))) (drop i x) (drop (j + 1) y))
    unfolding meet
    stepped =
        let f : n - i + (m - j) ≡ suc (n - (i + 1) + (m - j)) = omega arith in
        let h : n - i + (m - (j + 1)) ≡ n - (i + 1) + (m - j) = omega arith in
        rw (f, h, left_front, right_front)

    -- on to run a and run c
    on : (a c : ℕ) → a ≤ n → c ≤ m → a + c ≡ i + j + 1 → meet (n - i + (m - j)) (drop i x) (drop j y) ≡ shared r s ++ meet (n - a + (m - c)) (drop a x) (drop c y) →
        Walking x y n m p q a c after w
    on a c left right z h =
        record {
          size = k.size;
          other_size = k.other_size;
          runs = k.runs;
          other_runs = k.other_runs;
          left = left;
          right = right;
          few = omega arith;
          rest = rw o.1 (sym (laid-append out (shared r s) (meet (n - a + (m - c)) (drop a x) (drop c y))) ∙ ap (laid_all out) (sym h) ∙ k.rest);
        }

    pub pass_left : r.last ≤ s.last → Walking x y n m p q (i + 1) j after w
    pass_left h = on (i + 1) j (omega arith) k.right (omega arith) (stepped ∙ rw (le-leb r.last s.last h))

    pub pass_right : s.last < r.last → Walking x y n m p q i (j + 1) after w
    pass_right h = on i (j + 1) k.left (omega arith) (omega arith) (stepped ∙ rw (lt-leb r.last s.last h))

-- the walk at run r of the one and run s of the other
pub record Standing (x y : List Run) (n m : ℕ) (p q : ℕ → Run) (i j : ℕ) (out w : Laid) (r s : Run) : Type 0 where
  pub walk : Walking x y n m p q i j out w
  pub here : i < n
  pub there : j < m
  pub one : r ≡ p i
  pub other : s ≡ q j

module _ {x y : List Run} {n m : ℕ} {p q : ℕ → Run} {i j : ℕ} {out w : Laid} {r s : Run} (k : Standing x y n m p q i j out w r s) {after : Laid} (o : (after.count ≤ out.count + 1) × (after ≡ laid_all out (shared r s))) where
  module _ (h : r.last ≤ s.last) where
    passed_left : Walking x y n m p q (i + 1) j after w
    passed_left = pass_left k.walk k.here k.there k.one k.other o h

    pub left-ends : i + 1 ≡ n → after ≡ w
    left-ends e = left_over passed_left (omega arith)

    pub left-on : (i + 1 ≡ n → ⊥) → (t : Run) → t ≡ p (i + 1) → Standing x y n m p q (i + 1) j after w t s
    left-on e t f = record { walk = passed_left; here = omega (arith, e, k.here); there = k.there; one = f; other = k.other }

  module _ (h : s.last < r.last) where
    passed_right : Walking x y n m p q i (j + 1) after w
    passed_right = pass_right k.walk k.here k.there k.one k.other o h

    pub right_ends : j + 1 ≡ m → after ≡ w
    right_ends e = right_over passed_right (omega arith)

    pub right_on : (j + 1 ≡ m → ⊥) → (t : Run) → t ≡ q (j + 1) → Standing x y n m p q i (j + 1) after w r t
    right_on e t f = record { walk = passed_right; here = k.here; there = omega (arith, e, k.there); one = k.one; other = f }
