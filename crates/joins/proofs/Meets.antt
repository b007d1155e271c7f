-- Two records met are the record of both histories: the runs by one walk are those that the numbers missing from both form.
use Prim.Native.Nat.{ℕ, zero, suc, ◌+◌, ◌≤◌, ◌<◌}
use native.Mathlib.Nat.{le_refl}
use native.Mathlib.Omega.{arith}
use mathlib.Core.Path.{◌≡◌, refl, sym, ◌∙◌}
use mathlib.Core.Logic.{◌⊎◌, inl, inr, ⊎_elim}
use mathlib.Core.List.{List, [], ◌∷◌, ◌++◌}
use mathlib.Core.Bool.{Bool, true, false, cond}
use lib.Dec.{leb}
use lib.ListN.{length}
use borrow.Author.Tests.{leb-true, leb-false}
use Rattle.gaps.specs.declared.Run.{Run}
use Rattle.gaps.specs.Gaps.{run, larger}
use Rattle.gaps.specs.Channel.{Channel, Event}
use Rattle.gaps.specs.History.{Brought, top}
use Rattle.gaps.specs.Record.{record_of}
use Rattle.gaps.proofs.Numbers.{lt_or_le, larger-of, larger-is}
use Rattle.gaps.proofs.Sets.{In, Canon, low, widen, in_split, in_left, in_right}
use Rattle.gaps.proofs.History.{brought_split, brought_left, brought_right, brought_top, top-append, ends-append}
use Rattle.gaps.proofs.Exact.{Exact, fill-canon, fill-out, fill_old, fill-new}
use Rattle.gaps.proofs.Record.{exact_record, record_is}
use Rattle.joins.specs.Meet.{smaller, shared, meet, met_in, reaching, met}

-- ---- what two runs share

smaller-is : (a b : ℕ) → ((smaller a b ≡ a) × (a ≤ b)) ⊎ ((smaller a b ≡ b) × (b < a))
unfolding smaller
smaller-is a b = go (leb a b) refl
  where
    go : (t : Bool) → leb a b ≡ t → ((cond t a b ≡ a) × (a ≤ b)) ⊎ ((cond t a b ≡ b) × (b < a))
    go true e = inl (refl, leb-true a b e)
    go false e = inr (refl, leb-false a b e)

-- one run, from the larger first number to the smaller last one; or none
data Shares (r s : Run) : List Run → Type 0 where
  some : (a b : ℕ) → r.first ≤ a → s.first ≤ a → (a ≡ r.first) ⊎ (a ≡ s.first) → b ≤ r.last → b ≤ s.last → (b ≡ r.last) ⊎ (b ≡ s.last) → a ≤ b → Shares r s (run a b ∷ [])
  none : (r.last < s.first) ⊎ (s.last < r.first) ⊎ (r.last < r.first) ⊎ (s.last < s.first) → Shares r s []

shares : (r s : Run) → Shares r s (shared r s)
unfolding shared
shares r s = go (leb (larger r.first s.first) (smaller r.last s.last)) refl (larger-of r.first s.first) (smaller-is r.last s.last)
  where
    go : (t : Bool) → leb (larger r.first s.first) (smaller r.last s.last) ≡ t →
        (r.first ≤ larger r.first s.first) × (s.first ≤ larger r.first s.first) × ((larger r.first s.first ≡ r.first) ⊎ (larger r.first s.first ≡ s.first)) →
        ((smaller r.last s.last ≡ r.last) × (r.last ≤ s.last)) ⊎ ((smaller r.last s.last ≡ s.last) × (s.last < r.last)) →
        Shares r s (cond t (run (larger r.first s.first) (smaller r.last s.last) ∷ []) [])
    go true e p (inl q) = some (larger r.first s.first) (smaller r.last s.last) p.0 p.1 p.2 (omega arith) (omega arith) (inl q.0) (leb-true (larger r.first s.first) (smaller r.last s.last) e)
    go true e p (inr q) = some (larger r.first s.first) (smaller r.last s.last) p.0 p.1 p.2 (omega arith) (omega arith) (inr q.0) (leb-true (larger r.first s.first) (smaller r.last s.last) e)
    go false e p (inl q) = let f = leb-false (larger r.first s.first) (smaller r.last s.last) e in ⊎_elim (λ x. none (inr (inr (inl (omega arith))))) (λ x. none (inl (omega arith))) p.2
    go false e p (inr q) = let f = leb-false (larger r.first s.first) (smaller r.last s.last) e in ⊎_elim (λ x. none (inr (inl (omega arith)))) (λ x. none (inr (inr (inr (omega arith))))) p.2

shared-out : (r s : Run) (l : List Run) (i : ℕ) → Shares r s l → In l i → (r.first ≤ i) × (i ≤ r.last) × (s.first ≤ i) × (i ≤ s.last)
shared-out r s l i (some a b p q u v w x y) (inl z) = (omega arith, omega arith, omega arith, omega arith)
shared-out r s l i (some a b p q u v w x y) (inr z) = absurd z
shared-out r s l i (none p) z = absurd z

shared_in : (r s : Run) (l : List Run) (i : ℕ) → Shares r s l → r.first ≤ i → i ≤ r.last → s.first ≤ i → i ≤ s.last → In l i
shared_in r s l i (some a b p q u v w x y) f g h k = inl (⊎_elim (λ z. omega arith) (λ z. omega arith) u, ⊎_elim (λ z. omega arith) (λ z. omega arith) x)
shared_in r s l i (none p) f g h k = absurd (⊎_elim (λ z. omega arith) (λ z. ⊎_elim (λ y. omega arith) (λ y. ⊎_elim (λ x. omega arith) (λ x. omega arith) y) z) p)

-- ---- what two lists share

-- the numbers that are in both
meet-out : (n : ℕ) (l k : List Run) (i : ℕ) → In (meet n l k) i → In l i × In k i
unfolding meet
meet-out zero l k i w = absurd w
meet-out (suc n) [] k i w = absurd w
meet-out (suc n) (r ∷ l) [] i w = absurd w
meet-out (suc n) (r ∷ l) (s ∷ k) i w = go (leb r.last s.last) (meet-out n l (s ∷ k) i) (meet-out n (r ∷ l) k i) w
  where
    go : (t : Bool) → (In (meet n l (s ∷ k)) i → In l i × In (s ∷ k) i) → (In (meet n (r ∷ l) k) i → In (r ∷ l) i × In k i) →
        In (shared r s ++ cond t (meet n l (s ∷ k)) (meet n (r ∷ l) k)) i → In (r ∷ l) i × In (s ∷ k) i
    go true f g w = ⊎_elim (λ x. let v = shared-out r s (shared r s) i (shares r s) x in (inl (v.0, v.1), inl (v.2, v.3))) (λ x. let v = f x in (inr v.0, v.1))
        (in_split (shared r s) (meet n l (s ∷ k)) i w)
    go false f g w = ⊎_elim (λ x. let v = shared-out r s (shared r s) i (shares r s) x in (inl (v.0, v.1), inl (v.2, v.3))) (λ x. let v = g x in (v.0, inr v.1))
        (in_split (shared r s) (meet n (r ∷ l) k) i w)

meet_in : (n : ℕ) (l k : List Run) (lo h lo' h' i : ℕ) → length l + length k ≤ n → Canon lo h l → Canon lo' h' k → In l i → In k i → In (meet n l k) i
unfolding meet
meet_in n [] k lo h lo' h' i b c d w v = absurd w
meet_in n (r ∷ l) [] lo h lo' h' i b c d w v = absurd v
meet_in zero (r ∷ l) (s ∷ k) lo h lo' h' i b c d w v = absurd (omega arith)
meet_in (suc n) (r ∷ l) (s ∷ k) lo h lo' h' i b c d w v =
    go (leb r.last s.last) refl w v
    (λ x. meet_in n l (s ∷ k) (r.last + 2) h lo' h' i (omega arith) c.3 d x v)
    (λ x. meet_in n (r ∷ l) k lo h (s.last + 2) h' i (omega arith) c d.3 w x)
  where
    here : (rest : List Run) → r.first ≤ i → i ≤ r.last → s.first ≤ i → i ≤ s.last → In (shared r s ++ rest) i
    here rest f g p q = in_left (shared r s) rest i (shared_in r s (shared r s) i (shares r s) f g p q)

    go : (t : Bool) → leb r.last s.last ≡ t → In (r ∷ l) i → In (s ∷ k) i → (In l i → In (meet n l (s ∷ k)) i) → (In k i → In (meet n (r ∷ l) k) i) →
        In (shared r s ++ cond t (meet n l (s ∷ k)) (meet n (r ∷ l) k)) i
    go true e (inr w) v f g = in_right (shared r s) (meet n l (s ∷ k)) i (f w)
    go true e (inl w) (inl v) f g = here (meet n l (s ∷ k)) w.0 w.1 v.0 v.1
    go true e (inl w) (inr v) f g = absurd (omega (arith, leb-true r.last s.last e, low (s.last + 2) h' k i d.3 v))
    go false e w (inr v) f g = in_right (shared r s) (meet n (r ∷ l) k) i (g v)
    go false e (inl w) (inl v) f g = here (meet n (r ∷ l) k) w.0 w.1 v.0 v.1
    go false e (inr w) (inl v) f g = absurd (omega (arith, leb-false r.last s.last e, low (r.last + 2) h l i c.3 w))

-- two runs of what is shared do not touch, as one of the two lists has a gap between them
meet-canon : (n : ℕ) (l k : List Run) (lo h lo' h' b : ℕ) → Canon lo h l → Canon lo' h' k → (b ≤ lo) ⊎ (b ≤ lo') → Canon b h (meet n l k)
unfolding meet
meet-canon zero l k lo h lo' h' b c d p = tt
meet-canon (suc n) [] k lo h lo' h' b c d p = tt
meet-canon (suc n) (r ∷ l) [] lo h lo' h' b c d p = tt
meet-canon (suc n) (r ∷ l) (s ∷ k) lo h lo' h' b c d p =
    go (leb r.last s.last) refl (shared r s) (shares r s)
    (λ e q. meet-canon n l (s ∷ k) (r.last + 2) h lo' h' e c.3 d q)
    (λ e q. meet-canon n (r ∷ l) k lo h (s.last + 2) h' e c d.3 q)
  where
    go : (t : Bool) → leb r.last s.last ≡ t → (x : List Run) → Shares r s x →
        ((e : ℕ) → (e ≤ r.last + 2) ⊎ (e ≤ lo') → Canon e h (meet n l (s ∷ k))) →
        ((e : ℕ) → (e ≤ lo) ⊎ (e ≤ s.last + 2) → Canon e h (meet n (r ∷ l) k)) →
        Canon b h (x ++ cond t (meet n l (s ∷ k)) (meet n (r ∷ l) k))
    go true t x (none q) f g = f b (⊎_elim (λ u. inl (omega (arith, c.0, c.1))) (λ u. inr u) p)
    go false t x (none q) f g = g b (⊎_elim (λ u. inl u) (λ u. inr (omega (arith, d.0, d.1))) p)
    go true t x (some a e q u v w y z j) f g =
        (⊎_elim (λ o. omega (arith, c.0)) (λ o. omega (arith, d.0)) p, j, omega (arith, c.2), f (e + 2) (inl (omega arith)))
    go false t x (some a e q u v w y z j) f g =
        (⊎_elim (λ o. omega (arith, c.0)) (λ o. omega (arith, d.0)) p, j, omega (arith, c.2), g (e + 2) (inr (omega arith)))

-- ---- the record of both histories

-- a channel that reaches m: the numbers from its first to m that its history did not bring
module _ {from : ℕ} {c : Channel} {g : List Event} (x : Exact from c g) (m : ℕ) where
  reach-out : c.highest ≤ m → (i : ℕ) → In (reaching c m) i → (from ≤ i) × (i ≤ m) × (Brought g i → ⊥)
  reach-out t i w = ⊎_elim
      (λ v. let k = x.out i v in (k.0, omega (arith, k.1, x.tops), k.2))
      (λ v. (omega (arith, x.start), v.1, λ b. omega (arith, brought_top from g i b, x.tops)))
      (fill-out from c.runs c.highest m x.order x.start i w)

  reach_in : (i : ℕ) → from ≤ i → i ≤ m → (Brought g i → ⊥) → In (reaching c m) i
  reach_in i a b f = ⊎_elim
      (λ v. fill-new from c.runs c.highest m x.order i v b)
      (λ v. fill_old from c.runs c.highest m x.order i (x.back i (a, omega (arith, x.tops), f)))
      (lt_or_le c.highest i)

met-exact : {from : ℕ} {c d : Channel} {g h : List Event} → Exact from c g → Exact from d h → Exact from (met c d) (g ++ h)
unfolding met_in
met-exact {from} {c} {d} {g} {h} x y =
    let m = larger c.highest d.highest in
    let o = larger-of c.highest d.highest in
    let t : top from (g ++ h) ≡ m = top-append from g h ∙ rw (sym x.tops, sym y.tops) in
    let p = fill-canon from c.runs c.highest m x.order x.start in
    let q = fill-canon from d.runs d.highest m y.order y.start in
    let n = length (reaching c m) + length (reaching d m) in
    record {
      own = x.own;
      start = omega (arith, x.start, o.0);
      order = widen from from (larger c.highest m) m (meet n (reaching c m) (reaching d m)) (le_refl _) (omega (arith, larger-is c.highest m m o.0 (le_refl _) (inr refl)))
          (meet-canon n (reaching c m) (reaching d m) from (larger c.highest m) from (larger d.highest m) from p q (inl (le_refl _)));
      tops = sym t;
      marks = rw (x.marks, y.marks) (sym (ends-append g h));
      out = λ i w. (let k = meet-out n (reaching c m) (reaching d m) i w in
          let u = reach-out x m o.0 i k.0 in
          let v = reach-out y m o.1 i k.1 in
          (u.0, omega (arith, u.1, t), λ z. ⊎_elim u.2 v.2 (brought_split g h i z)));
      back = λ i k. meet_in n (reaching c m) (reaching d m) from (larger c.highest m) from (larger d.highest m) i (le_refl _) p q
          (reach_in x m i k.0 (omega (arith, k.1, t)) (λ v. k.2 (brought_left g h i v)))
          (reach_in y m i k.0 (omega (arith, k.1, t)) (λ v. k.2 (brought_right g h i v)));
    }

-- T14: two records met are the record of both histories
pub met_record : {from : ℕ} {c d : Channel} (g h : List Event) → 1 ≤ from → c ≡ record_of from g → d ≡ record_of from h → met c d ≡ record_of from (g ++ h)
met_record g h s e f = exact_record s (met-exact (record_is {h = g} s e) (record_is {h = h} s f))

-- which histories two records are taken for makes no difference
pub same-both : {from : ℕ} (g g' h h' : List Event) → 1 ≤ from → record_of from g ≡ record_of from g' → record_of from h ≡ record_of from h' →
    record_of from (g ++ h) ≡ record_of from (g' ++ h')
same-both g g' h h' s e f = sym (met_record g h s refl refl) ∙ met_record g' h' s e f
