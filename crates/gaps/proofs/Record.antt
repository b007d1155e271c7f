-- The record that a history makes: it is exact, it is the only one, and every record within the rules is one.
use Prim.Native.Nat.{ℕ, zero, suc, ◌+◌, ◌-◌, ◌≤◌, ◌<◌}
use native.Mathlib.Nat.{le_refl}
use native.Mathlib.Omega.{arith}
use mathlib.Core.Path.{◌≡◌, refl, ap, sym, ◌∙◌, subst}
use mathlib.Core.Logic.{◌⊎◌, inl, inr, ⊎_elim, ◌↔◌}
use mathlib.Core.List.{List, [], ◌∷◌}
use mathlib.Core.Bool.{Bool, true, false, false≢true, cond, not, ◌||◌, or-false, or-true}
use lib.Dec.{eqb}
use lib.IntN.{pos, negsuc}
use lib.ListN.{length}
use borrow.Author.Tests.{eqb-true, eqb-false, eq-eqb, not-true}
use Rattle.gaps.specs.declared.Run.{Run}
use Rattle.gaps.specs.Gaps.{run, has, canon}
use Rattle.gaps.specs.Limits.{run_limit}
use Rattle.gaps.specs.Channel.{Channel, Event, tick, heartbeat, natural}
use Rattle.gaps.specs.History.{Brought, top, ends, Forms, Overfull}
use Rattle.gaps.specs.Record.{brought_in, ahead, gather, formed, record_of}
use Rattle.gaps.proofs.Numbers.{lt_or_le, or_split, larger-of, larger-is}
use Rattle.gaps.proofs.Sets.{In, Canon, low, high, widen, canon_yes, has_in, in_has}
use Rattle.gaps.proofs.History.{top_start}
use Rattle.gaps.proofs.Exact.{Exact, determined, forms, forms_unique}

-- ---- the runs that numbers with a property form

ahead-canon : (n h : ℕ) (l : List Run) → n ≤ h → Canon (n + 1) h l → Canon n h (ahead n l)
unfolding ahead
ahead-canon n h [] p c = (le_refl _, le_refl _, p, tt)
ahead-canon n h (r ∷ l) p c = go (eqb r.first (n + 1)) refl
  where
    go : (b : Bool) → eqb r.first (n + 1) ≡ b → Canon n h (cond b (run n r.last ∷ l) (run n n ∷ r ∷ l))
    go true e = (le_refl _, omega (arith, c.0, c.1), c.2, c.3)
    go false e = (le_refl _, le_refl _, p, (omega (arith, c.0, eqb-false r.first (n + 1) e), c.1, c.2, c.3))

ahead-out : (n h : ℕ) (l : List Run) (i : ℕ) → Canon (n + 1) h l → In (ahead n l) i → (i ≡ n) ⊎ In l i
unfolding ahead
ahead-out n h [] i c (inl w) = inl (omega arith)
ahead-out n h [] i c (inr w) = absurd w
ahead-out n h (r ∷ l) i c w = go (eqb r.first (n + 1)) refl w
  where
    go : (b : Bool) → eqb r.first (n + 1) ≡ b → In (cond b (run n r.last ∷ l) (run n n ∷ r ∷ l)) i → (i ≡ n) ⊎ In (r ∷ l) i
    go true e (inl w) = let f = eqb-true r.first (n + 1) e in ⊎_elim (λ x. inr (inl (omega arith, w.1))) (λ x. inl (omega arith)) (lt_or_le n i)
    go true e (inr w) = inr (inr w)
    go false e (inl w) = inl (omega arith)
    go false e (inr w) = inr w

ahead-here : (n h : ℕ) (l : List Run) → Canon (n + 1) h l → In (ahead n l) n
unfolding ahead
ahead-here n h [] c = inl (le_refl _, le_refl _)
ahead-here n h (r ∷ l) c = go (eqb r.first (n + 1))
  where
    go : (b : Bool) → In (cond b (run n r.last ∷ l) (run n n ∷ r ∷ l)) n
    go true = inl (le_refl _, omega (arith, c.0, c.1))
    go false = inl (le_refl _, le_refl _)

ahead_in : (n h : ℕ) (l : List Run) (i : ℕ) → Canon (n + 1) h l → In l i → In (ahead n l) i
unfolding ahead
ahead_in n h [] i c w = absurd w
ahead_in n h (r ∷ l) i c w = go (eqb r.first (n + 1)) w
  where
    go : (b : Bool) → In (r ∷ l) i → In (cond b (run n r.last ∷ l) (run n n ∷ r ∷ l)) i
    go true (inl w) = inl (omega (arith, c.0), w.1)
    go true (inr w) = inr w
    go false w = inr w

module _ (p : ℕ → Bool) where
  gather-canon : (lo k h : ℕ) → lo + k ≤ h + 1 → Canon lo h (gather p lo k)
  unfolding gather
  gather-canon lo zero h e = tt
  gather-canon lo (suc k) h e = go (p lo) (gather-canon (suc lo) k h (omega arith))
    where
      go : (b : Bool) → Canon (suc lo) h (gather p (suc lo) k) → Canon lo h (cond b (ahead lo (gather p (suc lo) k)) (gather p (suc lo) k))
      go true c = ahead-canon lo h (gather p (suc lo) k) (omega arith) (widen (suc lo) (lo + 1) h h (gather p (suc lo) k) (omega arith) (le_refl _) c)
      go false c = widen (suc lo) lo h h (gather p (suc lo) k) (omega arith) (le_refl _) c

  canon-of : (lo k : ℕ) → Canon (lo + 1) (lo + k) (gather p (suc lo) k)
  canon-of lo k = widen (suc lo) (lo + 1) (lo + k) (lo + k) (gather p (suc lo) k) (omega arith) (le_refl _) (gather-canon (suc lo) k (lo + k) (omega arith))

  gather-out : (lo k i : ℕ) → In (gather p lo k) i → (lo ≤ i) × (i < lo + k) × (p i ≡ true)
  unfolding gather
  gather-out lo zero i w = absurd w
  gather-out lo (suc k) i w = go (p lo) refl w (λ v. gather-out (suc lo) k i v)
    where
      go : (b : Bool) → p lo ≡ b → In (cond b (ahead lo (gather p (suc lo) k)) (gather p (suc lo) k)) i →
          (In (gather p (suc lo) k) i → (suc lo ≤ i) × (i < suc lo + k) × (p i ≡ true)) → (lo ≤ i) × (i < lo + suc k) × (p i ≡ true)
      go true e w ih = ⊎_elim
          (λ x. (omega arith, omega arith, ap p x ∙ e))
          (λ x. let v = ih x in (omega (arith, v.0), omega (arith, v.1), v.2))
          (ahead-out lo (lo + k) (gather p (suc lo) k) i (canon-of lo k) w)
      go false e w ih = let v = ih w in (omega (arith, v.0), omega (arith, v.1), v.2)

  gather_in : (lo k i : ℕ) → lo ≤ i → i < lo + k → p i ≡ true → In (gather p lo k) i
  unfolding gather
  gather_in lo zero i a b e = absurd (omega arith)
  gather_in lo (suc k) i a b e = go (p lo) refl (eqb i lo) refl (λ f. gather_in (suc lo) k i f (omega arith) e)
    where
      go : (b : Bool) → p lo ≡ b → (c : Bool) → eqb i lo ≡ c → (suc lo ≤ i → In (gather p (suc lo) k) i) → In (cond b (ahead lo (gather p (suc lo) k)) (gather p (suc lo) k)) i
      go true q true f ih = subst (In (ahead lo (gather p (suc lo) k))) (sym (eqb-true i lo f)) (ahead-here lo (lo + k) (gather p (suc lo) k) (canon-of lo k))
      go true q false f ih = ahead_in lo (lo + k) (gather p (suc lo) k) i (canon-of lo k) (ih (omega (arith, eqb-false i lo f)))
      go false q true f ih = absurd (false≢true (sym q ∙ ap p (sym (eqb-true i lo f)) ∙ e))
      go false q false f ih = ih (omega (arith, eqb-false i lo f))

-- ---- the test of what was brought

brought_yes : (h : List Event) (n : ℕ) → brought_in h n ≡ true → Brought h n
unfolding brought_in
brought_yes [] n e = absurd (false≢true e)
brought_yes (tick (pos k) ∷ h) n e = ⊎_elim (λ w. inl (ap pos (eqb-true k n w))) (λ w. inr (brought_yes h n w)) (or_split (eqb k n) (brought_in h n) e)
brought_yes (tick (negsuc k) ∷ h) n e = inr (brought_yes h n e)
brought_yes (heartbeat z b ∷ h) n e = inr (brought_yes h n e)

yes_brought : (h : List Event) (n : ℕ) → Brought h n → brought_in h n ≡ true
unfolding brought_in
yes_brought [] n w = absurd w
yes_brought (tick (pos k) ∷ h) n (inl w) = rw (eq-eqb k n (ap natural w))
yes_brought (tick (pos k) ∷ h) n (inr w) = rw (yes_brought h n w, or-true (eqb k n))
yes_brought (tick (negsuc k) ∷ h) n (inl w) = absurd (let z : ◌≡◌ {A = ℕ} 0 1 = cc in omega arith)
yes_brought (tick (negsuc k) ∷ h) n (inr w) = yes_brought h n w
yes_brought (heartbeat z b ∷ h) n (inl w) = absurd w
yes_brought (heartbeat z b ∷ h) n (inr w) = yes_brought h n w

-- ---- the record is what the history says

pub record_exact : (from : ℕ) → 1 ≤ from → (h : List Event) → Exact from (record_of from h) h
unfolding formed
record_exact from s h =
    let t = top_start from h in
    record {
      own = refl;
      start = omega arith;
      order = gather-canon (λ (n : ℕ). not (brought_in h n)) from (top from h + 1 - from) (top from h) (omega arith);
      tops = refl;
      marks = refl;
      out = λ n w. (let v = gather-out (λ (n : ℕ). not (brought_in h n)) from (top from h + 1 - from) n w in
          (v.0, omega (arith, v.1, v.0), λ b. false≢true (sym (not-true _ v.2) ∙ yes_brought h n b)));
      back = λ n m. gather_in (λ (n : ℕ). not (brought_in h n)) from (top from h + 1 - from) n m.0 (omega (arith, m.0, m.1)) (go n (brought_in h n) refl m.2);
    }
  where
    go : (n : ℕ) (b : Bool) → brought_in h n ≡ b → (Brought h n → ⊥) → not (brought_in h n) ≡ true
    go n true e f = absurd (f (brought_yes h n e))
    go n false e f = rw e

-- D32, D33: no other record is what the history says
pub exact_record : {from : ℕ} {c : Channel} {h : List Event} → 1 ≤ from → Exact from c h → c ≡ record_of from h
exact_record {from} {c} {h} s x = determined x (record_exact from s h) refl refl (λ n w. w) (λ n w. w)

pub record_is : {c : Channel} {from : ℕ} {h : List Event} → 1 ≤ from → c ≡ record_of from h → Exact from c h
record_is {c} {from} {h} s e = subst (λ (d : Channel). Exact from d h) (sym e) (record_exact from s h)

-- ---- its runs are those that the missing numbers form

pub record_forms : (from : ℕ) → 1 ≤ from → (h : List Event) → Forms from h (formed from h)
record_forms from s h = forms (record_exact from s h)

-- D33: too many runs, as the number of those that the history forms
pub overfull-formed : (from : ℕ) → 1 ≤ from → (h : List Event) → Overfull from h ↔ (run_limit < length (formed from h))
overfull-formed from s h = (
  λ o. subst (λ (l : List Run). run_limit < length l) (forms_unique o.formed (record_forms from s h)) o.over,
  λ p. record { runs = formed from h; formed = record_forms from s h; over = p },
)

-- ---- a history of a record

-- a tick of each of the k numbers from lo on that a test holds of
unfoldable pub ticks : (ℕ → Bool) → ℕ → ℕ → List Event
ticks p lo zero = []
ticks p lo (suc k) = cond (p lo) (tick (pos lo) ∷ ticks p (suc lo) k) (ticks p (suc lo) k)

-- the highest announced with the mark, then a tick of each number that no run has
abbrev pub told : Channel → List Event
told c = heartbeat (pos c.highest) c.ended ∷ ticks (λ (n : ℕ). not (has c.runs n)) c.from (c.highest + 1 - c.from)

module _ (p : ℕ → Bool) where
  ticks_out : (lo k i : ℕ) → Brought (ticks p lo k) i → (lo ≤ i) × (i < lo + k) × (p i ≡ true)
  unfolding ticks
  ticks_out lo zero i w = absurd w
  ticks_out lo (suc k) i w = go (p lo) refl w (λ v. ticks_out (suc lo) k i v)
    where
      go : (b : Bool) → p lo ≡ b → Brought (cond b (tick (pos lo) ∷ ticks p (suc lo) k) (ticks p (suc lo) k)) i →
          (Brought (ticks p (suc lo) k) i → (suc lo ≤ i) × (i < suc lo + k) × (p i ≡ true)) → (lo ≤ i) × (i < lo + suc k) × (p i ≡ true)
      go true e (inl w) ih = let x : lo ≡ i = ap natural w in (omega arith, omega arith, ap p (sym x) ∙ e)
      go true e (inr w) ih = let v = ih w in (omega (arith, v.0), omega (arith, v.1), v.2)
      go false e w ih = let v = ih w in (omega (arith, v.0), omega (arith, v.1), v.2)

  ticks_in : (lo k i : ℕ) → lo ≤ i → i < lo + k → p i ≡ true → Brought (ticks p lo k) i
  unfolding ticks
  ticks_in lo zero i a b e = absurd (omega arith)
  ticks_in lo (suc k) i a b e = go (p lo) refl (eqb i lo) refl (λ f. ticks_in (suc lo) k i f (omega arith) e)
    where
      go : (b : Bool) → p lo ≡ b → (c : Bool) → eqb i lo ≡ c → (suc lo ≤ i → Brought (ticks p (suc lo) k) i) → Brought (cond b (tick (pos lo) ∷ ticks p (suc lo) k) (ticks p (suc lo) k)) i
      go true q true f ih = inl (ap pos (sym (eqb-true i lo f)))
      go true q false f ih = inr (ih (omega (arith, eqb-false i lo f)))
      go false q true f ih = absurd (false≢true (sym q ∙ ap p (sym (eqb-true i lo f)) ∙ e))
      go false q false f ih = ih (omega (arith, eqb-false i lo f))

  ticks_top : (from lo k h : ℕ) → from ≤ h + 1 → lo + k ≤ h + 1 → top from (ticks p lo k) ≤ h
  unfolding ticks
  ticks_top from lo zero h a b = omega arith
  ticks_top from lo (suc k) h a b = go (p lo) (ticks_top from (suc lo) k h a (omega arith))
    where
      go : (b : Bool) → top from (ticks p (suc lo) k) ≤ h → top from (cond b (tick (pos lo) ∷ ticks p (suc lo) k) (ticks p (suc lo) k)) ≤ h
      go true t = ⊎_elim (λ x. omega arith) (λ x. omega arith) (larger-of lo (top from (ticks p (suc lo) k))).2
      go false t = t

  ticks_ends : (lo k : ℕ) → ends (ticks p lo k) ≡ false
  unfolding ticks
  ticks_ends lo zero = refl
  ticks_ends lo (suc k) = go (p lo) (ticks_ends (suc lo) k)
    where
      go : (b : Bool) → ends (ticks p (suc lo) k) ≡ false → ends (cond b (tick (pos lo) ∷ ticks p (suc lo) k) (ticks p (suc lo) k)) ≡ false
      go true e = e
      go false e = e

told_exact : (c : Channel) → c.from ≤ c.highest + 1 → Canon c.from c.highest c.runs → Exact c.from c (told c)
told_exact c s o =
    let p : ℕ → Bool = λ (n : ℕ). not (has c.runs n) in
    let k = c.highest + 1 - c.from in
    let t : top c.from (told c) ≡ c.highest = larger-is c.highest (top c.from (ticks p c.from k)) c.highest (le_refl _) (ticks_top p c.from c.from k c.highest s (omega arith)) (inl refl) in
    record {
      own = refl;
      start = s;
      order = o;
      tops = sym t;
      marks = sym (ap (λ (b : Bool). c.ended || b) (ticks_ends p c.from k) ∙ or-false c.ended);
      out = λ n w. (
        low c.from c.highest c.runs n o w,
        omega (arith, t, high c.from c.highest c.runs n o w),
        λ b. ⊎_elim (λ x. x) (λ x. false≢true (sym (not-true _ (ticks_out p c.from k n x).2) ∙ in_has c.runs n w)) b,
      );
      back = λ n m. go n (has c.runs n) refl m.0 (omega (arith, t, m.1)) (λ x. m.2 (inr x));
    }
  where
    go : (n : ℕ) (b : Bool) → has c.runs n ≡ b → c.from ≤ n → n ≤ c.highest →
        (Brought (ticks (λ (n : ℕ). not (has c.runs n)) c.from (c.highest + 1 - c.from)) n → ⊥) → In c.runs n
    go n true e a b f = has_in c.runs n e
    go n false e a b f = absurd (f (ticks_in (λ (n : ℕ). not (has c.runs n)) c.from (c.highest + 1 - c.from) n a (omega arith) (rw e)))

-- every record within the rules holds a history
pub told_record : (c : Channel) → 1 ≤ c.from → c.from ≤ c.highest + 1 → canon c.from c.highest c.runs ≡ true → c ≡ record_of c.from (told c)
told_record c s p o = exact_record s (told_exact c p (canon_yes c.from c.highest c.runs o))
