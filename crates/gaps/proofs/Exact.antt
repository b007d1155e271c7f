-- A channel's record is what its history says: at first, and after each step that is taken.
use Prim.Native.Nat.{ℕ, ◌+◌, ◌-◌, ◌≤◌, ◌<◌}
use native.Mathlib.Nat.{le_refl}
use native.Mathlib.Omega.{arith}
use mathlib.Core.Path.{◌≡◌, refl, ap, sym, ◌∙◌, subst}
use mathlib.Core.Logic.{◌⊎◌, inl, inr, ⊎_elim}
use mathlib.Core.List.{List, [], ◌∷◌, ◌++◌}
use mathlib.Core.Bool.{Bool, true, false, false≢true, ◌||◌, or-false}
use lib.IntN.{pos, negsuc}
use borrow.Author.Tests.{le-leb, lt-leb, lt-ltb, le-ltb, ltb-true}
use Rattle.gaps.specs.declared.Run.{Run}
use Rattle.gaps.specs.Gaps.{larger, has, cut_all, fill}
use Rattle.gaps.specs.Channel.{Channel, fresh, changed, Event, tick, heartbeat, new, late, duplicate, natural, ticked, announced, taken, too_low, too_early}
use Rattle.gaps.specs.History.{Brought, top, ends, Missing, Forms}
use Rattle.gaps.proofs.Numbers.{lt_or_le, larger-of, larger-is}
use Rattle.gaps.proofs.Sets.{In, Canon, widen, unique, canon_yes, yes_canon, has_in, in_has, cut_out, cut_in, cut-canon, grow-out, grow_old, grow-new, grow-canon}
use Rattle.gaps.proofs.History.{brought_split, brought_left, brought_right, brought_top, top-more, ends_more}

-- ---- a tick's step in each of its cases

module _ (c : Channel) (n : ℕ) where
  pub ticked-new : c.highest < n →
      ticked c n ≡ record { said = new; next = changed c n c.ended (fill c.runs c.highest (n - 1)) }
  unfolding ticked
  ticked-new h = rw (lt-ltb c.highest n h)

  pub ticked-late : n ≤ c.highest → has c.runs n ≡ true →
      ticked c n ≡ record { said = late; next = changed c c.highest c.ended (cut_all c.runs n) }
  unfolding ticked
  ticked-late h e = rw (le-ltb c.highest n h, e)

  pub ticked_again : n ≤ c.highest → has c.runs n ≡ false → ticked c n ≡ record { said = duplicate; next = c }
  unfolding ticked
  ticked_again h e = rw (le-ltb c.highest n h, e)

-- ---- fill, which grows where there is something to add

module _ (from : ℕ) (l : List Run) (h m : ℕ) (c : Canon from h l) where
  pub fill-canon : from ≤ h + 1 → Canon from (larger h m) (fill l h m)
  unfolding fill
  fill-canon s = ⊎_elim
      (λ p. rw (lt-leb m h p, larger-is h m m (omega arith) (le_refl _) (inr refl)) (grow-canon l from h m c s p))
      (λ p. rw (le-leb m h p, larger-is h m h (le_refl _) p (inl refl)) c)
      (lt_or_le h m)

  pub fill-out : from ≤ h + 1 → (k : ℕ) → In (fill l h m) k → In l k ⊎ ((h < k) × (k ≤ m))
  unfolding fill
  fill-out s k = ⊎_elim (λ p. rw (lt-leb m h p) (grow-out l from h m k c s p)) (λ p. rw (le-leb m h p) (λ w. inl w)) (lt_or_le h m)

  pub fill_old : (k : ℕ) → In l k → In (fill l h m) k
  unfolding fill
  fill_old k = ⊎_elim (λ p. rw (lt-leb m h p) (grow_old l from h m k c p)) (λ p. rw (le-leb m h p) (λ w. w)) (lt_or_le h m)

  pub fill-new : (k : ℕ) → h < k → k ≤ m → In (fill l h m) k
  unfolding fill
  fill-new k a b = let p : h < m = omega arith in rw (lt-leb m h p) (grow-new l from h m k c a b)

-- ---- the record is what the history says

pub record Exact (from : ℕ) (c : Channel) (h : List Event) : Type 0 where
  pub own : c.from ≡ from
  pub start : from ≤ c.highest + 1
  pub order : Canon from c.highest c.runs
  pub tops : c.highest ≡ top from h
  pub marks : c.ended ≡ ends h
  pub out : (n : ℕ) → In c.runs n → Missing from h n
  pub back : (n : ℕ) → Missing from h n → In c.runs n

pub fresh-exact : (from : ℕ) → 1 ≤ from → Exact from (fresh from) []
fresh-exact from p =
    record { own = refl; start = omega arith; order = tt; tops = refl; marks = refl; out = λ n w. absurd w; back = λ n w. absurd (omega arith) }

channel_ext : (c d : Channel) → c.from ≡ d.from → c.highest ≡ d.highest → c.ended ≡ d.ended → c.runs ≡ d.runs → c ≡ d
channel_ext c d s a b e = λ i. record { from = s i; highest = a i; ended = b i; runs = e i }

-- two records of histories that say the same are one record
pub determined : {from : ℕ} {c d : Channel} {g h : List Event} → Exact from c g → Exact from d h → top from g ≡ top from h → ends g ≡ ends h →
    ((n : ℕ) → Brought g n → Brought h n) → ((n : ℕ) → Brought h n → Brought g n) → c ≡ d
determined {from} {c} {d} x y t z p q =
    let l : c.runs ≡ d.runs = unique c.runs d.runs from c.highest from d.highest x.order y.order
    (λ n w. let v = x.out n w in y.back n (v.0, omega (arith, v.1, t), λ b. v.2 (q n b)))
    (λ n w. let v = y.out n w in x.back n (v.0, omega (arith, v.1, t), λ b. v.2 (p n b))) in
    channel_ext c d (x.own ∙ sym y.own) (x.tops ∙ t ∙ sym y.tops) (x.marks ∙ z ∙ sym y.marks) l

-- its runs are the runs that the history's missing numbers form, and no others are
pub forms : {from : ℕ} {c : Channel} {h : List Event} → Exact from c h → Forms from h c.runs
forms {from} {c} {h} x =
    record {
      order = rw x.tops at (yes_canon from c.highest c.runs x.order);
      same = λ n. (λ e. x.out n (has_in c.runs n e), λ m. in_has c.runs n (x.back n m));
    }

pub forms_unique : {from : ℕ} {h : List Event} {l k : List Run} → Forms from h l → Forms from h k → l ≡ k
forms_unique {from} {h} {l} {k} x y =
    unique l k from (top from h) from (top from h) (canon_yes from (top from h) l x.order) (canon_yes from (top from h) k y.order)
    (λ n w. has_in k n ((y.same n).1 ((x.same n).0 (in_has l n w))))
    (λ n w. has_in l n ((x.same n).1 ((y.same n).0 (in_has k n w))))

-- ---- one step

module _ (from : ℕ) (c : Channel) (h : List Event) (x : Exact from c h) where
  module _ (n : ℕ) where
    brings-new : (i : ℕ) → i ≡ n → Brought (h ++ (tick (pos n) ∷ [])) i
    brings-new i e = brought_right h (tick (pos n) ∷ []) i (inl (ap pos (sym e)))

    brings_old : (i : ℕ) → (Brought (h ++ (tick (pos n) ∷ [])) i → ⊥) → Brought h i → ⊥
    brings_old i f b = f (brought_left h (tick (pos n) ∷ []) i b)

    other : (i : ℕ) → (Brought (h ++ (tick (pos n) ∷ [])) i → ⊥) → i ≡ n → ⊥
    other i f e = f (brings-new i e)

    brings-one : (i : ℕ) → Brought (h ++ (tick (pos n) ∷ [])) i → Brought h i ⊎ (i ≡ n)
    brings-one i b = ⊎_elim (λ w. inl w) (λ w. ⊎_elim (λ y. inr (sym (ap natural y))) (λ y. absurd y) w) (brought_split h (tick (pos n) ∷ []) i b)

    mark_kept : c.ended ≡ ends (h ++ (tick (pos n) ∷ []))
    mark_kept = x.marks ∙ sym (ends_more h (tick (pos n)) ∙ or-false (ends h))

    top_kept : n ≤ c.highest → top from (h ++ (tick (pos n) ∷ [])) ≡ c.highest
    top_kept g = top-more from h (tick (pos n)) ∙ larger-is (top from h) n c.highest (omega (arith, x.tops)) g (inl x.tops)

    at_new : c.highest < n → Exact from (changed c n c.ended (fill c.runs c.highest (n - 1))) (h ++ (tick (pos n) ∷ []))
    at_new g =
        let k = x.order in
        let t : top from (h ++ (tick (pos n) ∷ [])) ≡ n = top-more from h (tick (pos n)) ∙ larger-is (top from h) n n (omega (arith, x.tops)) (le_refl _) (inr refl) in
        let b : larger c.highest (n - 1) ≤ n = ⊎_elim (λ w. omega arith) (λ w. omega arith) (larger-of c.highest (n - 1)).2 in
        record {
          own = x.own;
          start = omega (arith, x.start);
          order = widen from from _ n (fill c.runs c.highest (n - 1)) (le_refl _) b (fill-canon from c.runs c.highest (n - 1) k x.start);
          tops = sym t;
          marks = mark_kept;
          out = λ i w. ⊎_elim
              (λ y. let m = x.out i y in (m.0, omega (arith, t, x.tops, m.1), λ b. ⊎_elim m.2 (λ e. omega (arith, x.tops, m.1)) (brings-one i b)))
              (λ y. (omega (arith, x.start), omega (arith, t), λ b. ⊎_elim (λ z. let q = brought_top from h i z in omega (arith, x.tops)) (λ e. omega arith) (brings-one i b)))
              (fill-out from c.runs c.highest (n - 1) k x.start i w);
          back = λ i m. ⊎_elim
              (λ y. fill-new from c.runs c.highest (n - 1) k i y (omega (arith, t, m.1, other i m.2)))
              (λ y. fill_old from c.runs c.highest (n - 1) k i (x.back i (m.0, omega (arith, x.tops), brings_old i m.2)))
              (lt_or_le c.highest i);
        }

    at-late : n ≤ c.highest → Exact from (changed c c.highest c.ended (cut_all c.runs n)) (h ++ (tick (pos n) ∷ []))
    at-late g =
        let t = top_kept g in
        record {
          own = x.own;
          start = x.start;
          order = cut-canon from c.highest c.runs n x.order;
          tops = sym t;
          marks = mark_kept;
          out = λ i w. (let p = cut_out c.runs n i w in let m = x.out i p.0 in
              (m.0, omega (arith, t, x.tops, m.1), λ b. ⊎_elim m.2 p.1 (brings-one i b)));
          back = λ i m. cut_in c.runs n i (x.back i (m.0, omega (arith, t, x.tops, m.1), brings_old i m.2)) (other i m.2);
        }

    at_again : n ≤ c.highest → (In c.runs n → ⊥) → Exact from c (h ++ (tick (pos n) ∷ []))
    at_again g free =
        let t = top_kept g in
        record {
          own = x.own;
          start = x.start;
          order = x.order;
          tops = sym t;
          marks = mark_kept;
          out = λ i w. (let m = x.out i w in
              (m.0, omega (arith, t, x.tops, m.1), λ b. ⊎_elim m.2 (λ e. free (subst (In c.runs) e w)) (brings-one i b)));
          back = λ i m. x.back i (m.0, omega (arith, t, x.tops, m.1), brings_old i m.2);
        }

    tick-exact : Exact from (ticked c n).next (h ++ (tick (pos n) ∷ []))
    tick-exact = go (lt_or_le c.highest n) (has c.runs n) refl
      where
        go : (c.highest < n) ⊎ (n ≤ c.highest) → (g : Bool) → has c.runs n ≡ g → Exact from (ticked c n).next (h ++ (tick (pos n) ∷ []))
        go (inl a) g e = rw (ticked-new c n a) (at_new a)
        go (inr a) true e = rw (ticked-late c n a e) (at-late a)
        go (inr a) false e = rw (ticked_again c n a e) (at_again a (λ w. false≢true (sym e ∙ in_has c.runs n w)))

  -- a tick below the first number says nothing
  pub early_exact : (e : Event) → too_low e ≡ false → too_early c e ≡ true → Exact from c (h ++ (e ∷ []))
  early_exact (tick (negsuc n)) p q = absurd (false≢true (sym p))
  early_exact (heartbeat z end) p q = absurd (false≢true q)
  early_exact (tick (pos n)) p q =
      let b : n < c.from = ltb-true n c.from q in
      at_again n (omega (arith, x.start, x.own)) (λ w. let m = x.out n w in omega (arith, x.own, m.0))

  module _ (m : ℕ) (end : Bool) where
    quiet : (i : ℕ) → Brought (h ++ (heartbeat (pos m) end ∷ [])) i → Brought h i
    quiet i b = ⊎_elim (λ w. w) (λ w. ⊎_elim (λ y. absurd y) (λ y. absurd y) w) (brought_split h (heartbeat (pos m) end ∷ []) i b)

    heartbeat-exact : Exact from (announced c m end).next (h ++ (heartbeat (pos m) end ∷ []))
    unfolding announced
    heartbeat-exact =
        let k = x.order in
        let t : top from (h ++ (heartbeat (pos m) end ∷ [])) ≡ larger c.highest m = top-more from h (heartbeat (pos m) end) ∙ ap (λ (y : ℕ). larger y m) (sym x.tops) in
        let o = larger-of c.highest m in
        record {
          own = x.own;
          start = omega (arith, x.start, o.0);
          order = fill-canon from c.runs c.highest m k x.start;
          tops = sym t;
          marks = ap (λ (y : Bool). y || end) x.marks ∙ sym (ends_more h (heartbeat (pos m) end));
          out = λ i w. ⊎_elim
              (λ y. let q = x.out i y in (q.0, omega (arith, t, q.1, x.tops, o.0), λ b. q.2 (quiet i b)))
              (λ y. (omega (arith, x.start), omega (arith, t, o.1), λ b. let q = brought_top from h i (quiet i b) in omega (arith, x.tops)))
              (fill-out from c.runs c.highest m k x.start i w);
          back = λ i q. ⊎_elim
              (λ y. fill-new from c.runs c.highest m k i y (⊎_elim (λ z. omega (arith, t, q.1)) (λ z. omega (arith, t, q.1)) o.2))
              (λ y. fill_old from c.runs c.highest m k i (x.back i (q.0, omega (arith, x.tops), λ b. q.2 (brought_left h (heartbeat (pos m) end ∷ []) i b))))
              (lt_or_le c.highest i);
        }

  pub taken-exact : (e : Event) → too_low e ≡ false → Exact from (taken c e).next (h ++ (e ∷ []))
  taken-exact (tick (pos n)) p = tick-exact n
  taken-exact (tick (negsuc n)) p = absurd (false≢true (sym p))
  taken-exact (heartbeat (pos m) end) p = heartbeat-exact m end
  taken-exact (heartbeat (negsuc m) end) p = absurd (false≢true (sym p))
