-- Groups one after the other: one step of each definition, at the code's k and k - 1; a group in the part that holds its fields; how a walk is judged.
-- Assumes nothing.
use Prim.Native.Nat.{ℕ, zero, suc, ◌+◌, ◌-◌, ◌*◌, ◌<◌, ◌≤◌, zero-le}
use mathlib.Core.Path.{◌≡◌, refl, sym, ◌∙◌}
use mathlib.Core.Bool.{Bool, true, false, ◌&&◌}
use mathlib.Core.List.{List, [], ◌∷◌}
use native.Mathlib.Nat.{mul-suc}
use native.Mathlib.Omega.{arith}
use borrow.Author.Tests.{le-leb, lt-leb, leb-true, leb-false, eq-eqb, ne_eqb}
use lib.Dec.{leb}
use Rattle.std.specs.Prelude.{cond, Some, None}
use Rattle.std.specs.Option.{unwrap_or}
use Rattle.std.proofs.lemmas.Option.{cond_some, none-some}
use lib.ListN.{length, take, drop}
use Rattle.wire.specs.Answer.{Answer, accepted, refused, guard}
use Rattle.wire.specs.Bytes.{be_at, part}
use Rattle.wire.specs.Refusal.{not_its_layout}
use Rattle.wire.proofs.Be.{be_at-part}
use Rattle.layout.specs.Kind.{Kind, quantity, width, ranged}
use Rattle.layout.specs.Layout.{Message, fields, Group, size, ranges}
use Rattle.layout.specs.Group.{shown, shown_offset, next_offset, group_offset, fit, quantities, group_ranges, verdict, end_of, even, judge_groups, offset_from, also, no_group, group, groups_start, count, needs, whole, judge_body}

-- ---- truth values

-- what holds where both of two do, and what does not
pub and_both : (a b : Bool) → a && b ≡ true → (a ≡ true) × (b ≡ true)
and_both true b e = (refl, e)
and_both false b e = let z : ◌≡◌ {A = ℕ} 0 1 = cc in absurd (omega arith)

pred_is : (k : ℕ) → suc k - 1 ≡ k
pred_is k = omega arith

-- ---- quantities

pub quantities-step : (n : ℕ) (s : List ℕ) (at : ℕ) → 0 < n → quantities n s at ≡ ranged quantity (be_at s at 8) && quantities (n - 1) s (at + 8)
unfolding quantities
quantities-step zero s at h = absurd (omega arith)
quantities-step (suc n) s at h = rw (pred_is n)

pub quantities-none : (n : ℕ) (s : List ℕ) (at : ℕ) → n ≤ 0 → quantities n s at ≡ true
unfolding quantities
quantities-none zero s at h = refl
quantities-none (suc n) s at h = absurd (omega arith)

-- ---- groups

module _ (g : Group) (s : List ℕ) where
  fit-step : (at k : ℕ) → 0 < k → fit g s at k ≡ leb (shown_offset g at) (length s) && (leb (next_offset g s at) (length s) && fit g s (next_offset g s at) (k - 1))
  unfolding fit
  fit-step at zero h = absurd (omega arith)
  fit-step at (suc k) h = rw (pred_is k)

  pub fit_none : (at k : ℕ) → k ≤ 0 → fit g s at k ≡ true
  unfolding fit
  fit_none at zero h = refl
  fit_none at (suc k) h = absurd (omega arith)

  pub fit_short : (at k : ℕ) → 0 < k → length s < shown_offset g at → fit g s at k ≡ false
  fit_short at k h n = fit-step at k h ∙ rw (lt-leb (shown_offset g at) (length s) n)

  pub fit-behind : (at k : ℕ) → 0 < k → length s < next_offset g s at → fit g s at k ≡ false
  fit-behind at k h n = fit-step at k h ∙ rw (lt-leb (next_offset g s at) (length s) n) (no_more (leb (shown_offset g at) (length s)))
    where
      no_more : (b : Bool) → b && false ≡ false
      no_more true = refl
      no_more false = refl

  pub fit_on : (at k : ℕ) → 0 < k → next_offset g s at ≤ length s → fit g s at k ≡ fit g s (next_offset g s at) (k - 1)
  fit_on at k h n =
      fit-step at k h ∙ rw (le-leb (shown_offset g at) (length s) (omega arith), le-leb (next_offset g s at) (length s) n)

  -- what is known of the next group where k fit
  pub record Ahead (at k : ℕ) : Type 0 where
    pub fixed : shown_offset g at ≤ length s
    pub whole : next_offset g s at ≤ length s
    pub rest : fit g s (next_offset g s at) (k - 1) ≡ true

  pub ahead : (at k : ℕ) → 0 < k → fit g s at k ≡ true → Ahead at k
  ahead at k h e =
      let a = and_both (leb (shown_offset g at) (length s)) (leb (next_offset g s at) (length s) && fit g s (next_offset g s at) (k - 1)) (sym (fit-step at k h) ∙ e) in
      let b = and_both (leb (next_offset g s at) (length s)) (fit g s (next_offset g s at) (k - 1)) a.1 in
      record { fixed = leb-true _ _ a.0; whole = leb-true _ _ b.0; rest = b.1 }

  pub offset_step : (at k : ℕ) → 0 < k → group_offset g s at k ≡ group_offset g s (next_offset g s at) (k - 1)
  unfolding group_offset
  offset_step at zero h = absurd (omega arith)
  offset_step at (suc k) h = rw (pred_is k)

  pub offset-none : (at k : ℕ) → k ≤ 0 → group_offset g s at k ≡ at
  unfolding group_offset
  offset-none at zero h = refl
  offset-none at (suc k) h = absurd (omega arith)

  -- the offset of the group behind group i
  pub offset-next : (at i : ℕ) → group_offset g s at (suc i) ≡ next_offset g s (group_offset g s at i)
  unfolding group_offset
  offset-next at zero = refl
  offset-next at (suc i) = offset-next (next_offset g s at) i

  pub group_ranges-step : (at k : ℕ) → 0 < k → group_ranges g s at k ≡ (ranges g.fields s at && quantities (shown g s at) s (shown_offset g at)) && group_ranges g s (next_offset g s at) (k - 1)
  unfolding group_ranges
  group_ranges-step at zero h = absurd (omega arith)
  group_ranges-step at (suc k) h = rw (pred_is k)

  pub group_ranges-none : (at k : ℕ) → k ≤ 0 → group_ranges g s at k ≡ true
  unfolding group_ranges
  group_ranges-none at zero h = refl
  group_ranges-none at (suc k) h = absurd (omega arith)

  -- fewer groups fit too; where they end is within the bytes; and group i fits where it stands
  pub fit-fewer : (at i k : ℕ) → i ≤ k → fit g s at k ≡ true → fit g s at i ≡ true
  fit-fewer at zero k h e = fit_none at 0 zero-le
  fit-fewer at (suc i) k h e =
      let n : Ahead at k = ahead at k (omega arith) e in
      fit_on at (suc i) (omega arith) n.whole ∙ rw (pred_is i) (fit-fewer (next_offset g s at) i (k - 1) (omega arith) n.rest)

  pub offset-within : (at i : ℕ) → at ≤ length s → fit g s at i ≡ true → group_offset g s at i ≤ length s
  offset-within at zero h e = rw (offset-none at 0 zero-le) h
  offset-within at (suc i) h e =
      let n : Ahead at (suc i) = ahead at (suc i) (omega arith) e in
      rw (offset_step at (suc i) (omega arith), pred_is i) (offset-within (next_offset g s at) i n.whole (rw (pred_is i) at n.rest))

  pub offset-behind : (at i : ℕ) → at ≤ group_offset g s at i
  unfolding group_offset
  offset-behind at zero = omega arith
  offset-behind at (suc i) = omega (arith, offset-behind (next_offset g s at) i)

  -- groups that the bytes lack end behind the bytes
  pub offset_beyond : (at k : ℕ) → fit g s at k ≡ false → length s < group_offset g s at k
  offset_beyond at zero e = let z : ◌≡◌ {A = ℕ} 0 1 = cc (fit_none at 0 zero-le) in absurd (omega arith)
  offset_beyond at (suc k) e = rw (offset_step at (suc k) (omega arith), pred_is k) (go (leb (next_offset g s at) (length s)) refl (λ f. offset_beyond (next_offset g s at) k f))
    where
      go : (b : Bool) → leb (next_offset g s at) (length s) ≡ b → (fit g s (next_offset g s at) k ≡ false → length s < group_offset g s (next_offset g s at) k) → length s < group_offset g s (next_offset g s at) k
      go true h on = on (sym (fit_on at (suc k) (omega arith) (leb-true (next_offset g s at) (length s) h) ∙ rw (pred_is k)) ∙ e)
      go false h on = omega (arith, leb-false (next_offset g s at) (length s) h, offset-behind (next_offset g s at) k)

  pub fit-there : (at i k : ℕ) → i < k → fit g s at k ≡ true → fit g s (group_offset g s at i) (k - i) ≡ true
  unfolding group_offset
  fit-there at zero k h e = let m : k - 0 ≡ k = omega arith in rw m e
  fit-there at (suc i) k h e =
      let n : Ahead at k = ahead at k (omega arith) e in
      let m : k - 1 - i ≡ k - suc i = omega arith in
      rw m at (fit-there (next_offset g s at) i (k - 1) (omega arith) n.rest)

  -- group i of k that fit has its fields
  pub fields-there : (at i k : ℕ) → i < k → fit g s at k ≡ true → group_offset g s at i + size g.fields ≤ length s
  fields-there at i k h e = (ahead (group_offset g s at i) (k - i) (omega arith) (fit-there at i k h e)).fixed

  -- groups that show nothing stand one width from each other
  pub offset_flat : g.shows ≡ false → (at i : ℕ) → group_offset g s at i ≡ at + size g.fields * i
  unfolding group_offset shown
  offset_flat h at zero = omega arith
  offset_flat h at (suc i) =
      let e : next_offset g s at ≡ at + size g.fields = rw h (omega arith) in
      rw (e, mul-suc (size g.fields) i, offset_flat h (at + size g.fields) i) (omega arith)

-- where k groups end, by whether they fit
module _ (g : Group) (s : List ℕ) (at k : ℕ) where
  pub lacks : fit g s at k ≡ false → None ≡ end_of g s at k
  unfolding end_of
  lacks f = rw f

  pub ends : {e : ℕ} → fit g s at k ≡ true → group_offset g s at k ≡ e → Some e ≡ end_of g s at k
  unfolding end_of
  ends f h = rw (f, h)

  -- what their end says
  pub fits : {e : ℕ} → end_of g s at k ≡ Some e → (fit g s at k ≡ true) × (group_offset g s at k ≡ e)
  unfolding end_of
  fits {e} h = cond_some (fit g s at k) (group_offset g s at k) e h

  pub fits_not : end_of g s at k ≡ None → fit g s at k ≡ false
  unfolding end_of
  fits_not h = by (fit g s at k) h
    where
      by : (b : Bool) → cond b (Some (group_offset g s at k)) None ≡ None → b ≡ false
      by true f = absurd (none-some (group_offset g s at k) (sym f))
      by false f = refl

  -- the offset behind them, or that from which they were looked for
  pub from : unwrap_or (end_of g s at k) at ≡ offset_from g s at k
  unfolding end_of offset_from
  from = by (fit g s at k)
    where
      by : (b : Bool) → unwrap_or (cond b (Some (group_offset g s at k)) None) at ≡ cond b (group_offset g s at k) at
      by true = refl
      by false = refl

-- k groups and nothing else, by where they end
module _ (g : Group) (s : List ℕ) (k : ℕ) where
  pub evenly : {e : ℕ} → end_of g s 0 k ≡ Some e → e ≡ length s → even g s k ≡ true
  unfolding even
  evenly h f = let t = fits g s 0 k h in rw (t.0, eq-eqb _ _ (t.1 ∙ f))

  pub longer : {e : ℕ} → end_of g s 0 k ≡ Some e → (e ≡ length s → ⊥) → even g s k ≡ false
  unfolding even
  longer h f = let t = fits g s 0 k h in rw (t.0, ne_eqb _ _ (λ i. f (sym t.1 ∙ i)))

  pub lacking : end_of g s 0 k ≡ None → even g s k ≡ false
  unfolding even
  lacking h = rw (fits_not g s 0 k h)

-- ---- a group in the part that holds its fields

pub ranges-part : (l : List Kind) (s : List ℕ) (p w i : ℕ) → i + size l ≤ w → ranges l (take w (drop p s)) i ≡ ranges l s (p + i)
unfolding ranges size
ranges-part [] s p w i h = refl
ranges-part (k ∷ ks) s p w i h =
    let e : p + (i + width k) ≡ p + i + width k = omega arith in
    rw (be_at-part s p w i (width k) (omega arith), ranges-part ks s p w (i + width k) (omega arith), e)

pub ranges-here : (l : List Kind) (s : List ℕ) (p e : ℕ) → p + size l ≡ e → ranges l (part p e s) 0 ≡ ranges l s p
ranges-here l s p e h =
    let z : p + 0 ≡ p = omega arith in
    rw z at (ranges-part l s p (e - p) 0 (omega arith))

shown_by : (b : Bool) (g : Group) (s : List ℕ) (p e : ℕ) → p + size g.fields ≡ e → 4 ≤ size g.fields → g.shows ≡ b → shown g (part p e s) 0 ≡ shown g s p
unfolding shown
shown_by true g s p e h k b =
    let z : p + (0 + size g.fields - 4) ≡ p + size g.fields - 4 = omega arith in
    rw (b, ← z) (be_at-part s p (e - p) (0 + size g.fields - 4) 4 (omega arith))
shown_by false g s p e h k b = rw b

pub shown-here : (g : Group) (s : List ℕ) (p e : ℕ) → p + size g.fields ≡ e → 4 ≤ size g.fields → shown g (part p e s) 0 ≡ shown g s p
shown-here g s p e h k = shown_by g.shows g s p e h k refl

-- ---- verdicts

-- what an acceptance says
pub record Good (there in_range : Bool) : Type 0 where
  pub all : there ≡ true
  pub each : in_range ≡ true

good_by : (a b : Bool) (x : Answer Unit) → verdict a b ≡ x → x ≡ accepted tt → Good a b
unfolding guard
good_by true true x e f = record { all = refl; each = refl }
good_by true false x e f = let z : ◌≡◌ {A = ℕ} 0 1 = cc in absurd (omega arith)
good_by false b x e f = let z : ◌≡◌ {A = ℕ} 0 1 = cc in absurd (omega arith)

pub good : (a b : Bool) → verdict a b ≡ accepted tt → Good a b
good a b e = good_by a b (verdict a b) refl e

-- ---- a body

also_by : (f r g : Bool) → verdict f (r && g) ≡ also r (verdict f g)
unfolding guard
also_by true true true = refl
also_by true true false = refl
also_by true false true = refl
also_by true false false = refl
also_by false true true = refl
also_by false true false = refl
also_by false false true = refl
also_by false false false = refl

module _ (m : Message) (s : List ℕ) where
  -- a body that lacks bytes of its fields
  pub judged_short : length s < groups_start m → judge_body m s ≡ refused not_its_layout []
  unfolding judge_body guard
  judged_short h = rw (lt-leb (groups_start m) (length s) h)

  -- one that has them
  pub judged_long : groups_start m ≤ length s → judge_body m s ≡ also (ranges (fields m) s 0) (judge_groups (group m) s (groups_start m) (count m s))
  unfolding judge_body judge_groups
  judged_long h =
      rw (le-leb (groups_start m) (length s) h)
      (also_by (fit (group m) s (groups_start m) (count m s)) (ranges (fields m) s 0) (group_ranges (group m) s (groups_start m) (count m s)))

  -- a layout needs the bytes up to where its groups end, and no more
  needs_by : (b : Bool) → leb (groups_start m) (length s) ≡ b → whole m s ≡ false → length s < needs m s
  needs_by true h e =
      offset_beyond (group m) s (groups_start m) (count m s) (rw h at e)
  needs_by false h e = omega (arith, leb-false (groups_start m) (length s) h, offset-behind (group m) s (groups_start m) (count m s))

  pub needs-more : whole m s ≡ false → length s < needs m s
  needs-more e = needs_by (leb (groups_start m) (length s)) refl e

  pub needs_no_more : whole m s ≡ true → needs m s ≤ length s
  needs_no_more e =
      let a = and_both (leb (groups_start m) (length s)) (fit (group m) s (groups_start m) (count m s)) e in
      offset-within (group m) s (groups_start m) (count m s) (leb-true _ _ a.0) a.1

-- nothing behind the fields is always there and in range
pub judged-nothing : (s : List ℕ) (at : ℕ) → judge_groups no_group s at 0 ≡ accepted tt
unfolding judge_groups fit group_ranges guard
judged-nothing s at = refl

-- an accepted body has its fields and its groups
pub record Whole (m : Message) (s : List ℕ) : Type 0 where
  pub long : groups_start m ≤ length s
  pub groups : fit (group m) s (groups_start m) (count m s) ≡ true

pub has_all : (m : Message) (s : List ℕ) → judge_body m s ≡ accepted tt → Whole m s
unfolding judge_body
has_all m s e =
    let g = good (leb (groups_start m) (length s) && fit (group m) s (groups_start m) (count m s)) (ranges (fields m) s 0 && group_ranges (group m) s (groups_start m) (count m s)) e in
    let b = and_both (leb (groups_start m) (length s)) (fit (group m) s (groups_start m) (count m s)) g.all in
    record { long = leb-true _ _ b.0; groups = b.1 }
