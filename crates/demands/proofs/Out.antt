-- A field out of range: where a test of ranges fails there is one, and where it passes there is none.
-- Assumes nothing.
use Prim.Native.Nat.{ℕ, zero, suc, ◌+◌, ◌*◌, ◌<◌}
use mathlib.Core.Path.{◌≡◌, refl, sym, ◌∙◌}
use mathlib.Core.Bool.{Bool, true, false, ◌&&◌, true≢false}
use mathlib.Core.Logic.{◌⊎◌, inl, inr}
use mathlib.Core.List.{List, [], ◌∷◌}
use native.Mathlib.Omega.{arith}
use lib.IntN.{ℤ}
use Rattle.wire.specs.Bytes.{be_at}
use Rattle.layout.specs.Kind.{Kind, quantity, form, width, ranged}
use Rattle.layout.specs.Layout.{Message, fields, Group, ranges}
use Rattle.layout.specs.Group.{shown, shown_offset, next_offset, group_offset, quantities, group_ranges, group, groups_start, count, in_range}
use Rattle.layout.proofs.Walk.{and_both}
use Rattle.bodies.specs.Body.{bits, first, numbers_behind, stated, numbers_in, all_in}
use Rattle.demands.specs.Conditions as out
use Rattle.demands.specs.Conditions.{FieldOut, QuantityOut, GroupOut, SomeGroupOut, NumberOut}

-- where both of two tests don't pass, one of them fails
either : (a b : Bool) → a && b ≡ false → (a ≡ false) ⊎ (b ≡ false)
either true b e = inr e
either false b e = inl refl

both : {b : Bool} → b ≡ true → b ≡ false → ⊥
both e f = true≢false (sym e ∙ f)

-- ---- fields

fields_out : (ks : List Kind) (s : List ℕ) (at : ℕ) → ranges ks s at ≡ false → FieldOut ks s at
unfolding ranges
fields_out [] s at e = absurd (true≢false e)
fields_out (k ∷ ks) s at e = go (either (ranged k (be_at s at (width k))) _ e) (λ f. fields_out ks s (at + width k) f)
  where
    go : (ranged k (be_at s at (width k)) ≡ false) ⊎ (ranges ks s (at + width k) ≡ false) → (ranges ks s (at + width k) ≡ false → FieldOut ks s (at + width k)) → FieldOut (k ∷ ks) s at
    go (inl h) on = out.at_first h
    go (inr h) on = out.further (on h)

fields_in : (ks : List Kind) (s : List ℕ) (at : ℕ) → ranges ks s at ≡ true → FieldOut ks s at → ⊥
unfolding ranges
fields_in [] s at e x = elim x [ ]
fields_in (k ∷ ks) s at e (out.at_first h) = both (and_both (ranged k (be_at s at (width k))) _ e).0 h
fields_in (k ∷ ks) s at e (out.further f) = fields_in ks s (at + width k) (and_both (ranged k (be_at s at (width k))) _ e).1 f

numbers-out : (ks : List Kind) (zs : List ℤ) → numbers_in ks zs ≡ false → NumberOut ks zs
unfolding numbers_in
numbers-out [] zs e = absurd (true≢false e)
numbers-out (k ∷ ks) zs e = go (either (ranged k (bits (first zs))) _ e) (λ f. numbers-out ks (numbers_behind (form k) zs) f)
  where
    go : (ranged k (bits (first zs)) ≡ false) ⊎ (numbers_in ks (numbers_behind (form k) zs) ≡ false) → (numbers_in ks (numbers_behind (form k) zs) ≡ false → NumberOut ks (numbers_behind (form k) zs)) → NumberOut (k ∷ ks) zs
    go (inl h) on = out.at_first h
    go (inr h) on = out.further (on h)

numbers_in_lem : (ks : List Kind) (zs : List ℤ) → numbers_in ks zs ≡ true → NumberOut ks zs → ⊥
unfolding numbers_in
numbers_in_lem [] zs e x = elim x [ ]
numbers_in_lem (k ∷ ks) zs e (out.at_first h) = both (and_both (ranged k (bits (first zs))) _ e).0 h
numbers_in_lem (k ∷ ks) zs e (out.further f) = numbers_in_lem ks (numbers_behind (form k) zs) (and_both (ranged k (bits (first zs))) _ e).1 f

-- ---- quantities and groups

quantities-out : (n : ℕ) (s : List ℕ) (at : ℕ) → quantities n s at ≡ false → QuantityOut n s at
unfolding quantities
quantities-out zero s at e = absurd (true≢false e)
quantities-out (suc n) s at e = go (either (ranged quantity (be_at s at 8)) _ e) (λ f. quantities-out n s (at + 8) f)
  where
    go : (ranged quantity (be_at s at 8) ≡ false) ⊎ (quantities n s (at + 8) ≡ false) → (quantities n s (at + 8) ≡ false → QuantityOut n s (at + 8)) → QuantityOut (suc n) s at
    go (inl h) on = let z : at + 8 * 0 ≡ at = omega arith in record { j = 0; below = omega arith; out = rw z h }
    go (inr h) on =
        let f = on h in
        let z : at + 8 * suc f.j ≡ at + 8 + 8 * f.j = omega arith in
        record { j = suc f.j; below = omega (arith, f.below); out = rw z f.out }

quantities_in_lem : (n : ℕ) (s : List ℕ) (at j : ℕ) → quantities n s at ≡ true → j < n → ranged quantity (be_at s (at + 8 * j) 8) ≡ true
unfolding quantities
quantities_in_lem zero s at j e h = absurd (omega arith)
quantities_in_lem (suc n) s at zero e h = let z : at + 8 * 0 ≡ at = omega arith in rw z (and_both (ranged quantity (be_at s at 8)) _ e).0
quantities_in_lem (suc n) s at (suc j) e h =
    let z : at + 8 * suc j ≡ at + 8 + 8 * j = omega arith in
    rw z (quantities_in_lem n s (at + 8) j (and_both (ranged quantity (be_at s at 8)) _ e).1 (omega arith))

module _ (g : Group) (s : List ℕ) where
  abbrev fine : ℕ → Bool
  fine at = ranges g.fields s at && quantities (shown g s at) s (shown_offset g at)

  group-out : (at : ℕ) → fine at ≡ false → GroupOut g s at
  group-out at e = go (either (ranges g.fields s at) _ e)
    where
      go : (ranges g.fields s at ≡ false) ⊎ (quantities (shown g s at) s (shown_offset g at) ≡ false) → GroupOut g s at
      go (inl h) = inl (fields_out g.fields s at h)
      go (inr h) = inr (quantities-out (shown g s at) s (shown_offset g at) h)

  group_in_lem : (at : ℕ) → fine at ≡ true → GroupOut g s at → ⊥
  group_in_lem at e (inl f) = fields_in g.fields s at (and_both (ranges g.fields s at) _ e).0 f
  group_in_lem at e (inr f) =
      both (quantities_in_lem (shown g s at) s (shown_offset g at) f.j (and_both (ranges g.fields s at) _ e).1 f.below) f.out

  groups-out : (at k : ℕ) → group_ranges g s at k ≡ false → SomeGroupOut g s at k
  unfolding group_ranges group_offset
  groups-out at zero e = absurd (true≢false e)
  groups-out at (suc k) e = go (either (fine at) _ e) (λ f. groups-out (next_offset g s at) k f)
    where
      go : (fine at ≡ false) ⊎ (group_ranges g s (next_offset g s at) k ≡ false) → (group_ranges g s (next_offset g s at) k ≡ false → SomeGroupOut g s (next_offset g s at) k) → SomeGroupOut g s at (suc k)
      go (inl h) on = record { i = 0; below = omega arith; out = group-out at h }
      go (inr h) on = let f = on h in record { i = suc f.i; below = omega (arith, f.below); out = f.out }

  groups_in_lem : (at k i : ℕ) → group_ranges g s at k ≡ true → i < k → GroupOut g s (group_offset g s at i) → ⊥
  unfolding group_ranges group_offset
  groups_in_lem at zero i e h f = omega arith
  groups_in_lem at (suc k) zero e h f = group_in_lem at (and_both (fine at) _ e).0 f
  groups_in_lem at (suc k) (suc i) e h f = groups_in_lem (next_offset g s at) k i (and_both (fine at) _ e).1 (omega arith) f

  -- one group
  pub only_out : (at : ℕ) → group_ranges g s at 1 ≡ false → GroupOut g s at
  unfolding group_ranges
  only_out at e = go (either (fine at) true e)
    where
      go : (fine at ≡ false) ⊎ (true ≡ false) → GroupOut g s at
      go (inl h) = group-out at h
      go (inr h) = absurd (true≢false h)

  pub only_in : (at : ℕ) → group_ranges g s at 1 ≡ true → GroupOut g s at → ⊥
  unfolding group_ranges
  only_in at e f = group_in_lem at (and_both (fine at) true e).0 f

-- ---- a body, and what is handed to the writer

module _ (m : Message) (b : List ℕ) where
  pub strays : in_range m b ≡ false → FieldOut (fields m) b 0 ⊎ SomeGroupOut (group m) b (groups_start m) (count m b)
  strays e = go (either (ranges (fields m) b 0) _ e)
    where
      go : (ranges (fields m) b 0 ≡ false) ⊎ (group_ranges (group m) b (groups_start m) (count m b) ≡ false) → FieldOut (fields m) b 0 ⊎ SomeGroupOut (group m) b (groups_start m) (count m b)
      go (inl h) = inl (fields_out (fields m) b 0 h)
      go (inr h) = inr (groups-out (group m) b (groups_start m) (count m b) h)

  pub keeps : in_range m b ≡ true → FieldOut (fields m) b 0 ⊎ SomeGroupOut (group m) b (groups_start m) (count m b) → ⊥
  keeps e (inl f) = fields_in (fields m) b 0 (and_both (ranges (fields m) b 0) _ e).0 f
  keeps e (inr f) = groups_in_lem (group m) b (groups_start m) (count m b) f.i (and_both (ranges (fields m) b 0) _ e).1 f.below f.out

module _ (m : Message) (zs : List ℤ) (gs : List ℕ) where
  pub strays_written : all_in m zs gs ≡ false → NumberOut (fields m) zs ⊎ SomeGroupOut (group m) gs 0 (stated m zs)
  strays_written e = go (either (numbers_in (fields m) zs) _ e)
    where
      go : (numbers_in (fields m) zs ≡ false) ⊎ (group_ranges (group m) gs 0 (stated m zs) ≡ false) → NumberOut (fields m) zs ⊎ SomeGroupOut (group m) gs 0 (stated m zs)
      go (inl h) = inl (numbers-out (fields m) zs h)
      go (inr h) = inr (groups-out (group m) gs 0 (stated m zs) h)

  pub keeps_written : all_in m zs gs ≡ true → NumberOut (fields m) zs ⊎ SomeGroupOut (group m) gs 0 (stated m zs) → ⊥
  keeps_written e (inl f) = numbers_in_lem (fields m) zs (and_both (numbers_in (fields m) zs) _ e).0 f
  keeps_written e (inr f) = groups_in_lem (group m) gs 0 (stated m zs) f.i (and_both (numbers_in (fields m) zs) _ e).1 f.below f.out
