-- Groups behind other bytes: they fit, end and are in range as they do alone; once for every group.
-- Assumes nothing.
use Prim.Native.Nat.{ℕ, zero, suc, ◌+◌, ◌-◌, ◌<◌, ◌≤◌}
use mathlib.Core.Path.{◌≡◌, refl}
use mathlib.Core.Bool.{Bool, true, false}
use mathlib.Core.List.{List, [], ◌∷◌, ◌++◌}
use native.Mathlib.Omega.{arith}
use lib.Dec.{leb}
use lib.ListN.{length, length-append}
use lib.Seq.{drop-append-add}
use borrow.Author.Tests.{le-leb, lt-leb, leb-true, leb-false}
use Rattle.wire.specs.Bytes.{be_at}
use Rattle.layout.specs.Kind.{Kind, width}
use Rattle.layout.specs.Layout.{Group, size, ranges}
use Rattle.layout.specs.Group.{shown, shown_offset, next_offset, group_offset, fit, quantities, group_ranges}

-- a group whose shown count, where it has one, stands within its fields
abbrev pub Counts : Group → Type 0
Counts g = g.shows ≡ true → 4 ≤ size g.fields

module _ (a s : List ℕ) where
  pub be_at_shift : (at w : ℕ) → be_at (a ++ s) (length a + at) w ≡ be_at s at w
  unfolding be_at
  be_at_shift at w = rw (drop-append-add a s at)

  pub ranges_shift : (l : List Kind) (at : ℕ) → ranges l (a ++ s) (length a + at) ≡ ranges l s at
  unfolding ranges
  ranges_shift [] at = refl
  ranges_shift (k ∷ ks) at =
      let e : length a + at + width k ≡ length a + (at + width k) = omega arith in
      rw (be_at_shift at (width k), e, ranges_shift ks (at + width k))

  pub quantities_shift : (n at : ℕ) → quantities n (a ++ s) (length a + at) ≡ quantities n s at
  unfolding quantities
  quantities_shift zero at = refl
  quantities_shift (suc n) at =
      let e : length a + at + 8 ≡ length a + (at + 8) = omega arith in
      rw (be_at_shift at 8, e, quantities_shift n (at + 8))

  leb_shift : (at : ℕ) → leb (length a + at) (length (a ++ s)) ≡ leb at (length s)
  leb_shift at = by (leb at (length s)) refl where
    by : (t : Bool) → leb at (length s) ≡ t → leb (length a + at) (length (a ++ s)) ≡ t
    by true e = let h : at ≤ length s = leb-true _ _ e in rw length-append (le-leb (length a + at) (length a + length s) (omega arith))
    by false e = let h : length s < at = leb-false _ _ e in rw length-append (lt-leb (length a + at) (length a + length s) (omega arith))

  module _ (g : Group) (c : Counts g) where
    shown_by : (t : Bool) → g.shows ≡ t → (at : ℕ) → shown g (a ++ s) (length a + at) ≡ shown g s at
    unfolding shown
    shown_by true b at =
        let e : length a + at + size g.fields - 4 ≡ length a + (at + size g.fields - 4) = omega (arith, c b) in
        rw (b, e, be_at_shift (at + size g.fields - 4) 4)
    shown_by false b at = rw b

    shown_shift : (at : ℕ) → shown g (a ++ s) (length a + at) ≡ shown g s at
    shown_shift at = shown_by g.shows refl at

    next_shift : (at : ℕ) → next_offset g (a ++ s) (length a + at) ≡ length a + next_offset g s at
    next_shift at = rw (shown_shift at) (omega arith)

    pub offset_shift : (at i : ℕ) → group_offset g (a ++ s) (length a + at) i ≡ length a + group_offset g s at i
    unfolding group_offset
    offset_shift at zero = refl
    offset_shift at (suc i) = rw (next_shift at) (offset_shift (next_offset g s at) i)

    pub fit_shift : (at k : ℕ) → fit g (a ++ s) (length a + at) k ≡ fit g s at k
    unfolding fit
    fit_shift at zero = refl
    fit_shift at (suc k) =
        let e : shown_offset g (length a + at) ≡ length a + shown_offset g at = omega arith in
        rw (next_shift at, e, leb_shift (shown_offset g at), leb_shift (next_offset g s at), fit_shift (next_offset g s at) k)

    pub group_ranges_shift : (at k : ℕ) → group_ranges g (a ++ s) (length a + at) k ≡ group_ranges g s at k
    unfolding group_ranges
    group_ranges_shift at zero = refl
    group_ranges_shift at (suc k) =
        let e : shown_offset g (length a + at) ≡ length a + shown_offset g at = omega arith in
        rw (
          next_shift at,
          e,
          shown_shift at,
          ranges_shift g.fields at,
          quantities_shift (shown g s at) (shown_offset g at),
          group_ranges_shift (next_offset g s at) k,
        )
