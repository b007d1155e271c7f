-- What an entry says, one law for each of its cases.
-- Assumes nothing.
use Prim.Native.Nat.{ℕ}
use mathlib.Core.Path.{◌≡◌, refl, ap, sym, ◌∙◌}
use mathlib.Core.Bool.{true, false}
use mathlib.Core.List.{List}
use borrow.Author.Tests.{eq-eqb, ne_eqb}
use lib.Dec.{eqb, lit<}
use lib.IntN.{ℤ, pos, negsuc, neg_ℤ}
use mir.Syntax.{w64}
use mir.Val.{SFits, of_z, to_z}
use Rattle.wire.proofs.Signs.{kept}
use Rattle.layout.specs.Kind.{among}
use Rattle.layout.specs.Layout.{of_snapshot, of_index}
use Rattle.entries.specs.Entry.{xe, xf, xg, levels, prices, boths, index_prices, level, level_without_price, price, size, both, unknown, no_limit_mark, same, price_in, size_in, level_in, order_count_in, shown_count_in, level_said, unless, says_in}

-- ---- signed numbers and their bits

pub zero_fits : SFits w64 (pos 0)
zero_fits = record { sfits = lit< tt }

same_self : (z : ℤ) → same z z ≡ true
same_self (pos n) = eq-eqb n n refl
same_self (negsuc n) = eq-eqb n n refl

pub same_bits : (a b : ℤ) → SFits w64 a → SFits w64 b → of_z w64 a ≡ of_z w64 b → same a b ≡ true
same_bits a b f g e =
    let h : a ≡ b = sym (kept a f) ∙ ap (to_z w64) e ∙ kept b g in
    rw h (same_self b)

pub other_bits : (a b : ℤ) → (of_z w64 a ≡ of_z w64 b → ⊥) → same a b ≡ false
other_bits (pos m) (pos n) h = ne_eqb m n (λ e. h (ap (λ (k : ℕ). of_z w64 (pos k)) e))
other_bits (pos m) (negsuc n) h = refl
other_bits (negsuc m) (pos n) h = refl
other_bits (negsuc m) (negsuc n) h = ne_eqb m n (λ e. h (ap (λ (k : ℕ). of_z w64 (negsuc k)) e))

-- ---- in a snapshot

module _ (t : ℕ) (vs : List ℤ) where
  pub says-leveled : among levels t ≡ true → says_in of_snapshot t vs ≡ level_said vs
  unfolding says_in
  says-leveled a = rw a

  pub says-without : among levels t ≡ true → same (price_in vs) (pos 0) ≡ true → says_in of_snapshot t vs ≡ level_without_price (size_in vs) (level_in vs) (order_count_in vs) (shown_count_in vs)
  unfolding says_in
  says-without a b = rw (a, b)

  pub says-level : among levels t ≡ true → same (price_in vs) (pos 0) ≡ false → says_in of_snapshot t vs ≡ level (price_in vs) (size_in vs) (level_in vs) (order_count_in vs) (shown_count_in vs)
  unfolding says_in
  says-level a b = rw (a, b)

  module _ (a : among levels t ≡ false) where
    pub says-price : among prices t ≡ true → says_in of_snapshot t vs ≡ price (price_in vs)
    unfolding says_in
    says-price b = rw (a, b)

    module _ (b : among prices t ≡ false) where
      pub says-xe : eqb t xe ≡ true → says_in of_snapshot t vs ≡ unless (pos no_limit_mark) vs
      unfolding says_in
      says-xe d = rw (a, b, d)

      module _ (d : eqb t xe ≡ false) where
        pub says-xf : eqb t xf ≡ true → says_in of_snapshot t vs ≡ unless (neg_ℤ (pos no_limit_mark)) vs
        unfolding says_in
        says-xf e = rw (a, b, d, e)

        module _ (e : eqb t xf ≡ false) where
          pub says-xg : eqb t xg ≡ true → says_in of_snapshot t vs ≡ size (size_in vs)
          unfolding says_in
          says-xg f = rw (a, b, d, e, f)

          pub says_both : eqb t xg ≡ false → among boths t ≡ true → says_in of_snapshot t vs ≡ both (price_in vs) (size_in vs)
          unfolding says_in
          says_both f g = rw (a, b, d, e, f, g)

          pub says-unknown : eqb t xg ≡ false → among boths t ≡ false → says_in of_snapshot t vs ≡ unknown
          unfolding says_in
          says-unknown f g = rw (a, b, d, e, f, g)

  -- ---- in an index

  pub says-index : among index_prices t ≡ true → says_in of_index t vs ≡ price (price_in vs)
  unfolding says_in
  says-index a = rw a

  pub says-index-unknown : among index_prices t ≡ false → says_in of_index t vs ≡ unknown
  unfolding says_in
  says-index-unknown a = rw a
