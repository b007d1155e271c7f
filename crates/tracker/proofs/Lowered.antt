-- The places that first numbers fill, each less by the same.
use Prim.Native.Nat.{ℕ, zero, suc, ◌+◌, ◌-◌, ◌≤◌, ◌<◌, min}
use native.Mathlib.Nat.{min-eq_left, min-eq_right, le_of_lt}
use native.Mathlib.Omega.{arith}
use mathlib.Core.Logic.{⊎_elim}
use Rattle.gaps.proofs.Numbers.{lt_or_le}
use mathlib.Core.Path.{◌≡◌, refl, ap, ◌∙◌}
use mathlib.Core.List.{List, [], ◌∷◌, map}
use lib.IntN.{ℤ, pos}
use lib.ListN.{length, take, get_or, set, length-map}
use Rattle.gaps.specs.Channel.{natural}
use Rattle.rows.proofs.Begin.{filled, filled_more, filled_all, filled-eight}
use Rattle.gaps.specs.Built.{padded}
use Rattle.tracker.specs.Inside.{lowered}

-- the numbers themselves
abbrev pub less : ℕ → List ℤ → List ℕ
less by fs = map (λ (z : ℤ). natural z - by) fs

less_length : (by : ℕ) (fs : List ℤ) → length (less by fs) ≡ length fs
less_length by fs = length-map fs (λ (z : ℤ). natural z - by)

less_at : (by : ℕ) (fs : List ℤ) (i : ℕ) → i < length fs → get_or (less by fs) i 0 ≡ natural (get_or fs i (pos 0)) - by
less_at by [] i h = absurd (omega arith)
less_at by (z ∷ fs) zero h = refl
less_at by (z ∷ fs) (suc i) h = less_at by fs i (omega arith)

less_take : (by : ℕ) (fs : List ℤ) (n : ℕ) → take n (less by fs) ≡ less by (take n fs)
less_take by fs zero = refl
less_take by [] (suc n) = refl
less_take by (z ∷ fs) (suc n) = rw (less_take by fs n)

less_none : (fs : List ℤ) → less 0 fs ≡ map natural fs
less_none [] = refl
less_none (z ∷ fs) = let e : natural z - 0 ≡ natural z = omega arith in rw (e, less_none fs)

-- less by nothing
pub lowered_none : (fs : List ℤ) → lowered 0 fs ≡ padded 8 (map natural fs)
lowered_none fs = ap (padded 8) (less_none fs)

module _ (by : ℕ) (fs : List ℤ) (i : ℕ) where
  pub lowered-more : i < length fs → i < 8 → (n : ℕ) → n ≡ natural (get_or fs i (pos 0)) - by → set (filled (less by fs) i) i n ≡ filled (less by fs) (i + 1)
  lowered-more h g n e = rw (e, ← less_at by fs i h) (filled_more (less by fs) i (omega (arith, less_length by fs)) g)

  pub lowered_all : i ≡ length fs → i ≤ 8 → filled (less by fs) i ≡ lowered by (take 8 fs)
  lowered_all e h = filled_all (less by fs) i (omega (arith, less_length by fs)) h ∙ rw (less_take by fs 8)

  pub lowered-eight : i ≡ 8 → i ≤ length fs → filled (less by fs) i ≡ lowered by (take 8 fs)
  lowered-eight e h = filled-eight (less by fs) i e (omega (arith, less_length by fs)) ∙ rw (less_take by fs 8)

  -- as many as there are, and no more than there are places
  pub lowered_end : i ≡ min (length fs) 8 → filled (less by fs) i ≡ lowered by (take 8 fs)
  lowered_end e = ⊎_elim (λ h. lowered_all (e ∙ min-eq_left (le_of_lt h)) (omega (arith, e, min-eq_left (le_of_lt h)))) (λ h. lowered-eight (e ∙ min-eq_right h) (omega (arith, e, min-eq_right h))) (lt_or_le (length fs) 8)
