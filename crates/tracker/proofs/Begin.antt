-- The set-up, by whether the channels and their first numbers can be listed.
use Prim.Native.Nat.{ℕ, ◌≤◌}
use native.Mathlib.Omega.{arith}
use mathlib.Core.Path.{◌≡◌}
use mathlib.Core.List.{List, []}
use mathlib.Core.Bool.{true, false, not}
use lib.Dec.{ltb, eqb}
use lib.IntN.{ℤ}
use lib.ListN.{length}
use borrow.Author.Tests.{ltb-false, eqb-true, not-true}
use Rattle.wire.specs.Answer.{accepted, refused, guard}
use Rattle.wire.specs.Refusal.{malformed}
use Rattle.gaps.proofs.Numbers.{and_split}
use Rattle.seats.specs.Rules.{channels_listed}
use Rattle.tracker.specs.SetUp.{blank_of, set_up}

module _ (l : List ℕ) (f : List ℤ) where
  pub set_up_listed : channels_listed l f ≡ true → set_up l f ≡ record { said = accepted tt; tracker = blank_of l f }
  unfolding set_up guard
  set_up_listed p = rw p

  pub set_up_refused : channels_listed l f ≡ false → set_up l f ≡ record { said = refused malformed []; tracker = blank_of [] [] }
  unfolding set_up guard
  set_up_refused p = rw p

  -- as many as the places hold
  pub listed_most : channels_listed l f ≡ true → (length l ≤ 8) × (length f ≤ 8)
  unfolding channels_listed
  listed_most p =
      let a = and_split (not (eqb (length l) 0)) _ p in
      let b = and_split (not (ltb 8 (length l))) _ a.1 in
      let most = ltb-false 8 (length l) (not-true (ltb 8 (length l)) b.0) in
      (most, omega (arith, most, eqb-true (length l) (length f) (and_split (eqb (length l) (length f)) _ b.1).0))
