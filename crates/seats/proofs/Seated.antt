-- What a channel's seat tells of the tracker's arrays.
use Prim.Native.Nat.{ℕ, ◌≤◌, ◌<◌}
use mathlib.Core.Path.{◌≡◌, refl, ◌∙◌}
use mathlib.Core.List.{List}
use mathlib.Core.Bool.{Bool, true, false, cond}
use lib.Dec.{ltb}
use borrow.Author.Tests.{ltb-true, ltb-false}
use Rattle.std.specs.Prelude.{Option, Some, None, Ok, Err}
use Rattle.seats.specs.declared.Malformed.{Malformed}
use Rattle.seats.specs.Arrays.{Arrays}
use Rattle.seats.specs.Rules.{sound}
use Rattle.seats.specs.Seat.{place_from, place_in, malformed, seat_of}

-- ---- a place

pub record There (l : List ℕ) (k n i : ℕ) : Type 0 where
  pub place : place_from l k 0 n ≡ i
  pub inside : i < n

module _ (l : List ℕ) (k n : ℕ) where
  pub place_some : (i : ℕ) → place_in l k n ≡ Some i → There l k n i
  place_some i e = go (ltb (place_from l k 0 n) n) refl e
    where
      go : (b : Bool) → ltb (place_from l k 0 n) n ≡ b → cond b (Some (place_from l k 0 n)) None ≡ Some i → There l k n i
      go true p q =
          let d : place_from l k 0 n ≡ i = cc in
          record { place = d; inside = rw d at (ltb-true (place_from l k 0 n) n p) }
      go false p q = cc

  pub place_none : place_in l k n ≡ None → n ≤ place_from l k 0 n
  place_none e = go (ltb (place_from l k 0 n) n) refl e
    where
      go : (b : Bool) → ltb (place_from l k 0 n) n ≡ b → cond b (Some (place_from l k 0 n)) None ≡ None → n ≤ place_from l k 0 n
      go true p q = absurd (cc)
      go false p q = ltb-false (place_from l k 0 n) n p

-- ---- a seat

module _ (k : ℕ) (a : Arrays) where
  pub seat_err : (e : Malformed) → Err e ≡ seat_of k a → sound a ≡ false
  unfolding seat_of
  seat_err e q = go (sound a) q
    where
      go : (b : Bool) → Err e ≡ cond b (Ok (place_in a.numbers k a.count)) (Err malformed) → b ≡ false
      go true q = cc
      go false q = refl

  pub record Seated (o : Option ℕ) : Type 0 where
    pub well : sound a ≡ true
    pub seat : place_in a.numbers k a.count ≡ o

  pub seat_ok : (o : Option ℕ) → Ok o ≡ seat_of k a → Seated o
  unfolding seat_of
  seat_ok o q = go (sound a) refl q
    where
      go : (b : Bool) → sound a ≡ b → Ok o ≡ cond b (Ok (place_in a.numbers k a.count)) (Err malformed) → Seated o
      go true p q = let d : place_in a.numbers k a.count ≡ o = cc in record { well = p; seat = d }
      go false p q = cc

  pub seat_some : (o : Option ℕ) (i : ℕ) → Ok o ≡ seat_of k a → o ≡ Some i → There a.numbers k a.count i
  seat_some o i q e = place_some a.numbers k a.count i ((seat_ok o q).seat ∙ e)

  pub seat_none : (o : Option ℕ) → Ok o ≡ seat_of k a → o ≡ None → a.count ≤ place_from a.numbers k 0 a.count
  seat_none o q e = place_none a.numbers k a.count ((seat_ok o q).seat ∙ e)
