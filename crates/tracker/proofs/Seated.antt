-- What a channel's seat tells of the tracker, and the refusals in their order.
use Prim.Native.Nat.{ℕ, zero, suc, ◌+◌, ◌*◌, ◌≤◌, ◌<◌}
use native.Mathlib.Omega.{arith}
use mathlib.Core.Path.{◌≡◌}
use mathlib.Core.List.{[]}
use mathlib.Core.Bool.{true, false, not}
use lib.Dec.{leb, eqb}
use lib.ListN.{get_or}
use borrow.Author.Tests.{lt-ltb, le-ltb}
use Rattle.wire.specs.Answer.{refused, guard}
use Rattle.wire.specs.Refusal.{no_such_channel, malformed}
use Rattle.gaps.specs.Channel.{Event, judge_event}
use Rattle.gaps.proofs.Numbers.{and_split}
use Rattle.tracker.specs.declared.Tracker.{Tracker}
use Rattle.seats.specs.declared.Malformed.{Malformed}
use Rattle.std.specs.Prelude.{Option, Some, None, Ok, Err}
use Rattle.seats.proofs.Seated.{seat_err, seat_ok, seat_none, seat_some}
use Rattle.seats.specs.Arrays.{Arrays}
use Rattle.tracker.specs.Places.{made, arrays_of, channel_at}
use Rattle.seats.specs.Rules.{sound_row, sound_rows, sound_channels, sound}
use Rattle.tracker.specs.Rules.{well_formed}
use Rattle.tracker.specs.Arrived.{on, place, settled, arrive}
use Rattle.seats.specs.Seat.{seat_of}
use Rattle.tracker.specs.Inside.{SoundIn}
use Rattle.seats.proofs.Heads.{marks-at, sound-count}

rows_at : (a : Arrays) (lo i n j : ℕ) → sound_rows a lo i n ≡ true → j < n →
    sound_row (get_or a.from (i + j) 0) (get_or a.highest (i + j) 0) (get_or a.counts (i + j) 0) a.first a.last ((i + j) * 32) ≡ true
unfolding sound_rows
rows_at a lo i zero j e h = absurd (omega arith)
rows_at a lo i (suc n) zero e h =
    let g : i + 0 ≡ i = omega arith in
    rw g (and_split (sound_row (get_or a.from i 0) (get_or a.highest i 0) (get_or a.counts i 0) a.first a.last (i * 32)) _ (and_split (leb lo (get_or a.numbers i 0)) _ e).1).0
rows_at a lo i (suc n) (suc j) e h =
    let g : i + suc j ≡ suc i + j = omega arith in
    rw g (rows_at a (get_or a.numbers i 0 + 1) (suc i) n j (and_split (sound_row (get_or a.from i 0) (get_or a.highest i 0) (get_or a.counts i 0) a.first a.last (i * 32)) _ (and_split (leb lo (get_or a.numbers i 0)) _ e).1).1 (omega arith))

module _ (t : Tracker) (e : well_formed t ≡ true) where
  pub well_count : t.count ≤ 8
  unfolding well_formed
  well_count = sound-count (arrays_of t) e

  pub well_row : (i : ℕ) → i < t.count → SoundIn t i
  unfolding well_formed sound sound_channels
  well_row i h =
      let a = arrays_of t in
      let s = and_split (sound_channels a) _ (and_split (leb t.count 8) _ (and_split (not (eqb t.count 0)) _ e).1).1 in
      let r = and_split (sound_rows a 0 0 t.count) _ s.0 in
      let g : 0 + i ≡ i = omega arith in
      record {
        place = omega (arith, well_count);
        mark = rw g at (marks-at t.ended 0 8 i r.1 (omega (arith, well_count)));
        row = rw g at (rows_at a 0 0 t.count i r.0 h);
      }

-- ---- the refusals in their order

module _ (t : Tracker) (k : ℕ) (e : Event) where
  pub arrived_10 : well_formed t ≡ false → arrive t (on k e) ≡ record { said = refused malformed []; next = t }
  unfolding arrive guard
  arrived_10 p = rw p

  pub arrived_7 : well_formed t ≡ true → t.count ≤ place t k → arrive t (on k e) ≡ record { said = refused no_such_channel []; next = t }
  unfolding arrive guard
  arrived_7 p q = rw (p, le-ltb (place t k) t.count q)

  pub arrived_at : well_formed t ≡ true → place t k < t.count → arrive t (on k e) ≡ settled t (place t k) (judge_event (channel_at t (place t k)) e)
  unfolding arrive guard
  arrived_at p q = rw (p, lt-ltb (place t k) t.count q)

-- ---- a seat

module _ (a : Arrays) (k : ℕ) where
  pub ill_seated : (e : Malformed) → Err e ≡ seat_of k a → well_formed (made a) ≡ false
  unfolding well_formed
  ill_seated e q = seat_err k a e q

  module _ (o : Option ℕ) (q : Ok o ≡ seat_of k a) where
    pub well_seated : well_formed (made a) ≡ true
    unfolding well_formed
    well_seated = (seat_ok k a o q).well

    pub none_seated : o ≡ None → a.count ≤ place (made a) k
    unfolding place
    none_seated h = seat_none k a o q h

    pub some_seated : (i : ℕ) → o ≡ Some i → (place (made a) k ≡ i) × (i < a.count)
    unfolding place
    some_seated i h = let t = seat_some k a o i q h in (t.place, t.inside)
