-- The first run of a channel by its seat, and the numbers that it lies within.
use Prim.Native.Nat.{ℕ, zero, suc, ◌*◌, ◌≤◌, ◌<◌}
use native.Mathlib.Omega.{arith}
use mathlib.Core.Path.{◌≡◌, refl, sym, ◌∙◌}
use mathlib.Core.List.{List, [], ◌∷◌}
use mathlib.Core.Bool.{Bool, true, false}
use lib.Dec.{leb, ltb}
use lib.ListN.{get_or}
use borrow.Author.Tests.{leb-true, ltb-true, ltb-false, lt-ltb, le-ltb}
use Rattle.wire.specs.Answer.{accepted, refused, guard}
use Rattle.wire.specs.Refusal.{no_such_channel, malformed}
use Rattle.gaps.specs.declared.Run.{Run}
use Rattle.gaps.specs.Gaps.{run, canon}
use Rattle.gaps.specs.Limits.{run_limit, most_number}
use Rattle.gaps.proofs.Numbers.{and_split}
use Rattle.tracker.specs.declared.Tracker.{Tracker}
use Rattle.seats.specs.declared.Malformed.{Malformed}
use Rattle.std.specs.Prelude.{Option, Some, None, Ok, Err}
use Rattle.seats.specs.Places.{span}
use Rattle.seats.specs.Arrays.{Arrays}
use Rattle.seats.specs.Seat.{seat_of}
use Rattle.tracker.specs.Places.{made, channel_at}
use Rattle.seats.specs.Rules.{least_first, is_first, starts, sound_row}
use Rattle.tracker.specs.Rules.{well_formed}
use Rattle.tracker.specs.Arrived.{place}
use Rattle.tracker.specs.Inside.{SoundIn}
use Rattle.tracker.specs.FirstRun.{Lost, lost, nothing_missing, foremost, first_run}
use Rattle.tracker.proofs.Seated.{well_row, ill_seated, well_seated, none_seated, some_seated}

-- ---- the refusals in their order

module _ (t : Tracker) (k : ℕ) where
  first_10 : well_formed t ≡ false → first_run t k ≡ refused malformed []
  unfolding first_run guard
  first_10 p = rw p

  first_7 : well_formed t ≡ true → t.count ≤ place t k → first_run t k ≡ refused no_such_channel []
  unfolding first_run guard
  first_7 p h = rw (p, le-ltb (place t k) t.count h)

  first-at : well_formed t ≡ true → place t k < t.count → first_run t k ≡ accepted (foremost (channel_at t (place t k)).runs)
  unfolding first_run guard
  first-at p h = rw (p, lt-ltb (place t k) t.count h)

-- by the seat

module _ (a : Arrays) (k : ℕ) where
  pub seat_10 : (e : Malformed) → Err e ≡ seat_of k a → first_run (made a) k ≡ refused malformed []
  seat_10 e q = first_10 (made a) k (ill_seated a k e q)

  module _ (o : Option ℕ) (q : Ok o ≡ seat_of k a) where
    pub seat_7 : o ≡ None → first_run (made a) k ≡ refused no_such_channel []
    seat_7 h = first_7 (made a) k (well_seated a k o q) (none_seated a k o q h)

    -- the channel is there, within the places of channels
    pub seat_at : (i : ℕ) → o ≡ Some i → (i < 8) × (first_run (made a) k ≡ accepted (foremost (channel_at (made a) i).runs))
    seat_at i h =
        let d = some_seated a k o q i h in
        let w = well_seated a k o q in
        ((well_row (made a) w i d.1).place, rw d.0 at (first-at (made a) k w (rw d.0 d.1)))

-- ---- of the n runs from a place on

pub no_run : (f l : List ℕ) (b n : ℕ) → n ≡ 0 → foremost (span f l b n) ≡ nothing_missing
unfolding span
no_run f l b n e = rw e

pub run-first : (f l : List ℕ) (b n : ℕ) → (n ≡ 0 → ⊥) → foremost (span f l b n) ≡ lost (run (get_or f b 0) (get_or l b 0))
unfolding span
run-first f l b zero h = absurd (h refl)
run-first f l b (suc n) h = refl

-- ---- the numbers that it lies within

pub record Lies (r : Run) : Type 0 where
  pub low : 1 ≤ r.first
  pub order : r.first ≤ r.last
  pub high : r.last ≤ most_number

lies_in : (from h : ℕ) (l : List Run) (r : Run) → 1 ≤ from → h ≤ most_number → canon from h l ≡ true → foremost l ≡ lost r → Lies r
unfolding canon
lies_in from h [] r s m e p = absurd (let z : ◌≡◌ {A = ℕ} 0 1 = cc in omega arith)
lies_in from h (s ∷ l) r k m e p =
    let q : s ≡ r = cc in
    let a = and_split (leb from s.first) _ e in
    let b = and_split (leb s.first s.last) _ a.1 in
    let d = and_split (leb s.last h) _ b.1 in
    let n : s.last ≤ h = leb-true s.last h d.0 in
    let z : Lies s = record { low = omega (arith, leb-true from s.first a.0); order = leb-true s.first s.last b.0; high = omega arith } in
    rw q at z

lies_row : (t : Tracker) (i : ℕ) (r : Run) → SoundIn t i → foremost (channel_at t i).runs ≡ lost r → Lies r
unfolding sound_row
lies_row t i r w p =
    let from : ℕ = get_or t.from i 0 in
    let h : ℕ = get_or t.highest i 0 in
    let n : ℕ = get_or t.counts i 0 in
    let a = and_split (leb n run_limit) _ w.row in
    let b = and_split (leb h most_number) _ a.1 in
    let c = and_split (starts from h) _ b.1 in
    let f = and_split (leb least_first from) _ (and_split (is_first from) _ c.0).0 in
    let d = and_split (canon from h (span t.first t.last (i * run_limit) n)) _ c.1 in
    lies_in from h (span t.first t.last (i * run_limit) n) r (leb-true 1 from f.0) (leb-true h most_number b.0) d.0 p

-- a first run that is answered, or none, is the foremost of the channel's runs
pub record Foremost (t : Tracker) (k : ℕ) (x : Lost) : Type 0 where
  pub kept : SoundIn t (place t k)
  pub same : foremost (channel_at t (place t k)).runs ≡ x

pub first_of : (t : Tracker) (k : ℕ) (x : Lost) → first_run t k ≡ accepted x → Foremost t k x
first_of t k x e = go (well_formed t) refl (ltb (place t k) t.count) refl
  where
    go : (a : Bool) → well_formed t ≡ a → (b : Bool) → ltb (place t k) t.count ≡ b → Foremost t k x
    go true p true q =
        let h = ltb-true (place t k) t.count q in
        let z = sym (first-at t k p h) ∙ e in
        record { kept = well_row t p (place t k) h; same = cc }
    go true p false q = absurd (let y = sym (first_7 t k p (ltb-false (place t k) t.count q)) ∙ e in let z : ◌≡◌ {A = ℕ} 0 1 = cc in omega arith)
    go false p b q = absurd (let y = sym (first_10 t k p) ∙ e in let z : ◌≡◌ {A = ℕ} 0 1 = cc in omega arith)

-- a channel's first run lies from 1 to the largest number that an arrival can bring
pub first_lies : (t : Tracker) (k : ℕ) (r : Run) → first_run t k ≡ accepted (lost r) → Lies r
first_lies t k r e = let f = first_of t k (lost r) e in lies_row t (place t k) r f.kept f.same
