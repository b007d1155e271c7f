-- Demand 3's statements, of every playing that the contracts allow (specs/Play).
use Rattle.std.specs.Prelude.{ℕ, ◌≤◌, ◌<◌, ◌≡◌, ◌↔◌, Bool, true, false, ℤ, pos, length, get_or}
use mathlib.Core.List.{List, [], ◌∷◌, ◌++◌, Permᴰ, Memᴰ}
use Rattle.wire.specs.Answer.{accepted, refused}
use Rattle.gaps.specs.Gaps.{has}
use Rattle.wire.specs.Refusal.{table_full}
use Rattle.gaps.specs.Channel.{Event, tick, heartbeat, new, late, duplicate, heard, before_start, too_low}
use Rattle.gaps.specs.History.{Brought, top, ends, Missing, Overfull}
use Rattle.tracker.specs.declared.Tracker.{Tracker}
use Rattle.tracker.specs.declared.Reply.{Reply}
use Rattle.tracker.specs.SetUp.{set_up}
use Rattle.tracker.specs.Arrived.{Arrival, on, arrival_said}
use Rattle.demands.specs.Calls.{Arrives}
use Rattle.demands.specs.Play.{Fresh, Turn, Play, arrivals, only, answers_to, history_of, NeverFull, Has, channel_of, from_of, AllCallable, Playable}

-- T1: the channels that a fresh gap record holds are those of its list
abbrev pub HoldsItsList : Type 0
HoldsItsList = (numbers : List ℕ) (from : List ℤ) (t : Tracker) → Fresh numbers from t → (k : ℕ) → Has t k ↔ Memᴰ k numbers

-- T1: and the first number of each is the one that came with it
abbrev pub HoldsItsFirsts : Type 0
HoldsItsFirsts =
    (numbers : List ℕ) (from : List ℤ) (t : Tracker) → Fresh numbers from t → (i : ℕ) → i < length numbers →
    pos (from_of t (get_or numbers i 0)) ≡ get_or from i (pos 0)

-- D31: two orders of the same arrivals, in neither of which any is answered 9, end in the same record
abbrev pub TwoOrders : Type 0
TwoOrders =
    (numbers : List ℕ) (from : List ℤ) (t u v : Tracker) (l m : List Turn) → Fresh numbers from t → Play t l u → Play t m v →
    Permᴰ (arrivals l) (arrivals m) → NeverFull l → NeverFull m → u ≡ v

-- D32: a channel's runs hold exactly the numbers that its history misses
abbrev pub GapsFromHistory : Type 0
GapsFromHistory =
    (numbers : List ℕ) (from : List ℤ) (t u : Tracker) (l : List Turn) → Fresh numbers from t → Play t l u → (k : ℕ) → Has t k →
    (n : ℕ) → (has (channel_of u k).runs n ≡ true) ↔ Missing (from_of t k) (history_of k l) n

-- D33: the first number stays, and the highest and the ended mark are the history's too
abbrev pub MarksFromHistory : Type 0
MarksFromHistory =
    (numbers : List ℕ) (from : List ℤ) (t u : Tracker) (l : List Turn) → Fresh numbers from t → Play t l u → (k : ℕ) → Has t k →
    (from_of u k ≡ from_of t k) × ((channel_of u k).highest ≡ top (from_of t k) (history_of k l)) × ((channel_of u k).ended ≡ ends (history_of k l))

-- the next arrival e on channel k of the record t would need a 33rd run
abbrev pub WouldFill : Tracker → ℕ → List Turn → Event → Type 0
WouldFill t k l e = Overfull (from_of t k) (history_of k l ++ (e ∷ []))

-- D33: 9 exactly when the gaps of the history with this arrival would form more than 32 runs
abbrev pub NineFromHistory : Type 0
NineFromHistory =
    (numbers : List ℕ) (from : List ℤ) (t u : Tracker) (l : List Turn) → Fresh numbers from t → Play t l u → (k : ℕ) → Has t k →
    (e : Event) (r : Reply) → too_low e ≡ false → Arrives u (on k e) r →
    (arrival_said r.verdict ≡ refused table_full []) ↔ WouldFill t k l e

-- D33: a tick is before start exactly when below the first number; else new exactly when above the history's highest, late exactly when
-- missing, duplicate exactly when brought
abbrev pub TickFromHistory : Type 0
TickFromHistory =
    (numbers : List ℕ) (from : List ℤ) (t u : Tracker) (l : List Turn) → Fresh numbers from t → Play t l u → (k : ℕ) → Has t k →
    (n : ℕ) (r : Reply) → 1 ≤ n → Arrives u (on k (tick (pos n))) r →
    ((arrival_said r.verdict ≡ accepted before_start) ↔ (n < from_of t k))
    × ((arrival_said r.verdict ≡ accepted new) ↔ ((top (from_of t k) (history_of k l) < n) × (WouldFill t k l (tick (pos n)) → ⊥)))
    × ((arrival_said r.verdict ≡ accepted late) ↔ (Missing (from_of t k) (history_of k l) n × (WouldFill t k l (tick (pos n)) → ⊥)))
    × ((arrival_said r.verdict ≡ accepted duplicate) ↔ ((from_of t k ≤ n) × Brought (history_of k l) n))

-- D33: and a heartbeat's answer is heard exactly when it is not 9
abbrev pub HeartbeatFromHistory : Type 0
HeartbeatFromHistory =
    (numbers : List ℕ) (from : List ℤ) (t u : Tracker) (l : List Turn) → Fresh numbers from t → Play t l u → (k : ℕ) → Has t k →
    (m : ℕ) (end : Bool) (r : Reply) → Arrives u (on k (heartbeat (pos m) end)) r →
    (arrival_said r.verdict ≡ accepted heard) ↔ (WouldFill t k l (heartbeat (pos m) end) → ⊥)

-- D34: without the other channels' arrivals a channel's record and its answers are the same, 9 among them
abbrev pub OthersRemoved : Type 0
OthersRemoved =
    (numbers : List ℕ) (from : List ℤ) (t u v : Tracker) (l m : List Turn) → Fresh numbers from t → Play t l u → Play t m v → (k : ℕ) → Has t k →
    arrivals m ≡ only k (arrivals l) → (channel_of v k ≡ channel_of u k) × (answers_to k m ≡ answers_to k l)

-- Every set-up that is not refused gives a fresh record, and every list of arrivals that calls can take has a playing:
-- each statement above speaks of every such list.
abbrev pub EverySetUpGives : Type 0
EverySetUpGives = (numbers : List ℕ) (from : List ℤ) → (set_up numbers from).said ≡ accepted tt → Fresh numbers from (set_up numbers from).tracker

-- D31: so there is something to say of every list
abbrev pub EveryListPlays : Type 0
EveryListPlays = (t : Tracker) (l : List Arrival) → AllCallable l → Playable t l
