-- What the private functions of the crate promise to one another.
use Rattle.std.specs.Prelude.{ℕ, ◌+◌, ◌*◌, ◌-◌, ◌≤◌, ◌<◌, ◌≡◌, List, [], map, Bool, true, false, cond, ltb, eqb, ℤ, length, get_or, set, Option, Some, None, Result, Ok, Err}
use Rattle.wire.specs.Answer.{Answer, accepted, refused}
use Rattle.wire.specs.Refusal.{output_short, no_such_channel, table_full, malformed}
use Rattle.gaps.specs.declared.Run.{Run}
use Rattle.gaps.specs.Limits.{run_limit}
use Rattle.gaps.specs.Gaps.{grow}
use Rattle.gaps.specs.Built.{padded}
use Rattle.gaps.specs.Channel.{changed, natural, Event, ArrivalSaid, too_low, judge_event}
use Rattle.seats.specs.Places.{channel_limit, place_count}
use Rattle.seats.specs.Rules.{sound_row}
use Rattle.rows.specs.declared.Held.{Held}
use Rattle.rows.specs.declared.Held.TheVariants.{AtEnd, Alone, Inside}
use Rattle.rows.specs.Shift.{closed, opened}
use Rattle.tracker.specs.declared.Tracker.{Tracker}
use Rattle.tracker.specs.declared.News.TheVariants.{Late}
use Rattle.tracker.specs.declared.Refusal.{Refusal}
use Rattle.tracker.specs.declared.Refusal.TheVariants.{TableFull}
use Rattle.tracker.specs.declared.RequestRefusal.{RequestRefusal}
use Rattle.tracker.specs.declared.RequestRefusal.TheVariants.{Malformed, NoSuchChannel, OutputShort}
use Rattle.tracker.specs.Places.{channel_at, put}
use Rattle.tracker.specs.Arrived.{Outcome, on, settled, arrive, answered}
use Rattle.tracker.specs.FirstRun.{Lost, lost, nothing_missing}

-- ---- a set-up

-- first numbers in the places of channels, each less by the same
abbrev pub lowered : ℕ → List ℤ → List ℕ
lowered by from = padded channel_limit (map (λ (z : ℤ). natural z - by) from)

-- ---- an arrival's channel

-- T2, T3: in these arrays the channel at place i, of this first number, keeps the rules
pub record SoundAt (from : ℕ) (highest ended counts first last : List ℕ) (i : ℕ) : Type 0 where
  pub place : i < channel_limit
  pub mark : get_or ended i 0 ≤ 1
  pub row : sound_row from (get_or highest i 0) (get_or counts i 0) first last (i * run_limit) ≡ true

abbrev pub SoundIn : Tracker → ℕ → Type 0
SoundIn t i = SoundAt (get_or t.from i 0) t.highest t.ended t.counts t.first t.last i

-- T2: a place of channels, whose count of runs has room in the row
abbrev pub RoomIn : Tracker → ℕ → Type 0
RoomIn t i = (i < channel_limit) × (get_or t.counts i 0 ≤ run_limit)

-- the event judged by it
abbrev pub stepped : ℕ → Event → Tracker → Outcome
stepped i e t = settled t i (judge_event (channel_at t i) e)

-- an event on channel k that is too low where `low` says so: refused, with the tracker as it stood, or judged by its channel, which keeps the rules
abbrev pub Judges : Tracker → ℕ → Bool → Result ℕ Refusal → Type 0
Judges t k low (Err v) = (e : Event) → too_low e ≡ low → arrive t (on k e) ≡ answered (Err v) t
Judges t k low (Ok i) = (low ≡ false) × SoundIn t i × ((e : Event) → arrive t (on k e) ≡ stepped i e t)

-- ---- numbers that become missing

-- R9: 9 where these runs are too many, else this answer and the record with them
unfoldable pub stored_or_full : Tracker → ℕ → Answer ArrivalSaid → ℕ → Bool → List Run → Outcome
stored_or_full t i a highest ended runs =
    cond (ltb run_limit (length runs))
    (record { said = refused table_full []; next = t })
    (record { said = a; next = put t i (changed (channel_at t i) highest ended runs) })

-- T6, T9: the record whose numbers behind the highest, up to m, are missing
abbrev pub raising : ℕ → Answer ArrivalSaid → ℕ → Bool → ℕ → Tracker → Outcome
raising i said top mark m t = stored_or_full t i said top mark (grow (channel_at t i).runs (channel_at t i).highest m)

-- ---- a number that is not above the highest, by what the search found

-- there is a run to change: a place of runs, or one run at least, of this count
abbrev pub Changeable : Held → ℕ → Type 0
Changeable (AtEnd p first last) count = p < place_count
Changeable (Alone p) count = 1 ≤ count
Changeable (Inside p) count = p < place_count

-- the same tracker with these counts and places of runs
abbrev pub relaid : Tracker → (counts first last : List ℕ) → Tracker
relaid t counts first last =
    record {
      count = t.count;
      numbers = t.numbers;
      from = t.from;
      highest = t.highest;
      ended = t.ended;
      counts = counts;
      first = first;
      last = last;
    }

-- another run at place p; the run at place p of channel i gone; the same run split around n
abbrev pub replaced : Tracker → ℕ → ℕ → ℕ → Tracker
replaced t p first last = relaid t t.counts (set t.first p first) (set t.last p last)

abbrev pub shut : Tracker → ℕ → ℕ → Tracker
shut t i p =
    relaid t (set t.counts i (get_or t.counts i 0 - 1))
    (closed t.first p (i * run_limit + (get_or t.counts i 0 - 1)))
    (closed t.last p (i * run_limit + (get_or t.counts i 0 - 1)))

abbrev pub cleft : Tracker → ℕ → ℕ → ℕ → Tracker
cleft t i p n =
    relaid t (set t.counts i (get_or t.counts i 0 + 1))
    (opened t.first (p + 1) (i * run_limit + get_or t.counts i 0) (n + 1))
    (opened t.last p (i * run_limit + get_or t.counts i 0) (n - 1))

-- T7, T8: the answer, and the next tracker
abbrev pub late_as : Held → ℕ → ℕ → Tracker → Outcome
late_as (AtEnd p first last) i n t = answered (Ok Late) (replaced t p first last)
late_as (Alone p) i n t = answered (Ok Late) (shut t i p)
late_as (Inside p) i n t = cond (eqb (get_or t.counts i 0) run_limit) (answered (Err TableFull) t) (answered (Ok Late) (cleft t i p n))

-- ---- the first run of a channel

-- the number and values for each case of the answer
abbrev pub lost_of : Result (Option Run) RequestRefusal → Answer Lost
lost_of (Ok (Some r)) = accepted (lost r)
lost_of (Ok None) = accepted nothing_missing
lost_of (Err Malformed) = refused malformed []
lost_of (Err NoSuchChannel) = refused no_such_channel []
lost_of (Err OutputShort) = refused output_short []
