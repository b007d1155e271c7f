-- Two trackers joined, by the histories that they hold.
use Rattle.std.specs.Prelude.{ℕ, zero, suc, ◌<◌, ◌≡◌, List, [], ◌++◌, Bool, true, false, not, ◌&&◌, ◌||◌, ltb, eqb, length, get_or, Result, Ok, Err}
use Rattle.wire.specs.Answer.{Answer, accepted, refused, guard}
use Rattle.wire.specs.Refusal.{table_full, malformed, set_ups_differ}
use Rattle.gaps.specs.declared.Run.{Run}
use Rattle.gaps.specs.Limits.{run_limit}
use Rattle.gaps.specs.Channel.{Channel, Event}
use Rattle.gaps.specs.Record.{record_of}
use Rattle.seats.specs.declared.FieldsMut.{FieldsMut}
use Rattle.seats.specs.Arrays.{Arrays}
use Rattle.seats.specs.Places.{channel_limit}
use Rattle.seats.specs.Channels.{channel_in, put_in}
use Rattle.seats.specs.Rules.{sound}
use Rattle.joins.specs.declared.Refusal.{Refusal}
use Rattle.joins.specs.declared.Refusal.TheVariants.{TableFull, Malformed, SetUpsDiffer}

-- ---- the histories that a tracker holds

-- a history for each channel, by its place
abbrev pub Histories : Type 0
Histories = ℕ → List Event

-- T14: each channel of a tracker that keeps the rules is the record of its history; one that breaks them holds any, so that 10 is promised of it
abbrev pub Holds : Arrays → Histories → Type 0
Holds a g = sound a ≡ true → (i : ℕ) → i < a.count → channel_in a i ≡ record_of (get_or a.from i 0) (g i)

-- T14: the record of both histories of the channel at place i, one after the other
abbrev pub both : Arrays → Histories → Histories → ℕ → Channel
both a g h i = record_of (get_or a.from i 0) (g i ++ h i)

-- ---- a tracker's fields lent to be written

-- their channels are the same: how many, and the numbers and first numbers, which are lent to be read alone
abbrev pub SameChannels : FieldsMut → FieldsMut → Type 0
SameChannels f g = (g.count ≡ f.count) × (g.numbers ≡ f.numbers) × (g.from ≡ f.from)

-- ---- the refusals

-- R11: the same channel numbers and first numbers in the n places from i on
unfoldable pub alike : Arrays → Arrays → ℕ → ℕ → Bool
alike a b i zero = true
alike a b i (suc n) =
    eqb (get_or a.numbers i 0) (get_or b.numbers i 0) && (eqb (get_or a.from i 0) (get_or b.from i 0) && alike a b (suc i) n)

-- R11: trackers of one set-up; what their unused places hold is 0 (T4)
unfoldable pub same_set_up : Arrays → Arrays → Bool
same_set_up a b = eqb a.count b.count && alike a b 0 channel_limit

-- R9: the runs of one of the n channels from place i on are too many
unfoldable pub overfull : (ℕ → List Run) → ℕ → ℕ → Bool
overfull runs i zero = false
overfull runs i (suc n) = ltb run_limit (length (runs i)) || overfull runs (suc i) n

-- ---- the join

-- T14: the n records from place i on, put in their places
unfoldable pub put_all : Arrays → (ℕ → Channel) → ℕ → ℕ → Arrays
put_all a c i zero = a
put_all a c i (suc n) = put_all (put_in a i (c i)) c (suc i) n

-- T14: what a join is answered, and the first tracker behind it
pub record Outcome : Type 0 where
  pub said : Answer Unit
  pub next : Arrays

-- J6: a refusal gives the first tracker back as it stood
abbrev pub settled : Arrays → Answer Arrays → Outcome
settled a (accepted b) = record { said = accepted tt; next = b }
settled a (refused n v) = record { said = refused n v; next = a }

-- J10: 10 for either, 11, then 9; or the records of both histories
unfoldable pub join : Arrays → Arrays → Histories → Histories → Outcome
join a b g h =
    settled a
    (guard (not (sound a)) (refused malformed [])
    (guard (not (sound b)) (refused malformed [])
    (guard (not (same_set_up a b)) (refused set_ups_differ [])
    (guard (overfull (λ (i : ℕ). (both a g h i).runs) 0 a.count) (refused table_full [])
    (accepted (put_all a (both a g h) 0 a.count))))))

-- T14: so it is for all histories that the two hold
abbrev pub Joins : Arrays → Arrays → Outcome → Type 0
Joins a b r = (g h : Histories) → Holds a g → Holds b h → r ≡ join a b g h

-- what a join is answered by the code
abbrev pub JoinVerdict : Type 0
JoinVerdict = Result Unit Refusal

-- the number and values for each case of the code's answer
abbrev pub join_said : JoinVerdict → Answer Unit
join_said (Ok x) = accepted tt
join_said (Err TableFull) = refused table_full []
join_said (Err Malformed) = refused malformed []
join_said (Err SetUpsDiffer) = refused set_ups_differ []

-- what an answer says, with the arrays of the first tracker behind it
abbrev pub answered : JoinVerdict → Arrays → Outcome
answered v a = record { said = join_said v; next = a }
