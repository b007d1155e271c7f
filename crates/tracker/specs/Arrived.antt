-- What an arrival does to a tracker: the refusals in their order, then the channel's step.
use Rattle.std.specs.Prelude.{ℕ, [], not, ltb, Result, Ok, Err}
use Rattle.wire.specs.Answer.{Answer, accepted, refused, guard}
use Rattle.wire.specs.Refusal.{no_such_channel, number_too_low, table_full, malformed}
use Rattle.gaps.specs.Channel.{Event, ArrivalSaid, new, late, duplicate, heard, before_start, Step, judge_event}
use Rattle.seats.specs.Seat.{place_from}
use Rattle.tracker.specs.declared.Tracker.{Tracker}
use Rattle.tracker.specs.declared.News.{News}
use Rattle.tracker.specs.declared.News.TheVariants.{New, Late, Duplicate, Heard, BeforeStart}
use Rattle.tracker.specs.declared.Refusal.{Refusal}
use Rattle.tracker.specs.declared.Refusal.TheVariants.{NoSuchChannel, NumberTooLow, TableFull, Malformed}
use Rattle.tracker.specs.declared.Reply.{Reply}
use Rattle.tracker.specs.Places.{channel_at, put}
use Rattle.tracker.specs.Rules.{well_formed}

-- T5: an arrival: the channel that it came on, and what came
pub record Arrival : Type 0 where
  pub channel : ℕ
  pub event : Event

-- the event e on channel k
abbrev pub on : ℕ → Event → Arrival
on k e = record { channel = k; event = e }

-- R7: the place of channel k; the count of channels where the tracker does not hold it
unfoldable pub place : Tracker → ℕ → ℕ
place t k = place_from t.numbers k 0 t.count

-- T5: what an arrival is answered, and the next tracker
pub record Outcome : Type 0 where
  pub said : Answer ArrivalSaid
  pub next : Tracker

-- T5, J6: the step's record goes to place i; a refusal leaves the tracker as it stood
abbrev pub settled : Tracker → ℕ → Answer Step → Outcome
settled t i (accepted s) = record { said = accepted s.said; next = put t i s.next }
settled t i (refused n v) = record { said = refused n v; next = t }

-- J4: 10, then 7, then what the channel judges
unfoldable pub arrive : Tracker → Arrival → Outcome
arrive t a =
    settled t (place t a.channel)
    (guard (not (well_formed t)) (refused malformed [])
    (guard (not (ltb (place t a.channel) t.count)) (refused no_such_channel [])
    (judge_event (channel_at t (place t a.channel)) a.event)))

-- what an arrival is answered by the code
abbrev pub Verdict : Type 0
Verdict = Result News Refusal

-- the number and values for each case of it
abbrev pub arrival_said : Verdict → Answer ArrivalSaid
arrival_said (Ok New) = accepted new
arrival_said (Ok Late) = accepted late
arrival_said (Ok Duplicate) = accepted duplicate
arrival_said (Ok Heard) = accepted heard
arrival_said (Ok BeforeStart) = accepted before_start
arrival_said (Err NoSuchChannel) = refused no_such_channel []
arrival_said (Err NumberTooLow) = refused number_too_low []
arrival_said (Err TableFull) = refused table_full []
arrival_said (Err Malformed) = refused malformed []

-- what a verdict says, with the next tracker
abbrev pub answered : Verdict → Tracker → Outcome
answered v t = record { said = arrival_said v; next = t }

-- what a reply says
abbrev pub means_reply : Reply → Outcome
means_reply r = answered r.verdict r.next
