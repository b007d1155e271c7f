-- The set-up of a tracker with its channels and their first numbers.
use Rattle.std.specs.Prelude.{ℕ, List, [], map, not, ℤ, length, replicate, Result, Ok, Err}
use Rattle.wire.specs.Answer.{Answer, accepted, refused, guard}
use Rattle.wire.specs.Refusal.{malformed}
use Rattle.gaps.specs.Built.{padded}
use Rattle.gaps.specs.Channel.{natural, fresh}
use Rattle.seats.specs.Places.{channel_limit, place_count}
use Rattle.seats.specs.Rules.{channels_listed}
use Rattle.tracker.specs.declared.Tracker.{Tracker}
use Rattle.seats.specs.declared.Malformed.{Malformed}
use Rattle.tracker.specs.declared.Started.{Started}

-- a count of channels, their numbers, first and highest ones, all else zero
abbrev pub blank_with : ℕ → (numbers from highest : List ℕ) → Tracker
blank_with count numbers from highest =
    record {
      count = count;
      numbers = numbers;
      from = from;
      highest = highest;
      ended = replicate channel_limit 0;
      counts = replicate channel_limit 0;
      first = replicate place_count 0;
      last = replicate place_count 0;
    }

-- T1: a tracker of these channels, each with its first number, that nothing has reached
abbrev pub blank_of : List ℕ → List ℤ → Tracker
blank_of numbers from =
    blank_with (length numbers) (padded channel_limit numbers) (padded channel_limit (map natural from))
    (padded channel_limit (map (λ (z : ℤ). (fresh (natural z)).highest) from))

-- T1: what the set-up answers, and the tracker that it gives
pub record Ready : Type 0 where
  pub said : Answer Unit
  pub tracker : Tracker

-- J7: a refused set-up gives zeros, and no channel
abbrev pub set_up_gives : Answer Tracker → Ready
set_up_gives (accepted t) = record { said = accepted tt; tracker = t }
set_up_gives (refused n v) = record { said = refused n v; tracker = blank_of [] [] }

-- T1, R10: lists that a set-up does not take are refused
unfoldable pub set_up : List ℕ → List ℤ → Ready
set_up numbers from = set_up_gives (guard (not (channels_listed numbers from)) (refused malformed []) (accepted (blank_of numbers from)))

-- what the set-up is answered by the code
abbrev pub Start : Type 0
Start = Result Unit Malformed

-- the number and values for each case of it
abbrev pub set_up_said : Start → Answer Unit
set_up_said (Ok x) = accepted tt
set_up_said (Err x) = refused malformed []

-- what the set-up's answer says
abbrev pub means_started : Started → Ready
means_started r = record { said = set_up_said r.verdict; tracker = r.tracker }
