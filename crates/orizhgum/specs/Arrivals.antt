-- What the C interface answers of the tracker.
-- Assumes nothing.
use Rattle.std.specs.Prelude.{ℕ, Bool, not, eqb}
use Rattle.wire.specs.Answer.{Answer, accepted, refused}
use Rattle.gaps.specs.Channel.{ArrivalSaid, new, late, duplicate, heard, before_start}
use Rattle.tracker.specs.SetUp.{Ready}
use Rattle.tracker.specs.Arrived.{Outcome}
use Rattle.wire.specs.Number.{plain, late_number, duplicate_number, before_start_number, answer_number}
use Rattle.orizhgum.specs.declared.arrivals.StartAnswer.{StartAnswer}
use Rattle.tracker.specs.declared.Tracker.{Tracker}

-- C1: new and heard are the plain answer
abbrev pub said_number : Answer ArrivalSaid → ℕ
said_number (accepted new) = plain
said_number (accepted late) = late_number
said_number (accepted duplicate) = duplicate_number
said_number (accepted heard) = plain
said_number (accepted before_start) = before_start_number
said_number (refused n vs) = n

-- C1, J7: the set-up's answer, and the tracker
abbrev pub start_answer : Ready → StartAnswer
start_answer r = record { answer = answer_number r.said; tracker = r.tracker }

-- C9: an end as a byte: 0 is no, anything else yes
abbrev pub ending : ℕ → Bool
ending e = not (eqb e 0)

-- C9: an arrival's answer, and the next tracker
pub record Arrived : Type 0 where
  pub answer : ℕ
  pub next : Tracker

abbrev pub replied : ℕ → Tracker → Arrived
replied answer t = record { answer = answer; next = t }

-- C1, C9: what an arrival is answered from C
abbrev pub arrival_answer : Outcome → Arrived
arrival_answer o = replied (said_number o.said) o.next
