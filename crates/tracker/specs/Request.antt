-- The request for the numbers that a channel misses first.
-- Assumes nothing.
use Rattle.std.specs.Prelude.{ℕ, ◌+◌, ◌-◌, cond, List, [], ◌∷◌, ltb, ℤ, pos, length, replicate, Option, Some, None, Result, Ok, Err}
use Rattle.wire.specs.Answer.{Answer, accepted, refused, guard, and_then}
use Rattle.wire.specs.Bytes.{splice}
use Rattle.wire.specs.Refusal.{output_short, no_such_channel, malformed}
use Rattle.layout.specs.Kind.{characters, news_id, reject_text}
use Rattle.layout.specs.Layout.{resend, type_number}
use Rattle.record.specs.Record.{Reading, known}
use Rattle.bodies.specs.Body.{body, body_length}
use Rattle.writer.specs.Write.{frame_of, frame_length}
use Rattle.gaps.specs.declared.Run.{Run}
use Rattle.gaps.specs.Gaps.{run}
use Rattle.tracker.specs.declared.Tracker.{Tracker}
use Rattle.tracker.specs.FirstRun.{Lost, lost, nothing_missing, first_run}
use Rattle.tracker.specs.declared.RequestRefusal.{RequestRefusal}
use Rattle.tracker.specs.declared.RequestRefusal.TheVariants.{Malformed, NoSuchChannel, OutputShort}

-- ---- which numbers it asks for

-- Q1: the most numbers that one request asks for
abbrev pub batch : ℕ
batch = 200

-- Q1: the run, or its first numbers where it has more than a batch
unfoldable pub asked : Run → Run
asked r = cond (ltb r.last (r.first + batch)) r (run r.first (r.first + batch - 1))

-- ---- the frame that asks for them

-- Q2: the resend type that asks by numbers
abbrev pub by_numbers : ℕ
by_numbers = 1

-- Q2: the status of a frame that asks
abbrev pub no_status : ℕ
no_status = 0

-- Q2: the character of empty texts
abbrev pub space : ℕ
space = 0x20

-- Q2: news id and reject text, empty
abbrev pub spaces : List ℕ
spaces = replicate (characters news_id + characters reject_text) space

-- Q2: the numbers of the frame's fields, in its layout's order
abbrev pub numbers_for : ℕ → Run → List ℤ
numbers_for k r = pos by_numbers ∷ pos k ∷ pos r.first ∷ pos r.last ∷ pos no_status ∷ []

-- the record
abbrev pub resend_of : ℕ → Run → Reading
resend_of k r = known resend (numbers_for k r)

-- Q2: the frame that asks for the numbers r of channel k
abbrev pub request_frame : ℕ → Run → List ℕ
request_frame k r = frame_of (type_number resend) (body resend (numbers_for k r) spaces [])

-- Q2: how many bytes it has
abbrev pub request_length : ℕ
request_length = frame_length (body_length resend [])

-- ---- the refusals in their order

-- R6: the numbers to ask for, for an output of room bytes
abbrev pub room_for_request : ℕ → Lost → Answer Lost
room_for_request room (lost r) = guard (ltb room request_length) (refused output_short []) (accepted (lost (asked r)))
room_for_request room nothing_missing = accepted nothing_missing

-- J5: 10, 7, nothing missing, 6
unfoldable pub request_judged : Tracker → ℕ → ℕ → Answer Lost
request_judged t k room = and_then (first_run t k) (room_for_request room)

-- ---- what is answered, and what the output holds then

-- Q3, J8: how many bytes were written, or nothing missing
pub data RequestSaid : Type 0 where
  written : ℕ → RequestSaid
  nothing : RequestSaid

-- what goes with the numbers asked for
abbrev pub request_said : Lost → RequestSaid
request_said (lost r) = written request_length
request_said nothing_missing = nothing

-- J6: a refusal is its number
abbrev pub answer_of : Answer Lost → Answer RequestSaid
answer_of (accepted x) = accepted (request_said x)
answer_of (refused n vs) = refused n vs

-- W2, Q3, J6: exactly the bytes of the frame change; nothing does where nothing is missing, nor on a refusal
abbrev pub output_asked : Answer Lost → ℕ → List ℕ → List ℕ
output_asked (accepted (lost r)) k out = splice out 0 (request_frame k r)
output_asked (accepted nothing_missing) k out = out
output_asked (refused n vs) k out = out

-- J5: what a request for channel k is answered
unfoldable pub request : Tracker → ℕ → List ℕ → Answer RequestSaid
request t k out = answer_of (request_judged t k (length out))

-- Q2: what the output holds after it
unfoldable pub request_leaves : Tracker → ℕ → List ℕ → List ℕ
request_leaves t k out = output_asked (request_judged t k (length out)) k out

-- what a request is answered by the code
abbrev pub Requested : Type 0
Requested = Result (Option ℕ) RequestRefusal

-- the number and values for each case of it
abbrev pub means_requested : Requested → Answer RequestSaid
means_requested (Ok (Some n)) = accepted (written n)
means_requested (Ok None) = accepted nothing
means_requested (Err Malformed) = refused malformed []
means_requested (Err NoSuchChannel) = refused no_such_channel []
means_requested (Err OutputShort) = refused output_short []
