-- The stream in cuts: what its calls can tell, as their contracts allow (specs/Calls, specs/CalledFromC), in the words of `streams`, whose statements
-- (its specs Cutting and Leads) are taken over them.
-- Assumes nothing.
use Rattle.std.specs.Prelude.{ℕ, cond, List, [], ◌∷◌, eqb}
use Rattle.wire.specs.Answer.{Answer, accepted, refused}
use Rattle.wire.specs.Number.{plain, more_number, end_number}
use Rattle.frame.specs.Framing.{header_width, body_limit}
use Rattle.streams.specs.Stream.{Where, in_cut, in_buffer, Said, frame, more, end, Told}
use Rattle.streams.specs.Cutting.{PushCall, EndCall, Cutting, EveryCutting}
use Rattle.streams.specs.Leads.{Leads, Takes, Ten, Repeats}
use Rattle.streams.specs.Missing.{SaysMissing, TwoPushes}
use Rattle.streams.specs.Paper.{means_pushed}
use Rattle.streams.specs.declared.Stream.{Stream}
use Rattle.streams.specs.declared.Pushed.{Pushed}
use Rattle.orizhgum.specs.Streamed.{where_number}
use Rattle.orizhgum.specs.declared.streamed.StreamAnswer.{StreamAnswer}
use Rattle.demands.specs.Calls.{StreamPush, StreamEnd}
use Rattle.demands.specs.CalledFromC.{StreamPushFromC, StreamEndFromC}
use Rattle.demands.specs.Missing.{values_by}

-- ---- the library's calls

-- S2: `st.push(buffer, cut)`
pub data PushTells : Stream → List ℕ → List ℕ → Told → List ℕ → Type 0 where
  push_tells : {st : Stream} {buffer c left : List ℕ} (r : Pushed) → StreamPush st buffer c r left → PushTells st buffer c (means_pushed r) left

-- S6: `st.end(buffer)`
pub data EndTells : Stream → List ℕ → Told → Type 0 where
  end_tells : {st : Stream} {buffer : List ℕ} (r : Pushed) → StreamEnd st buffer r → EndTells st buffer (means_pushed r)

-- S8: the states that they lead to
abbrev pub LedTo : Stream → List ℕ → Type 0
LedTo = Leads header_width body_limit PushTells EndTells

-- ---- the calls of the C interface

-- C12: where a host finds a frame
abbrev pub where_by : StreamAnswer → Where
where_by r = cond (eqb r.stands (where_number in_cut)) in_cut in_buffer

-- C12: what a host takes a struct for
abbrev pub said_by : StreamAnswer → Answer Said
said_by r =
    cond (eqb r.answer plain) (accepted (frame (where_by r) (record { kind = r.kind; len = r.len; total = r.total })))
    (cond (eqb r.answer more_number) (accepted (more (r.missing ∷ [])))
    (cond (eqb r.answer end_number) (accepted end)
    (refused r.answer (values_by r.answer r.missing))))

abbrev pub told_by : StreamAnswer → Told
told_by r = record { said = said_by r; took = r.took; next = r.next }

-- S2, C12: `orizhgum_stream_push(stream, buffer, cut)`
pub data PushTellsC : Stream → List ℕ → List ℕ → Told → List ℕ → Type 0 where
  push_tells_c : {st : Stream} {buffer c left : List ℕ} (r : StreamAnswer) → StreamPushFromC st buffer c r left → PushTellsC st buffer c (told_by r) left

-- S6, C12: `orizhgum_stream_end(stream, buffer)`
pub data EndTellsC : Stream → List ℕ → Told → Type 0 where
  end_tells_c : {st : Stream} {buffer : List ℕ} (r : StreamAnswer) → StreamEndFromC st buffer r → EndTellsC st buffer (told_by r)

-- ---- what is said of either

-- S4, D51, D52, D53, D54: every cutting gives what the whole stream gives, and is played; no call takes more than the cut, and an empty one
-- changes nothing; 10 exactly for the states that no calls lead to; refusals and ends are repeated; what is missing is what the frame reader says,
-- and a host that hands in just so much makes two pushes a frame at most
pub record InCuts (Push : PushCall) (End : EndCall) : Type 0 where
  pub cutting : Cutting header_width body_limit Push End
  pub every_cutting : EveryCutting header_width body_limit Push End
  pub takes : Takes header_width body_limit Push End
  pub ten : Ten header_width body_limit Push End
  pub repeats : Repeats Push End
  pub missing : SaysMissing header_width body_limit Push End
  pub two_pushes : TwoPushes header_width body_limit Push
