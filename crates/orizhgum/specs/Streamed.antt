-- What the C interface answers of a stream.
-- Assumes nothing.
use Rattle.std.specs.Prelude.{ℕ}
use Rattle.wire.specs.Answer.{Answer, accepted, refused}
use Rattle.wire.specs.Number.{plain, more_number, end_number}
use Rattle.frame.specs.Framing.{missing_by}
use Rattle.frame.specs.declared.Frame.{Frame}
use Rattle.streams.specs.Stream.{Where, in_cut, in_buffer, Said, frame, more, end, Told}
use Rattle.streams.specs.declared.Stream.{Stream}
use Rattle.orizhgum.specs.declared.streamed.StreamAnswer.{StreamAnswer}

-- C12: where a frame stands; 0 is for none
abbrev pub where_number : Where → ℕ
where_number in_cut = 1
where_number in_buffer = 2

-- C12: a frame's type and lengths
abbrev pub frame_told : Where → Frame → ℕ → Stream → StreamAnswer
frame_told w f took next =
    record { answer = plain; stands = where_number w; kind = f.kind; len = f.len; total = f.total; missing = 0; took = took; next = next }

-- C12: zeros without a frame, but for how many bytes are missing
abbrev pub no_frame_told : ℕ → ℕ → ℕ → Stream → StreamAnswer
no_frame_told n missing took next =
    record { answer = n; stands = 0; kind = 0; len = 0; total = 0; missing = missing; took = took; next = next }

-- C12: the number, the frame, what is taken, and the next state
abbrev pub said_answer : Answer Said → ℕ → Stream → StreamAnswer
said_answer (accepted (frame w f)) took next = frame_told w f took next
said_answer (accepted (more vs)) took next = no_frame_told more_number (missing_by vs) took next
said_answer (accepted end) took next = no_frame_told end_number 0 took next
said_answer (refused n vs) took next = no_frame_told n (missing_by vs) took next

-- C12: a call's answer
abbrev pub stream_answer : Told → StreamAnswer
stream_answer t = said_answer t.said t.took t.next
