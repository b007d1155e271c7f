-- What the C interface answers of a frame.
-- Assumes nothing.
use Rattle.wire.specs.Answer.{Answer, accepted, refused}
use Rattle.wire.specs.Number.{plain}
use Rattle.frame.specs.Framing.{missing_by}
use Rattle.frame.specs.declared.Frame.{Frame}
use Rattle.orizhgum.specs.declared.FrameAnswer.{FrameAnswer}

-- C2: a frame's type and lengths; a refusal has zeros, but for how many bytes are missing
abbrev pub frame_answer : Answer Frame → FrameAnswer
frame_answer (accepted f) = record { answer = plain; kind = f.kind; len = f.len; total = f.total; missing = 0 }
frame_answer (refused n vs) = record { answer = n; kind = 0; len = 0; total = 0; missing = missing_by vs }
