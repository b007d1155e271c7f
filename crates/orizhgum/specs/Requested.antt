-- What the C interface answers of the request.
-- Assumes nothing.
use Rattle.wire.specs.Answer.{Answer, accepted, refused}
use Rattle.tracker.specs.Request.{RequestSaid, written, nothing}
use Rattle.wire.specs.Number.{plain, nothing_missing_number}
use Rattle.orizhgum.specs.declared.written.WriteAnswer.{WriteAnswer}

-- C10: how many bytes were written, none but for the plain answer
unfoldable pub request_answer : Answer RequestSaid → WriteAnswer
request_answer (accepted (written n)) = record { answer = plain; written = n }
request_answer (accepted nothing) = record { answer = nothing_missing_number; written = 0 }
request_answer (refused n vs) = record { answer = n; written = 0 }
