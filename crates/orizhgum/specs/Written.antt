-- What the C interface answers of the writer.
-- Assumes nothing.
use Rattle.std.specs.Prelude.{ℕ}
use Rattle.wire.specs.Answer.{Answer, accepted, refused}
use Rattle.wire.specs.Number.{plain}
use Rattle.orizhgum.specs.declared.written.WriteAnswer.{WriteAnswer}

-- C10: how many bytes were written, none by a refusal
unfoldable pub write_answer : Answer ℕ → WriteAnswer
write_answer (accepted n) = record { answer = plain; written = n }
write_answer (refused n vs) = record { answer = n; written = 0 }
