-- What the C interface answers of a shown quantity.
-- Assumes nothing.
use Rattle.std.specs.Prelude.{ℤ, pos}
use Rattle.wire.specs.Answer.{Answer, accepted, refused}
use Rattle.wire.specs.Number.{plain, no_such_entry_number}
use Rattle.record.specs.Asked.{Asked, found, no_such_entry}
use Rattle.orizhgum.specs.declared.entry.QuantityAnswer.{QuantityAnswer}

-- C6: a shown quantity by position; 0 without one
unfoldable pub quantity_answer : Answer (Asked ℤ) → QuantityAnswer
quantity_answer (accepted (found z)) = record { answer = plain; quantity = z }
quantity_answer (accepted no_such_entry) = record { answer = no_such_entry_number; quantity = pos 0 }
quantity_answer (refused n vs) = record { answer = n; quantity = pos 0 }
