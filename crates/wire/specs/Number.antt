-- What a call answers by number: 0 is the plain answer, 1 to 99 are the refusals' numbers.
-- Assumes nothing.
use Rattle.std.specs.Prelude.{ℕ}
use Rattle.wire.specs.Answer.{Answer, accepted, refused}

-- C1: the plain answer
abbrev pub plain : ℕ
plain = 0

-- C1: the other answers, 100 and up
abbrev pub unknown_number : ℕ
unknown_number = 100

abbrev pub no_such_entry_number : ℕ
no_such_entry_number = 101

abbrev pub no_price : ℕ
no_price = 102

abbrev pub late_number : ℕ
late_number = 103

abbrev pub duplicate_number : ℕ
duplicate_number = 104

abbrev pub nothing_missing_number : ℕ
nothing_missing_number = 105

abbrev pub more_number : ℕ
more_number = 106

abbrev pub end_number : ℕ
end_number = 107

abbrev pub before_start_number : ℕ
before_start_number = 108

-- C1: plain where it is accepted, else the refusal's number
abbrev pub answer_number : {A : Type 0} → Answer A → ℕ
answer_number (accepted x) = plain
answer_number (refused n vs) = n
