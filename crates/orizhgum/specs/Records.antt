-- What the C interface answers of a record.
-- Assumes nothing.
use Rattle.std.specs.Prelude.{ℕ, List, []}
use Rattle.wire.specs.Answer.{Answer, accepted, refused}
use Rattle.layout.specs.Layout.{Message, Listed, listed, unlisted}
use Rattle.record.specs.Asked.{judge_listed}
use Rattle.record.specs.Record.{Reading, numbers_as, read_as}
use Rattle.record.specs.Paper.{means_record}
use Rattle.record.specs.declared.Record.{Record}
use Rattle.wire.specs.Number.{answer_number, unknown_number}

-- C3: how a body of a type reads: plainly or refused by 4 or 5; a type that is not listed is unknown
abbrev pub judged_number : Listed → List ℕ → ℕ
judged_number (listed m) s = answer_number (judge_listed (listed m) s)
judged_number unlisted s = unknown_number

-- C4: an answer's number, the record with it, and its texts in their room
pub record RecordAnswer : Type 0 where
  pub answer : ℕ
  pub numbers : Reading
  pub texts : List ℕ

-- C4: the record of an answer; that of a refusal holds the numbers of no bytes, which are all 0
abbrev pub record_in : Message → Answer Reading → Reading
record_in m (accepted r) = r
record_in m (refused n vs) = numbers_as m []

-- C4: the body of a listed type
unfoldable pub record_answer : Message → List ℕ → RecordAnswer
record_answer m s =
    record {
      answer = answer_number (read_as m s).answer;
      numbers = record_in m (read_as m s).answer;
      texts = (read_as m s).texts;
    }

-- the code's answer in these terms
abbrev pub answer_as : ℕ → Record → List ℕ → RecordAnswer
answer_as n r ts = record { answer = n; numbers = means_record r; texts = ts }
