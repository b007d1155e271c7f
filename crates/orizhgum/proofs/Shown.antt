-- What is answered of a record, by what its body reads as.
-- Assumes nothing.
use Prim.Native.Nat.{ℕ}
use mathlib.Core.Path.{◌≡◌, refl, sym}
use mathlib.Core.Bool.{Bool, true, false, cond, true≢false}
use mathlib.Core.List.{List, []}
use lib.Dec.{leb}
use Rattle.wire.specs.Answer.{accepted, refused}
use Rattle.layout.specs.Layout.{Message, Listed, listed, unlisted, fields, texts}
use Rattle.layout.specs.Group.{judge_body, groups_start}
use Rattle.record.specs.Asked.{filled, judge_listed}
use Rattle.record.specs.Record.{Reading, numbers_as, had, read_as, is_listed}
use Rattle.wire.specs.Number.{plain, answer_number, unknown_number}
use Rattle.orizhgum.specs.Records.{judged_number, RecordAnswer, record_answer}

-- how a body of a type reads, by whether the type is listed
pub unlisted-judged : (l : Listed) (s : List ℕ) → is_listed l ≡ false → unknown_number ≡ judged_number l s
unlisted-judged (listed m) s e = absurd (true≢false e)
unlisted-judged unlisted s e = refl

pub listed-judged : (l : Listed) (s : List ℕ) → is_listed l ≡ true → answer_number (judge_listed l s) ≡ judged_number l s
listed-judged (listed m) s e = refl
listed-judged unlisted s e = absurd (true≢false (sym e))

cond_same : (b : Bool) (l : List ℕ) → cond b l l ≡ l
cond_same true l = refl
cond_same false l = refl

-- no bytes have no fields
pub had_of_none : (m : Message) → had m [] ≡ []
unfolding had
had_of_none m = cond_same (leb (groups_start m) 0) []

-- a body that its type's own call judged: accepted, with its numbers and its texts, or refused
module _ (m : Message) (s : List ℕ) {r : Reading} {b : List ℕ} where
  pub shown-accepted : judge_body m s ≡ accepted tt → r ≡ numbers_as m s → b ≡ filled (texts (fields m) s 0) → ◌≡◌ {A = RecordAnswer} (record { answer = plain; numbers = r; texts = b }) (record_answer m s)
  unfolding record_answer read_as
  shown-accepted e f g = rw e (λ i. record { answer = plain; numbers = f i; texts = g i })

  pub shown-refused : {n : ℕ} {vs : List ℕ} → judge_body m s ≡ refused n vs → r ≡ numbers_as m [] → b ≡ filled [] → ◌≡◌ {A = RecordAnswer} (record { answer = n; numbers = r; texts = b }) (record_answer m s)
  unfolding record_answer read_as
  shown-refused {n} e f g = rw e (λ i. record { answer = n; numbers = f i; texts = g i })
