-- An entry with its price, by what it says.
-- Assumes nothing.
use Prim.Native.Nat.{ℕ, ◌-◌}
use mathlib.Core.Path.{◌≡◌, refl, sym}
use mathlib.Core.List.{List, []}
use lib.IntN.{ℤ}
use Rattle.wire.specs.Answer.{Answer, accepted, refused}
use Rattle.wire.specs.Number.{plain, no_such_entry_number}
use Rattle.wire.specs.Bytes.{be_at}
use Rattle.layout.specs.Layout.{Entries, entry_group, entries, values}
use Rattle.layout.specs.Group.{next_offset, judge_groups}
use Rattle.layout.specs.Paper.{body_refusal}
use Rattle.layout.specs.declared.group.Refusal.{Refusal}
use Rattle.record.specs.Asked.{Asked}
use Rattle.entries.specs.Entry.{Says, Stepped, says_in, entry_at, step_in, entry_found}
use Rattle.entries.proofs.Entries.{step-none, step-refused, step-found}
use Rattle.prices.specs.Entries.{price_of, price_left, priced_left, no_entry, saying, entry_from_c, step_answer}
use Rattle.prices.specs.declared.entry.Entry.{Entry}
use Rattle.prices.specs.declared.entry.StepAnswer.{StepAnswer}

-- the numbers of the fields that some bytes start with
abbrev pub numbers : Entries → List ℕ → List ℤ
numbers e s = values (entry_group e).fields s 0

-- an entry that says a thing: what is shown of it, and what a lent number that held z holds then
pub told : (e : Entries) (s : List ℕ) (z : ℤ) {t : ℕ} {x : Says} {r : Entry} {y : ℤ} → t ≡ be_at s 0 2 → says_in e t (numbers e s) ≡ x → r ≡ saying t x → y ≡ price_left (price_of x) z → (r ≡ entry_from_c (entry_at e s 0)) × (y ≡ price_left (price_of (entry_at e s 0).says) z)
unfolding entry_at
told e s z c h f g = rw (sym c, h) (f, g)

-- ---- a step from an offset with k left, and a lent number that held z: none left, refused, or over an entry

module _ (e : Entries) (s : List ℕ) (p k : ℕ) (z : ℤ) where
  -- the step, what is answered of it, and what the lent number holds then
  abbrev step : Answer (Asked Stepped)
  step = step_in (entries e) s (record { offset = p; left = k })

  abbrev Answers : StepAnswer → ℤ → Type 0
  Answers r y = (r ≡ step_answer step (record { offset = p; left = k })) × (y ≡ priced_left (entry_found step) z)

  pub none_left : {r : StepAnswer} → k ≡ 0 → r ≡ record { answer = no_such_entry_number; entry = no_entry; next = record { offset = p; left = k } } → Answers r z
  unfolding step_answer priced_left
  none_left h f = rw (step-none e s p k h) (f, refl)

  module _ (h : k ≡ 0 → ⊥) where
    pub refused-there : (x : Refusal) {r : StepAnswer} → judge_groups (entry_group e) s p 1 ≡ refused (body_refusal x) [] → r ≡ record { answer = body_refusal x; entry = no_entry; next = record { offset = p; left = k } } → Answers r z
    unfolding step_answer priced_left
    refused-there x j f = rw (step-refused e s p k h j) (f, refl)

    pub stepped-over : {r : StepAnswer} {y : ℤ} → judge_groups (entry_group e) s p 1 ≡ accepted tt → (r ≡ record { answer = plain; entry = entry_from_c (entry_at e s p); next = record { offset = next_offset (entry_group e) s p; left = k - 1 } }) × (y ≡ price_left (price_of (entry_at e s p).says) z) → Answers r y
    unfolding step_answer priced_left
    stepped-over j f = rw (step-found e s p k h j) f
