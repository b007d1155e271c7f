-- The code's answers in the specs' terms: for each case of an enum, its number and values.
-- Assumes nothing.
use Rattle.std.specs.Prelude.{[], ℤ, pos, Option, Some, None, Result, Ok, Err}
use Rattle.wire.specs.Answer.{Answer, accepted, refused}
use Rattle.layout.specs.Paper.{body_refusal}
use Rattle.record.specs.Asked.{Asked, found, no_such_entry}
use Rattle.entries.specs.Entry.{Says, level, level_without_price, price, size, both, no_limit, unknown, Entry, At, Stepped}
use Rattle.layout.specs.declared.group.Refusal.{Refusal}
use Rattle.entries.specs.declared.entry.Says as says_code
use Rattle.entries.specs.declared.entry.Entry as entry_code
use Rattle.entries.specs.declared.cursor.Cursor as cursor_code

-- which of the seven things the code means
abbrev pub means_says : says_code.Says → Says
means_says (says_code.TheVariants.Level p z l o n) = level p z (pos l) o (pos n)
means_says (says_code.TheVariants.LevelWithoutPrice z l o n) = level_without_price z (pos l) o (pos n)
means_says (says_code.TheVariants.Price p) = price p
means_says (says_code.TheVariants.Size z) = size z
means_says (says_code.TheVariants.Both p z) = both p z
means_says says_code.TheVariants.NoLimit = no_limit
means_says says_code.TheVariants.Unknown = unknown

abbrev pub means_entry : entry_code.Entry → Entry
means_entry e = record { characters = e.characters; says = means_says e.says }

-- what is asked for by position
abbrev pub means_asked : {A B : Type 0} → (A → B) → Option A → Asked B
means_asked means (Some x) = found (means x)
means_asked means None = no_such_entry

-- what the calls by position answer
abbrev pub AskedEntry : Type 0
AskedEntry = Result (Option entry_code.Entry) Refusal

abbrev pub means_asked_entry : AskedEntry → Answer (Asked Entry)
means_asked_entry (Ok a) = accepted (means_asked means_entry a)
means_asked_entry (Err x) = refused (body_refusal x) []

abbrev pub AskedQuantity : Type 0
AskedQuantity = Result (Option ℤ) Refusal

abbrev pub means_quantity : AskedQuantity → Answer (Asked ℤ)
means_quantity (Ok a) = accepted (means_asked (λ z. z) a)
means_quantity (Err x) = refused (body_refusal x) []

-- the cursor, and its step
abbrev pub means_cursor : cursor_code.Cursor → At
means_cursor c = record { offset = c.offset; left = c.left }

abbrev pub Step : Type 0
Step = Result (Option (entry_code.Entry × cursor_code.Cursor)) Refusal

abbrev pub means_stepped : entry_code.Entry × cursor_code.Cursor → Stepped
means_stepped x = record { entry = means_entry x.0; onward = means_cursor x.1 }

abbrev pub means_step : Step → Answer (Asked Stepped)
means_step (Ok a) = accepted (means_asked means_stepped a)
means_step (Err x) = refused (body_refusal x) []
