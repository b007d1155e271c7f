-- Two answers on entries that meet a promise are equal: the rules' terms give each answer of the code back.
-- Assumes nothing.
use Prim.Native.Nat.{ℕ}
use mathlib.Core.Path.{◌≡◌, refl, ap, sym, ◌∙◌}
use lib.IntN.{ℤ, pos, negsuc}
use Rattle.std.proofs.Common.{Some, None, Ok, Err}
use Rattle.wire.specs.Answer.{Answer, accepted, refused}
use Rattle.layout.proofs.Unique.{code_refusal, back_refusal}
use Rattle.record.specs.Asked.{Asked, found, no_such_entry}
use Rattle.entries.specs.Entry.{Says, level, level_without_price, price, size, both, no_limit, unknown, Entry, At, Stepped}
use Rattle.entries.specs.Paper.{means_says, means_entry, AskedEntry, means_asked_entry, AskedQuantity, means_quantity, means_cursor, Step, means_step}
use Rattle.entries.specs.declared.entry.Says as says_code
use Rattle.entries.specs.declared.entry.Entry as entry_code
use Rattle.entries.specs.declared.cursor.Cursor as cursor_code

-- ---- the ways back

abbrev natural : ℤ → ℕ
natural (pos n) = n
natural (negsuc n) = 0

abbrev code_says : Says → says_code.Says
code_says (level p z l o n) = says_code.TheVariants.Level p z (natural l) o (natural n)
code_says (level_without_price z l o n) = says_code.TheVariants.LevelWithoutPrice z (natural l) o (natural n)
code_says (price p) = says_code.TheVariants.Price p
code_says (size z) = says_code.TheVariants.Size z
code_says (both p z) = says_code.TheVariants.Both p z
code_says no_limit = says_code.TheVariants.NoLimit
code_says unknown = says_code.TheVariants.Unknown

abbrev code_entry : Entry → entry_code.Entry
code_entry e = record { characters = e.characters; says = code_says e.says }

abbrev code_cursor : At → cursor_code.Cursor
code_cursor c = record { offset = c.offset; left = c.left }

abbrev code_asked_entry : Answer (Asked Entry) → AskedEntry
code_asked_entry (accepted (found e)) = Ok (Some (code_entry e))
code_asked_entry (accepted no_such_entry) = Ok None
code_asked_entry (refused n vs) = Err (code_refusal n)

abbrev code_quantity : Answer (Asked ℤ) → AskedQuantity
code_quantity (accepted (found z)) = Ok (Some z)
code_quantity (accepted no_such_entry) = Ok None
code_quantity (refused n vs) = Err (code_refusal n)

abbrev code_step : Answer (Asked Stepped) → Step
code_step (accepted (found x)) = Ok (Some (code_entry x.entry, code_cursor x.onward))
code_step (accepted no_such_entry) = Ok None
code_step (refused n vs) = Err (code_refusal n)

-- ---- there and back

says_back : (x : says_code.Says) → code_says (means_says x) ≡ x
says_back (says_code.TheVariants.Level p z l o n) = refl
says_back (says_code.TheVariants.LevelWithoutPrice z l o n) = refl
says_back (says_code.TheVariants.Price p) = refl
says_back (says_code.TheVariants.Size z) = refl
says_back (says_code.TheVariants.Both p z) = refl
says_back says_code.TheVariants.NoLimit = refl
says_back says_code.TheVariants.Unknown = refl

entry_back : (e : entry_code.Entry) → code_entry (means_entry e) ≡ e
entry_back e = λ i. record { characters = e.characters; says = says_back e.says i }

asked_entry_back : (r : AskedEntry) → code_asked_entry (means_asked_entry r) ≡ r
asked_entry_back (Ok (Some e)) = λ i. Ok (Some (entry_back e i))
asked_entry_back (Ok None) = refl
asked_entry_back (Err x) = ap Err (back_refusal x)

quantity_back : (r : AskedQuantity) → code_quantity (means_quantity r) ≡ r
quantity_back (Ok (Some z)) = refl
quantity_back (Ok None) = refl
quantity_back (Err x) = ap Err (back_refusal x)

cursor_back : (c : cursor_code.Cursor) → code_cursor (means_cursor c) ≡ c
cursor_back c = refl

step_back : (r : Step) → code_step (means_step r) ≡ r
step_back (Ok (Some x)) = λ i. Ok (Some (entry_back x.0 i, cursor_back x.1 i))
step_back (Ok None) = refl
step_back (Err x) = ap Err (back_refusal x)

-- ---- one answer

one : {A B : Type 0} (there : A → B) (back : B → A) → ((x : A) → back (there x) ≡ x) → {x y : A} → there x ≡ there y → x ≡ y
one there back h {x} {y} e = sym (h x) ∙ ap back e ∙ h y

pub one-asked-entry : (a b : AskedEntry) → means_asked_entry a ≡ means_asked_entry b → a ≡ b
one-asked-entry a b e = one means_asked_entry code_asked_entry asked_entry_back e

pub one-quantity : (a b : AskedQuantity) → means_quantity a ≡ means_quantity b → a ≡ b
one-quantity a b e = one means_quantity code_quantity quantity_back e

pub one-cursor : (a b : cursor_code.Cursor) → means_cursor a ≡ means_cursor b → a ≡ b
one-cursor a b e = one means_cursor code_cursor cursor_back e

pub one-step : (a b : Step) → means_step a ≡ means_step b → a ≡ b
one-step a b e = one means_step code_step step_back e
