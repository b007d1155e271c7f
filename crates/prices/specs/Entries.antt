-- What the C interface answers of an entry: what it says but for the price, and the price by itself.
-- Assumes nothing.
use Rattle.std.specs.Prelude.{ℕ, ℤ, pos, nat_abs}
use Rattle.wire.specs.Answer.{Answer, accepted, refused}
use Rattle.record.specs.Asked.{Asked, found, no_such_entry}
use Rattle.entries.specs.Entry.{Says, level, level_without_price, price, size, both, no_limit, unknown, Stepped}
use Rattle.entries.specs.Entry as entry_of
use Rattle.entries.specs.declared.cursor.Cursor.{Cursor}
use Rattle.wire.specs.Number.{plain, no_such_entry_number, no_price}
use Rattle.prices.specs.declared.entry.Thing.{Thing}
use Rattle.prices.specs.declared.entry.Thing.TheVariants as thing
use Rattle.prices.specs.declared.entry.Entry.{Entry}
use Rattle.prices.specs.declared.entry.EntryAnswer.{EntryAnswer}
use Rattle.prices.specs.declared.entry.StepAnswer.{StepAnswer}

-- ---- the price

-- C7: the price that an entry says, or none
pub data Price : Type 0 where
  here : ℤ → Price
  none : Price

abbrev pub price_of : Says → Price
price_of (level p z l o n) = here p
price_of (level_without_price z l o n) = none
price_of (price p) = here p
price_of (size z) = none
price_of (both p z) = here p
price_of no_limit = none
price_of unknown = none

-- C7: the answer's number
abbrev pub price_number : Price → ℕ
price_number (here p) = plain
price_number none = no_price

-- C7: what a lent number holds then: where there is no price, what it held
abbrev pub price_left : Price → ℤ → ℤ
price_left (here p) z = p
price_left none z = z

-- C7: the answer of a call for the price of an entry that is asked for
unfoldable pub pricing : Answer (Asked entry_of.Entry) → ℕ
pricing (accepted (found e)) = price_number (price_of e.says)
pricing (accepted no_such_entry) = no_such_entry_number
pricing (refused n vs) = n

-- C7: what the lent number holds then
unfoldable pub priced_left : Answer (Asked entry_of.Entry) → ℤ → ℤ
priced_left (accepted (found e)) z = price_left (price_of e.says) z
priced_left (accepted no_such_entry) z = z
priced_left (refused n vs) z = z

-- ---- all else

-- C6: an entry that is none: all zero
abbrev pub no_entry : Entry
no_entry = record { says = 0; characters = 0; level = 0; size = pos 0; order_count = pos 0; shown = 0 }

-- C6: the seven things, by number
abbrev pub says_level : ℕ
says_level = 1

abbrev pub says_level_without_price : ℕ
says_level_without_price = 2

abbrev pub says_price : ℕ
says_price = 3

abbrev pub says_size : ℕ
says_size = 4

abbrev pub says_both : ℕ
says_both = 5

abbrev pub says_no_limit : ℕ
says_no_limit = 6

abbrev pub says_unknown : ℕ
says_unknown = 7

-- the code's names for them
abbrev pub thing_number : Thing → ℕ
thing_number thing.Level = says_level
thing_number thing.LevelWithoutPrice = says_level_without_price
thing_number thing.Price = says_price
thing_number thing.Size = says_size
thing_number thing.Both = says_both
thing_number thing.NoLimit = says_no_limit
thing_number thing.Unknown = says_unknown

-- an entry of some type characters that says at most a size
abbrev pub bare : ℕ → ℕ → ℤ → Entry
bare says t z = record { says = says; characters = t; level = 0; size = z; order_count = pos 0; shown = 0 }

-- a level, but for its price
abbrev pub leveled : ℕ → ℕ → ℤ → ℤ → ℤ → ℤ → Entry
leveled says t z l o n =
    record { says = says; characters = t; level = nat_abs l; size = z; order_count = o; shown = nat_abs n }

-- C6: what an entry of some type characters says, but for its price
abbrev pub saying : ℕ → Says → Entry
saying t (level p z l o n) = leveled says_level t z l o n
saying t (level_without_price z l o n) = leveled says_level_without_price t z l o n
saying t (price p) = bare says_price t (pos 0)
saying t (size z) = bare says_size t z
saying t (both p z) = bare says_both t z
saying t no_limit = bare says_no_limit t (pos 0)
saying t unknown = bare says_unknown t (pos 0)

-- C6: an entry's struct
abbrev pub entry_from_c : entry_of.Entry → Entry
entry_from_c e = saying e.characters e.says

-- C6: an entry by position
unfoldable pub entry_answer : Answer (Asked entry_of.Entry) → EntryAnswer
entry_answer (accepted (found e)) = record { answer = plain; entry = entry_from_c e }
entry_answer (accepted no_such_entry) = record { answer = no_such_entry_number; entry = no_entry }
entry_answer (refused n vs) = record { answer = n; entry = no_entry }

-- C8: a step; without an entry the cursor stays
unfoldable pub step_answer : Answer (Asked Stepped) → Cursor → StepAnswer
step_answer (accepted (found x)) c =
    record {
      answer = plain;
      entry = entry_from_c x.entry;
      next = record { offset = x.onward.offset; left = x.onward.left };
    }
step_answer (accepted no_such_entry) c = record { answer = no_such_entry_number; entry = no_entry; next = c }
step_answer (refused n vs) c = record { answer = n; entry = no_entry; next = c }
