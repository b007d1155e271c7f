-- What an entry says; entries by position, shown quantities and the cursor, over layout's offset_from, shown and judge_groups.
-- Assumes nothing.
use Rattle.std.specs.Prelude.{ℕ, ◌+◌, ◌-◌, ◌*◌, Bool, false, cond, List, [], ◌∷◌, eqb, ℤ, pos, negsuc, neg_ℤ, get_or}
use Rattle.wire.specs.Answer.{Answer, accepted, refused, guard, and_then}
use Rattle.wire.specs.Bytes.{be_at}
use Rattle.layout.specs.Kind.{among, entry_type, group_count, quantity, form, value_in, width}
use Rattle.layout.specs.Layout.{common_size, Listed, listed, unlisted, named, Group, Entries, of_snapshot, of_index, entry_group, Behind, nothing, groups, entries, behind, values}
use Rattle.layout.specs.Group.{shown, shown_offset, next_offset, group_offset, judge_groups, groups_start, count_at}
use Rattle.record.specs.Asked.{Asked, found, no_such_entry, below, judge}

-- ---- the two type characters, the first the higher byte

-- E1: a digit, filled up by a space
abbrev pub digit : ℕ → ℕ
digit d = (0x30 + d) * 256 + 0x20

-- E1: x and another character
abbrev pub x : ℕ → ℕ
x c = 0x78 * 256 + c

-- x and a digit
abbrev pub x_digit : ℕ → ℕ
x_digit d = x (0x30 + d)

abbrev pub xa : ℕ
xa = x 0x61

abbrev pub xb : ℕ
xb = x 0x62

abbrev pub xc : ℕ
xc = x 0x63

abbrev pub xd : ℕ
xd = x 0x64

abbrev pub xe : ℕ
xe = x 0x65

abbrev pub xf : ℕ
xf = x 0x66

abbrev pub xg : ℕ
xg = x 0x67

abbrev pub xj : ℕ
xj = x 0x6a

abbrev pub xk : ℕ
xk = x 0x6b

-- E2, E3: buy and sell levels
abbrev pub levels : List ℕ
levels = digit 0 ∷ digit 1 ∷ []

-- E4: the types of a snapshot that are a price whatever it is
abbrev pub prices : List ℕ
prices =
    digit 2 ∷ digit 4 ∷ digit 7 ∷ digit 8 ∷ digit 9 ∷ x_digit 1 ∷ x_digit 2 ∷ x_digit 5 ∷ x_digit 6 ∷ x_digit 7 ∷ x_digit 8 ∷ x_digit 9 ∷ xj ∷ xk ∷ []

-- E6: the types that are price and size
abbrev pub boths : List ℕ
boths = x_digit 3 ∷ x_digit 4 ∷ []

-- E8: the types of an index that are a price
abbrev pub index_prices : List ℕ
index_prices = digit 3 ∷ xa ∷ xb ∷ xc ∷ xd ∷ []

-- L4, L5: the entries start behind the common part and the count
abbrev pub entries_start : ℕ
entries_start = common_size + width group_count

-- ---- the seven things

-- E1: a level (price, size, level number, order count, shown count), the same without a price, a price, a size, price and size, no limit, unknown
pub data Says : Type 0 where
  level : ℤ → ℤ → ℤ → ℤ → ℤ → Says
  level_without_price : ℤ → ℤ → ℤ → ℤ → Says
  price : ℤ → Says
  size : ℤ → Says
  both : ℤ → ℤ → Says
  no_limit : Says
  unknown : Says

-- E5: the price of `xe` that is no limit; of `xf` it is the negative
abbrev pub no_limit_mark : ℕ
no_limit_mark = 999999999999900

-- whether two numbers are the same
abbrev pub same : ℤ → ℤ → Bool
same (pos m) (pos n) = eqb m n
same (pos m) (negsuc n) = false
same (negsuc m) (pos n) = false
same (negsuc m) (negsuc n) = eqb m n

-- the numbers of an entry's fields behind its type, in the layout's order
abbrev pub price_in : List ℤ → ℤ
price_in vs = get_or vs 1 (pos 0)

abbrev pub size_in : List ℤ → ℤ
size_in vs = get_or vs 2 (pos 0)

abbrev pub level_in : List ℤ → ℤ
level_in vs = get_or vs 3 (pos 0)

abbrev pub order_count_in : List ℤ → ℤ
order_count_in vs = get_or vs 4 (pos 0)

abbrev pub shown_count_in : List ℤ → ℤ
shown_count_in vs = get_or vs 5 (pos 0)

-- E2, E3: a level, which has no price where it is 0
abbrev pub level_said : List ℤ → Says
level_said vs =
    cond (same (price_in vs) (pos 0)) (level_without_price (size_in vs) (level_in vs) (order_count_in vs) (shown_count_in vs))
    (level (price_in vs) (size_in vs) (level_in vs) (order_count_in vs) (shown_count_in vs))

-- E4, E5: a price, but no limit where it is the mark
abbrev pub unless : ℤ → List ℤ → Says
unless mark vs = cond (same (price_in vs) mark) no_limit (price (price_in vs))

-- E1, E4, E6, E7, E8: which thing an entry says, by its two type characters
unfoldable pub says_in : Entries → ℕ → List ℤ → Says
says_in of_snapshot type vs =
    cond (among levels type) (level_said vs)
    (cond (among prices type) (price (price_in vs))
    (cond (eqb type xe) (unless (pos no_limit_mark) vs)
    (cond (eqb type xf) (unless (neg_ℤ (pos no_limit_mark)) vs)
    (cond (eqb type xg) (size (size_in vs))
    (cond (among boths type) (both (price_in vs) (size_in vs)) unknown)))))
says_in of_index type vs = cond (among index_prices type) (price (price_in vs)) unknown

-- E1: an entry: its two type characters, and what it says
pub record Entry : Type 0 where
  pub characters : ℕ
  pub says : Says

-- E1: the entry at an offset
unfoldable pub entry_at : Entries → List ℕ → ℕ → Entry
entry_at e s at =
    record {
      characters = be_at s at (width entry_type);
      says = says_in e (be_at s at (width entry_type)) (values (entry_group e).fields s at);
    }

-- ---- by position

-- A1: entry i, from 0
abbrev pub entry_in : Behind → ℕ → List ℕ → ℕ → Asked Entry
entry_in nothing end s i = no_such_entry
entry_in (groups g) end s i = no_such_entry
entry_in (entries e) end s i = below i (count_at (entries e) end s) (entry_at e s (group_offset (entry_group e) s end i))

-- A1: the same of a listed type or none
abbrev pub entry_listed : Listed → List ℕ → ℕ → Asked Entry
entry_listed (listed m) s i = entry_in (behind m) (groups_start m) s i
entry_listed unlisted s i = no_such_entry

-- A2: entry i of a body that is judged first
unfoldable pub entry_of : ℕ → List ℕ → ℕ → Answer (Asked Entry)
entry_of type s i = and_then (judge type s) (λ (u : Unit). accepted (entry_listed (named type) s i))

-- A4: shown quantity j of the group at an offset: the wire's count decides
abbrev pub quantity_at : Group → List ℕ → ℕ → ℕ → Asked ℤ
quantity_at g s at j =
    below j (shown g s at)
    (value_in (form quantity) (be_at s (shown_offset g at + width quantity * j) (width quantity)))

-- A4: shown quantity j of entry i, where there is one
abbrev pub of_found : {A B : Type 0} → Asked A → Asked B → Asked B
of_found (found x) y = y
of_found no_such_entry y = no_such_entry

-- A1: by what follows a type's fields
abbrev pub quantity_in : Behind → ℕ → List ℕ → ℕ → ℕ → Asked ℤ
quantity_in nothing end s i j = no_such_entry
quantity_in (groups g) end s i j = no_such_entry
quantity_in (entries e) end s i j =
    of_found (entry_in (entries e) end s i) (quantity_at (entry_group e) s (group_offset (entry_group e) s end i) j)

abbrev pub quantity_listed : Listed → List ℕ → ℕ → ℕ → Asked ℤ
quantity_listed (listed m) s i j = quantity_in (behind m) (groups_start m) s i j
quantity_listed unlisted s i j = no_such_entry

-- A2: quantity j of entry i of a body that is judged first
unfoldable pub quantity_of : ℕ → List ℕ → ℕ → ℕ → Answer (Asked ℤ)
quantity_of type s i j = and_then (judge type s) (λ (u : Unit). accepted (quantity_listed (named type) s i j))

-- ---- the cursor

-- A5: the offset of the next entry, and how many are left
pub record At : Type 0 where
  pub offset : ℕ
  pub left : ℕ

-- A5: a type without entries, or an unlisted one, has none left
abbrev pub at_none : At
at_none = record { offset = 0; left = 0 }

-- A5: before the first entry; nothing is judged
abbrev pub start_in : Behind → ℕ → List ℕ → At
start_in nothing end s = at_none
start_in (groups g) end s = at_none
start_in (entries e) end s = record { offset = end; left = count_at (entries e) end s }

-- A5: the same of a listed type or none
unfoldable pub start : Listed → List ℕ → At
start (listed m) s = start_in (behind m) (groups_start m) s
start unlisted s = at_none

-- A6: an entry, and the cursor behind it
pub record Stepped : Type 0 where
  pub entry : Entry
  pub onward : At

-- A6: the entry at a cursor, after 4 and 5 for its own fields and shown quantities; at 0 left there is none
abbrev pub step_in : Behind → List ℕ → At → Answer (Asked Stepped)
step_in nothing s c = accepted no_such_entry
step_in (groups g) s c = accepted no_such_entry
step_in (entries e) s c =
    guard (eqb c.left 0) (accepted no_such_entry)
    (and_then (judge_groups (entry_group e) s c.offset 1)
    (λ (u : Unit).
    accepted
    (found
    (record {
      entry = entry_at e s c.offset;
      onward = record { offset = next_offset (entry_group e) s c.offset; left = c.left - 1 };
    }))))

-- A6: the same of a listed type or none
unfoldable pub step : Listed → List ℕ → At → Answer (Asked Stepped)
step (listed m) s c = step_in (behind m) s c
step unlisted s c = accepted no_such_entry

-- the entry that a step answers, without the cursor
abbrev pub entry_found : Answer (Asked Stepped) → Answer (Asked Entry)
entry_found (accepted (found x)) = accepted (found x.entry)
entry_found (accepted no_such_entry) = accepted no_such_entry
entry_found (refused n vs) = refused n vs
