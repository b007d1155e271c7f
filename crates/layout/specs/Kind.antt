-- The kinds of fields by name, the width, the decimals and the range of each.
-- Assumes nothing.
use Rattle.std.specs.Prelude.{ℕ, ◌/◌, ◌%◌, Bool, true, false, ◌&&◌, ◌||◌, List, [], ◌∷◌, leb, eqb, ℤ, pos, negsuc, neg_ℤ}
use Rattle.std.specs.Int.Signed.{le_z}
use Rattle.std.specs.Int.{w64}
use Rattle.std.proofs.Common.{to_z}

-- L2: the texts, fields of more than one character
pub data Text : Type 0 where
  stream : Text
  security : Text
  source : Text
  phase : Text
  financial_status : Text
  news_id : Text
  reject_text : Text

-- L1, L2: the kinds of fields
pub data Kind : Type 0 where
  channel : Kind
  number : Kind
  last_number : Kind
  first_number : Kind
  bid_number : Kind
  offer_number : Kind
  order_price : Kind
  trade_price : Kind
  previous_close : Kind
  entry_price : Kind
  quantity : Kind
  amount : Kind
  trade_count : Kind
  order_count : Kind
  time : Kind
  side : Kind
  order_type : Kind
  execution : Kind
  entry_type : Kind
  level : Kind
  group_count : Kind
  stock_number : Kind
  switch_type : Kind
  yes_no : Kind
  resend_type : Kind
  status : Kind
  text : Text → Kind

-- ---- Widths

-- L2: how many characters a text has
abbrev pub characters : Text → ℕ
characters stream = 3
characters security = 8
characters source = 4
characters phase = 8
characters financial_status = 8
characters news_id = 8
characters reject_text = 16

-- texts are told apart by their order in this list
abbrev pub text_number : Text → ℕ
text_number stream = 0
text_number security = 1
text_number source = 2
text_number phase = 3
text_number financial_status = 4
text_number news_id = 5
text_number reject_text = 6

-- L1: how a field is held: a number without a sign in some bytes, a number of eight bytes with a sign, or characters
pub data Form : Type 0 where
  unsigned : ℕ → Form
  signed : Form
  written : Text → Form

-- L1: the form of each kind
abbrev pub form : Kind → Form
form channel = unsigned 2
form number = signed
form last_number = signed
form first_number = signed
form bid_number = signed
form offer_number = signed
form order_price = signed
form trade_price = signed
form previous_close = signed
form entry_price = signed
form quantity = signed
form amount = signed
form trade_count = signed
form order_count = signed
form time = signed
form side = unsigned 1
form order_type = unsigned 1
form execution = unsigned 1
form entry_type = unsigned 2
form level = unsigned 2
form group_count = unsigned 4
form stock_number = unsigned 4
form switch_type = unsigned 2
form yes_no = unsigned 2
form resend_type = unsigned 1
form status = unsigned 1
form (text t) = written t

-- how many bytes a form takes
abbrev pub bytes : Form → ℕ
bytes (unsigned w) = w
bytes signed = 8
bytes (written t) = characters t

-- L1: how many bytes a kind takes
abbrev pub width : Kind → ℕ
width k = bytes (form k)

-- the number that a field's bytes hold, from their number without a sign
abbrev pub value_in : Form → ℕ → ℤ
value_in (unsigned w) v = pos v
value_in signed v = to_z w64 v
value_in (written t) v = pos v

-- ---- Decimals

-- N1, N2, N3, N4, N11: how many decimals a kind has
abbrev pub decimals : Kind → ℕ
decimals order_price = 4
decimals trade_price = 4
decimals previous_close = 4
decimals entry_price = 6
decimals quantity = 2
decimals amount = 4
decimals trade_count = 0
decimals order_count = 0
decimals last_number = 0
decimals first_number = 0
decimals bid_number = 0
decimals offer_number = 0
decimals number = 0
decimals yes_no = 0
decimals resend_type = 0
decimals status = 0
decimals side = 0
decimals order_type = 0
decimals execution = 0
decimals time = 0
decimals channel = 0
decimals entry_type = 0
decimals level = 0
decimals group_count = 0
decimals stock_number = 0
decimals switch_type = 0
decimals (text t) = 0

-- ---- Ranges of fields

-- N1: the highest price of an order, a trade or a previous close
abbrev pub price_limit : ℕ
price_limit = 9999999999999

-- N2: the highest price of an entry
abbrev pub entry_price_limit : ℕ
entry_price_limit = 999999999999999999

-- N3: the largest quantity, size or volume
abbrev pub quantity_limit : ℕ
quantity_limit = 999999999999999

-- N4: the largest amount
abbrev pub amount_limit : ℕ
amount_limit = 999999999999999999

-- N7: the characters of sides, order types and execution types
abbrev pub char1 : ℕ
char1 = 0x31

abbrev pub char2 : ℕ
char2 = 0x32

abbrev pub char4 : ℕ
char4 = 0x34

abbrev pub char_f : ℕ
char_f = 0x46

abbrev pub char_g : ℕ
char_g = 0x47

abbrev pub char_u : ℕ
char_u = 0x55

-- N8: the parts of a time, by its decimal digits
abbrev pub year : ℕ → ℕ
year t = t / 10000000000000

abbrev pub month : ℕ → ℕ
month t = t / 100000000000 % 100

abbrev pub day : ℕ → ℕ
day t = t / 1000000000 % 100

abbrev pub hour : ℕ → ℕ
hour t = t / 10000000 % 100

abbrev pub minute : ℕ → ℕ
minute t = t / 100000 % 100

abbrev pub second : ℕ → ℕ
second t = t / 1000 % 100

-- from one number to another, both included
abbrev pub from : ℕ → ℕ → ℕ → Bool
from low high n = leb low n && leb n high

-- N8: a time has each part in its range, and none is below 0
unfoldable pub timely : ℤ → Bool
timely (pos t) =
    from 1 12 (month t)
    && (from 1 31 (day t)
    && (from 0 23 (hour t) && (from 0 59 (minute t) && (from 0 60 (second t) && from 0 9999 (year t)))))
timely (negsuc n) = false

-- one of some numbers
abbrev pub among : List ℕ → ℕ → Bool
among [] n = false
among (x ∷ xs) n = eqb n x || among xs n

-- what a range may be: any number; at least one; between two, both included; one of some characters; a time
pub data Range : Type 0 where
  free : Range
  at_least : ℤ → Range
  between : ℤ → ℤ → Range
  one_of : List ℕ → Range
  a_time : Range

-- whether a number is in a range
abbrev pub within : Range → ℤ → Bool
within free z = true
within (at_least low) z = le_z low z
within (between low high) z = le_z low z && le_z z high
within (one_of cs) (pos n) = among cs n
within (one_of cs) (negsuc n) = false
within a_time z = timely z

-- as far below 0 as above
abbrev pub around : ℕ → Range
around limit = between (neg_ℤ (pos limit)) (pos limit)

abbrev pub up_to : ℕ → Range
up_to limit = between (pos 0) (pos limit)

-- N1, N2, N3, N4, N5, N6, N7, N8, N9: the range of each kind
abbrev pub range : Kind → Range
range order_price = around price_limit
range trade_price = around price_limit
range previous_close = around price_limit
range entry_price = around entry_price_limit
range quantity = up_to quantity_limit
range amount = up_to amount_limit
range trade_count = at_least (pos 0)
range order_count = at_least (pos 0)
range last_number = at_least (pos 0)
range first_number = at_least (pos 0)
range bid_number = at_least (pos 0)
range offer_number = at_least (pos 0)
range number = at_least (pos 1)
range yes_no = up_to 1
range resend_type = between (pos 1) (pos 2)
range status = up_to 4
range side = one_of (char1 ∷ char2 ∷ char_g ∷ char_f ∷ [])
range order_type = one_of (char1 ∷ char2 ∷ char_u ∷ [])
range execution = one_of (char4 ∷ char_f ∷ [])
range time = a_time
range channel = free
range entry_type = free
range level = free
range group_count = free
range stock_number = free
range switch_type = free
range (text t) = free

-- N1, N2, N3, N4, N5, N6, N7, N8, N9, N10: whether the number that a field's bytes make, read without a sign, is in the field's range
unfoldable pub ranged : Kind → ℕ → Bool
ranged k v = within (range k) (value_in (form k) v)
