-- The body that the writer makes of numbers, texts and groups, and what it takes for them.
-- Assumes nothing.
use Rattle.std.specs.Prelude.{ℕ, ◌+◌, ◌^◌, ◌<◌, Bool, true, ◌&&◌, List, [], ◌∷◌, ◌++◌, eqb, ℤ, pos, length, take}
use Rattle.std.specs.Int.{w64}
use Rattle.std.proofs.Common.{SFits, of_z}
use Rattle.wire.specs.Bytes.{digits}
use Rattle.layout.specs.Kind.{Kind, text, Text, Form, unsigned, signed, written, form, bytes, characters, ranged}
use Rattle.layout.specs.Layout.{Message, fields, Behind, nothing, groups, entries, behind, size, texts_behind}
use Rattle.layout.specs.Group.{even, group_ranges, group}

-- ---- numbers

-- L1: a number that a field of a form can hold
pub data CanHold : Form → ℤ → Type 0 where
  plain : {w n : ℕ} → n < 256 ^ w → CanHold (unsigned w) (pos n)
  sign : {z : ℤ} → SFits w64 z → CanHold signed z

-- W1: a number for each fixed field of a layout, in its order; a text has none
pub data Numbers : List Kind → List ℤ → Type 0 where
  none : Numbers [] []
  number : {k : Kind} {ks : List Kind} {z : ℤ} {zs : List ℤ} → CanHold (form k) z → Numbers ks zs → Numbers (k ∷ ks) (z ∷ zs)
  words : {t : Text} {ks : List Kind} {zs : List ℤ} → Numbers ks zs → Numbers (text t ∷ ks) zs

-- ---- the bytes of a body

-- the bits of a number: itself, and 64 bits of one below 0
abbrev pub bits : ℤ → ℕ
bits z = of_z w64 z

-- the next of the numbers, and those behind it
abbrev pub first : List ℤ → ℤ
first [] = pos 0
first (z ∷ zs) = z

abbrev pub others : List ℤ → List ℤ
others [] = []
others (z ∷ zs) = zs

-- the numbers behind a field; a text has none
abbrev pub numbers_behind : Form → List ℤ → List ℤ
numbers_behind (unsigned w) zs = others zs
numbers_behind signed zs = others zs
numbers_behind (written t) zs = zs

-- W1: a field: the bytes of the next number, or the next of the texts
abbrev pub field_bytes : Form → List ℤ → List ℕ → List ℕ
field_bytes (unsigned w) zs ts = digits w (bits (first zs))
field_bytes signed zs ts = digits (bytes signed) (bits (first zs))
field_bytes (written t) zs ts = take (characters t) ts

-- the fields of a layout, one behind the other
unfoldable pub encode : List Kind → List ℤ → List ℕ → List ℕ
encode [] zs ts = []
encode (k ∷ ks) zs ts = field_bytes (form k) zs ts ++ encode ks (numbers_behind (form k) zs) (texts_behind (form k) ts)

-- W3: the body of a listed type: its fields, then its groups, and no tail
unfoldable pub body : Message → List ℤ → List ℕ → List ℕ → List ℕ
body m zs ts gs = encode (fields m) zs ts ++ gs

-- F2: how many bytes the body has
abbrev pub body_length : Message → List ℕ → ℕ
body_length m gs = size (fields m) + length gs

-- ---- texts and groups of the right length

-- how many bytes of texts a field takes
abbrev pub text_width : Form → ℕ
text_width (unsigned w) = 0
text_width signed = 0
text_width (written t) = characters t

-- W4: how many bytes all texts of a layout take
unfoldable pub text_size : List Kind → ℕ
text_size [] = 0
text_size (k ∷ ks) = text_width (form k) + text_size ks

-- the last of some numbers
abbrev pub last : List ℤ → ℤ
last [] = pos 0
last (z ∷ []) = z
last (z ∷ y ∷ zs) = last (y ∷ zs)

-- W4: how many groups the record's count says, the last of its numbers
abbrev pub count_in : Behind → List ℤ → ℕ
count_in nothing zs = 0
count_in (groups g) zs = bits (last zs)
count_in (entries e) zs = bits (last zs)

-- W4: how many groups a record of a type states
abbrev pub stated : Message → List ℤ → ℕ
stated m zs = count_in (behind m) zs

-- W4: texts and groups are just the type's; a type without them takes none
abbrev pub exact : Message → List ℤ → List ℕ → List ℕ → Bool
exact m zs ts gs = eqb (length ts) (text_size (fields m)) && even (group m) gs (stated m zs)

-- ---- numbers in range

-- W5: whether the numbers of the fixed fields are in range
unfoldable pub numbers_in : List Kind → List ℤ → Bool
numbers_in [] zs = true
numbers_in (k ∷ ks) zs = ranged k (bits (first zs)) && numbers_in ks (numbers_behind (form k) zs)

-- W5: with those of groups and shown quantities
abbrev pub all_in : Message → List ℤ → List ℕ → Bool
all_in m zs gs = numbers_in (fields m) zs && group_ranges (group m) gs 0 (stated m zs)
