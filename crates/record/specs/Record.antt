-- What a type and a body read as: records, texts and groups. The promises of this crate cite these definitions.
-- Assumes nothing.
use Rattle.std.specs.Prelude.{ℕ, Bool, true, false, cond, List, [], leb, ℤ, length}
use Rattle.wire.specs.Answer.{Answer, accepted, refused}
use Rattle.wire.specs.Bytes.{part}
use Rattle.frame.specs.Framing.{header_width, body_limit, read, body_of}
use Rattle.frame.specs.declared.Frame.{Frame}
use Rattle.layout.specs.Layout.{Message, fields, Behind, nothing, groups, entries, behind, Listed, listed, unlisted, named, values, texts}
use Rattle.layout.specs.Group.{groups_start, count, count_at, group_offset, group, judge_body}
use Rattle.record.specs.Asked.{WithTexts, with_texts, once_accepted, Asked, found, no_such_entry, below}

-- L6, L8: a listed type with the numbers of its fixed fields, in the layout's order; or unknown, with its type
pub data Reading : Type 0 where
  known : Message → List ℤ → Reading
  unknown : ℕ → Reading

-- some bytes as a listed type, not judged; bytes that are not there count as none
abbrev pub numbers_as : Message → List ℕ → Reading
numbers_as m s = known m (values (fields m) s 0)

-- bytes that have the fields of a listed type; others count as none
unfoldable pub had : Message → List ℕ → List ℕ
had m s = cond (leb (groups_start m) (length s)) s []

-- L8, J2: the body of a listed type
unfoldable pub read_as : Message → List ℕ → WithTexts Reading
read_as m s = once_accepted (judge_body m s) (numbers_as m s) (texts (fields m) s 0)

-- L6: an unlisted type is unknown, whatever its body
abbrev pub read_listed : Listed → ℕ → List ℕ → WithTexts Reading
read_listed (listed m) type s = read_as m s
read_listed unlisted type s = with_texts (accepted (unknown type)) []

-- L6: the type's number alone chooses
unfoldable pub read_body : ℕ → List ℕ → WithTexts Reading
read_body type s = read_listed (named type) type s

-- F6, J1: the bytes of a frame: its body goes on to the reader of bodies; a refused frame has none
abbrev pub read_body_of : Answer Frame → List ℕ → WithTexts Reading
read_body_of (accepted f) s = read_body f.kind (body_of header_width (accepted f) s)
read_body_of (refused n vs) s = with_texts (refused n vs) []

-- J1: 1 to 3 of the frame, then 4 and 5 of its body
unfoldable pub read_frame : List ℕ → WithTexts Reading
read_frame s = read_body_of (read header_width body_limit s) s

-- whether a type is listed
abbrev pub is_listed : Listed → Bool
is_listed (listed m) = true
is_listed unlisted = false

-- ---- groups

-- A1, A3: group i: the numbers of its fields; its texts go with the answer
abbrev pub group_in : Behind → ℕ → List ℕ → ℕ → Asked (List ℤ)
group_in nothing end s i = no_such_entry
group_in (groups g) end s i = below i (count_at (groups g) end s) (values g.fields s (group_offset g s end i))
group_in (entries e) end s i = no_such_entry

-- A3: the texts of group i, if there is one
abbrev pub group_texts : Behind → ℕ → List ℕ → ℕ → Asked (List ℤ) → List ℕ
group_texts nothing end s i a = []
group_texts (groups g) end s i (found vs) = texts g.fields s (group_offset g s end i)
group_texts (groups g) end s i no_such_entry = []
group_texts (entries e) end s i a = []

-- A2: group i of a body that is judged first
unfoldable pub group_as : Message → List ℕ → ℕ → WithTexts (Asked (List ℤ))
group_as m s i =
    once_accepted (judge_body m s) (group_in (behind m) (groups_start m) s i)
    (group_texts (behind m) (groups_start m) s i (group_in (behind m) (groups_start m) s i))

abbrev pub group_listed : Listed → List ℕ → ℕ → WithTexts (Asked (List ℤ))
group_listed (listed m) s i = group_as m s i
group_listed unlisted s i = with_texts (accepted no_such_entry) []

-- A2: the same by the type's number
unfoldable pub group_of : ℕ → List ℕ → ℕ → WithTexts (Asked (List ℤ))
group_of type s i = group_listed (named type) s i

-- A7: the groups of an accepted body as a part of it, without the tail
abbrev pub part_accepted : Answer Unit → Message → List ℕ → List ℕ
part_accepted (accepted u) m s = part (groups_start m) (group_offset (group m) s (groups_start m) (count m s)) s
part_accepted (refused n vs) m s = []

unfoldable pub groups_as : Message → List ℕ → List ℕ
groups_as m s = part_accepted (judge_body m s) m s

abbrev pub groups_listed : Listed → List ℕ → List ℕ
groups_listed (listed m) s = groups_as m s
groups_listed unlisted s = []

-- A7: the same by the type's number
unfoldable pub groups_of : ℕ → List ℕ → List ℕ
groups_of type s = groups_listed (named type) s
