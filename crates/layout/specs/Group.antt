-- Groups behind a count and the quantities that each shows; where group i stands; and the judging of a body, 4 for the whole of it before 5.
-- Entries by position and the cursor build on offset_from, shown and judge_groups.
-- Assumes nothing.
use Rattle.std.specs.Prelude.{ℕ, zero, suc, ◌+◌, ◌-◌, ◌*◌, Bool, true, false, cond, not, ◌&&◌, List, [], leb, eqb, length, Option, Some, None}
use Rattle.wire.specs.Answer.{Answer, accepted, refused, guard}
use Rattle.wire.specs.Bytes.{be_at}
use Rattle.wire.specs.Refusal.{not_its_layout, out_of_range}
use Rattle.layout.specs.Kind.{quantity, group_count, width, ranged}
use Rattle.layout.specs.Layout.{Message, fields, Group, entry_group, Behind, nothing, groups, entries, behind, size, ranges}

-- ---- groups from an offset on

-- L5: how many quantities the group at an offset shows, by its last field
unfoldable pub shown : Group → List ℕ → ℕ → ℕ
shown g s at = cond g.shows (be_at s (at + size g.fields - width group_count) (width group_count)) 0

-- L5: where the quantities of a group stand, and where the group behind them does
abbrev pub shown_offset : Group → ℕ → ℕ
shown_offset g at = at + size g.fields

abbrev pub next_offset : Group → List ℕ → ℕ → ℕ
next_offset g s at = shown_offset g at + width quantity * shown g s at

-- L5, A1: where group i stands, from 0; and where i groups end
unfoldable pub group_offset : Group → List ℕ → ℕ → ℕ → ℕ
group_offset g s at zero = at
group_offset g s at (suc i) = group_offset g s (next_offset g s at) i

-- R4: whether the bytes have k groups, with their quantities
unfoldable pub fit : Group → List ℕ → ℕ → ℕ → Bool
fit g s at zero = true
fit g s at (suc k) =
    leb (shown_offset g at) (length s) && (leb (next_offset g s at) (length s) && fit g s (next_offset g s at) k)

-- N3: whether n quantities are in range
unfoldable pub quantities : ℕ → List ℕ → ℕ → Bool
quantities zero s at = true
quantities (suc n) s at = ranged quantity (be_at s at (width quantity)) && quantities n s (at + width quantity)

-- R5: whether the fields of k groups and their shown quantities are in range
unfoldable pub group_ranges : Group → List ℕ → ℕ → ℕ → Bool
group_ranges g s at zero = true
group_ranges g s at (suc k) =
    (ranges g.fields s at && quantities (shown g s at) s (shown_offset g at)) && group_ranges g s (next_offset g s at) k

-- J2: 4 where something is lacking, else 5 where something is out of range
abbrev pub verdict : Bool → Bool → Answer Unit
verdict there in_range =
    guard (not there) (refused not_its_layout []) (guard (not in_range) (refused out_of_range []) (accepted tt))

-- k groups, judged from an offset on
unfoldable pub judge_groups : Group → List ℕ → ℕ → ℕ → Answer Unit
judge_groups g s at k = verdict (fit g s at k) (group_ranges g s at k)

-- W4: whether bytes are k groups, shown quantities included, and nothing else
unfoldable pub even : Group → List ℕ → ℕ → Bool
even g s k = fit g s 0 k && eqb (group_offset g s 0 k) (length s)

-- W4: bytes that are to be k groups and nothing else
unfoldable pub judge_all : Group → List ℕ → ℕ → Answer Unit
judge_all g s k = verdict (even g s k) (group_ranges g s 0 k)

-- a verdict on groups, and the fields in front of them: 5 where one of these is out of range
abbrev pub also : Bool → Answer Unit → Answer Unit
also good (accepted u) = guard (not good) (refused out_of_range []) (accepted u)
also good (refused n vs) = refused n vs

-- where i groups end, if the bytes have them; else the offset from which they were looked for
unfoldable pub offset_from : Group → List ℕ → ℕ → ℕ → ℕ
offset_from g s at i = cond (fit g s at i) (group_offset g s at i) at

-- where k groups end, if the bytes have them
unfoldable pub end_of : Group → List ℕ → ℕ → ℕ → Option ℕ
end_of g s at k = cond (fit g s at k) (Some (group_offset g s at k)) None

-- ---- a body

-- a layout with nothing behind its fields has no groups
abbrev pub no_group : Group
no_group = record { fields = []; shows = false }

-- L5: the group of what follows a type's fields
abbrev pub group_behind : Behind → Group
group_behind nothing = no_group
group_behind (groups g) = g
group_behind (entries e) = entry_group e

-- L5: the count is the last of the fields
abbrev pub count_at : Behind → ℕ → List ℕ → ℕ
count_at nothing end s = 0
count_at (groups g) end s = be_at s (end - width group_count) (width group_count)
count_at (entries e) end s = be_at s (end - width group_count) (width group_count)

abbrev pub group : Message → Group
group m = group_behind (behind m)

-- L5: where the groups of a body start
abbrev pub groups_start : Message → ℕ
groups_start m = size (fields m)

-- L5: how many groups a body has
abbrev pub count : Message → List ℕ → ℕ
count m s = count_at (behind m) (groups_start m) s

-- L7: how many bytes a type's layout needs of a body, up to where its groups and their shown quantities end; the rest is tail
abbrev pub needs : Message → List ℕ → ℕ
needs m s = group_offset (group m) s (groups_start m) (count m s)

-- R4: whether a body has all that its layout needs
abbrev pub whole : Message → List ℕ → Bool
whole m s = leb (groups_start m) (length s) && fit (group m) s (groups_start m) (count m s)

-- R5: whether every field of a body is in range
abbrev pub in_range : Message → List ℕ → Bool
in_range m s = ranges (fields m) s 0 && group_ranges (group m) s (groups_start m) (count m s)

-- L7, J2: a body of a listed type; a tail plays no part
unfoldable pub judge_body : Message → List ℕ → Answer Unit
judge_body m s = verdict (whole m s) (in_range m s)
