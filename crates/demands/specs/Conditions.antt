-- When a refusal is given: each condition by itself, over offsets, places and numbers.
-- Assumes nothing.
use Rattle.std.specs.Prelude.{ℕ, suc, ◌+◌, ◌-◌, ◌*◌, ◌≤◌, ◌<◌, ◌≡◌, false, cond, ◌⊎◌, List, [], ◌∷◌, ltb, ℤ, pos, length, take, get_or, ◌<ℤ◌}
use Rattle.wire.specs.Bytes.{be_at, checksum_of}
use Rattle.frame.specs.Framing.{body_limit}
use Rattle.streams.specs.Stream.{going, over}
use Rattle.streams.specs.declared.Stream.{Stream}
use Rattle.layout.specs.Kind.{Kind, quantity, form, width, ranged}
use Rattle.layout.specs.Layout.{Message, fields, Group, Listed, listed, unlisted, named, Behind, nothing, groups, entries, entry_group, behind}
use Rattle.layout.specs.Group.{shown, shown_offset, next_offset, group_offset, group, groups_start, count, count_at, needs}
use Rattle.entries.specs.Entry.{At}
use Rattle.bodies.specs.Body.{bits, first, numbers_behind, text_size, stated}
use Rattle.gaps.specs.Limits.{run_limit, most_number}
use Rattle.gaps.specs.Channel.{Event, tick, heartbeat, taken}
use Rattle.tracker.specs.declared.Tracker.{Tracker}
use Rattle.seats.specs.Places.{channel_limit}
use Rattle.seats.specs.Rules.{least_first}
use Rattle.demands.specs.Play.{channel_of, from_of}

-- ---- a frame, and its body

-- F2: L, the body length that the header states
abbrev pub L : List ℕ → ℕ
L s = be_at s 4 4

-- F8: what bytes lack that are no whole frame: of a header, else of the frame
abbrev pub lacks : List ℕ → ℕ
lacks s = cond (ltb (length s) 8) (8 - length s) (12 + L s - length s)

-- R3: the four bytes behind the body are not the sum of all before them
abbrev pub SumDiffers : List ℕ → Type 0
SumDiffers s = be_at s (8 + L s) 4 ≡ checksum_of (take (8 + L s) s) → ⊥

-- R2, S4: a header that is there and states too much
abbrev pub TooLongIn : List ℕ → Type 0
TooLongIn s = (8 ≤ length s) × (body_limit < L s)

-- R3, S4: a frame that is there and has another sum
abbrev pub WrongSumIn : List ℕ → Type 0
WrongSumIn s = (12 + L s ≤ length s) × SumDiffers s

-- S1: a stream that goes on
abbrev pub GoesOn : Stream → Type 0
GoesOn st = st.mark ≡ going

-- S6: a stream that was told to have ended, with bytes left over
abbrev pub LeftOver : Stream → Type 0
LeftOver st = (st.mark ≡ over) × (0 < st.held)

-- R4: a body with fewer bytes than its layout needs
abbrev pub BodyShort : Listed → List ℕ → Type 0
BodyShort (listed m) b = length b < needs m b
BodyShort unlisted b = ⊥

-- R5: one of a layout's fields, from an offset on, is out of range
pub data FieldOut : List Kind → List ℕ → ℕ → Type 0 where
  at_first : {k : Kind} {ks : List Kind} {s : List ℕ} {at : ℕ} → ranged k (be_at s at (width k)) ≡ false → FieldOut (k ∷ ks) s at
  further : {k : Kind} {ks : List Kind} {s : List ℕ} {at : ℕ} → FieldOut ks s (at + width k) → FieldOut (k ∷ ks) s at

-- R5: one of n quantities is
pub record QuantityOut (n : ℕ) (s : List ℕ) (at : ℕ) : Type 0 where
  pub j : ℕ
  pub below : j < n
  pub out : ranged quantity (be_at s (at + 8 * j) 8) ≡ false

-- R5: a field or a shown quantity of the group at an offset is
abbrev pub GroupOut : Group → List ℕ → ℕ → Type 0
GroupOut g s at = FieldOut g.fields s at ⊎ QuantityOut (shown g s at) s (shown_offset g at)

-- R5: something of one of k groups from an offset on is
pub record SomeGroupOut (g : Group) (s : List ℕ) (at k : ℕ) : Type 0 where
  pub i : ℕ
  pub below : i < k
  pub out : GroupOut g s (group_offset g s at i)

-- R5: something of a body is out of range
abbrev pub Strays : Listed → List ℕ → Type 0
Strays (listed m) b = FieldOut (fields m) b 0 ⊎ SomeGroupOut (group m) b (groups_start m) (count m b)
Strays unlisted b = ⊥

-- ---- what is asked for by position

-- what follows a type's fields, and where
abbrev pub behind_of : Listed → Behind
behind_of (listed m) = behind m
behind_of unlisted = nothing

abbrev pub fields_end : Listed → ℕ
fields_end (listed m) = groups_start m
fields_end unlisted = 0

-- A1, A3: the count of groups
abbrev pub groups_in : Behind → ℕ → List ℕ → ℕ
groups_in nothing end b = 0
groups_in (groups g) end b = count_at (groups g) end b
groups_in (entries e) end b = 0

-- A1: the same by the type's number
abbrev pub groups_counted : ℕ → List ℕ → ℕ
groups_counted type b = groups_in (behind_of (named type)) (fields_end (named type)) b

-- A1: the count of entries
abbrev pub entries_in : Behind → ℕ → List ℕ → ℕ
entries_in nothing end b = 0
entries_in (groups g) end b = 0
entries_in (entries e) end b = count_at (entries e) end b

-- A1: the same by the type's number
abbrev pub entry_count : ℕ → List ℕ → ℕ
entry_count type b = entries_in (behind_of (named type)) (fields_end (named type)) b

-- A4: the count of quantities that entry i shows
abbrev pub quantities_in : Behind → ℕ → List ℕ → ℕ → ℕ
quantities_in nothing end b i = 0
quantities_in (groups g) end b i = 0
quantities_in (entries e) end b i = shown (entry_group e) b (group_offset (entry_group e) b end i)

-- A4: the same by the type's number
abbrev pub shown_count : ℕ → List ℕ → ℕ → ℕ
shown_count type b i = quantities_in (behind_of (named type)) (fields_end (named type)) b i

-- A6: the entries left at a cursor
abbrev pub left_in : Behind → At → ℕ
left_in nothing c = 0
left_in (groups g) c = 0
left_in (entries e) c = c.left

-- A6: the same by the type's number
abbrev pub entries_left : ℕ → At → ℕ
entries_left type c = left_in (behind_of (named type)) c

-- A6: 4 and 5 for the entry that a cursor stands at, where one is left
abbrev pub EntryLacks : Behind → List ℕ → At → Type 0
EntryLacks nothing b c = ⊥
EntryLacks (groups g) b c = ⊥
EntryLacks (entries e) b c = (0 < c.left) × (length b < next_offset (entry_group e) b c.offset)

abbrev pub EntryStrays : Behind → List ℕ → At → Type 0
EntryStrays nothing b c = ⊥
EntryStrays (groups g) b c = ⊥
EntryStrays (entries e) b c = (0 < c.left) × GroupOut (entry_group e) b c.offset

-- ---- what the writer takes

-- W4: as many bytes of texts as the layout has, and groups that end with the count of them
abbrev pub Exactly : Message → List ℤ → List ℕ → List ℕ → Type 0
Exactly m zs ts gs = (length ts ≡ text_size (fields m)) × (length gs ≡ group_offset (group m) gs 0 (stated m zs))

-- W5, R5: one of the numbers of a layout's fixed fields is out of range
pub data NumberOut : List Kind → List ℤ → Type 0 where
  at_first : {k : Kind} {ks : List Kind} {zs : List ℤ} → ranged k (bits (first zs)) ≡ false → NumberOut (k ∷ ks) zs
  further : {k : Kind} {ks : List Kind} {zs : List ℤ} → NumberOut ks (numbers_behind (form k) zs) → NumberOut (k ∷ ks) zs

-- ---- a set-up

-- T1: a number that is not above the one before it
pub record Falls (numbers : List ℕ) : Type 0 where
  pub place : ℕ
  pub inside : suc place < length numbers
  pub falls : get_or numbers (suc place) 0 ≤ get_or numbers place 0

-- T1: a first number that is not from the least to the largest
pub record NoFirst (from : List ℤ) : Type 0 where
  pub place : ℕ
  pub inside : place < length from
  pub out : (get_or from place (pos 0) <ℤ pos least_first) ⊎ (pos most_number <ℤ get_or from place (pos 0))

-- ---- the rules that a tracker keeps, place by place

-- the first and the last number of run j of the channel at place i
abbrev pub first_of : Tracker → ℕ → ℕ → ℕ
first_of t i j = get_or t.first (i * run_limit + j) 0

abbrev pub last_of : Tracker → ℕ → ℕ → ℕ
last_of t i j = get_or t.last (i * run_limit + j) 0

-- T1, T2, T3, T4, R10: channels, first and highest numbers, marks, runs and unused places as the rules have them
pub record Keeps (t : Tracker) : Type 0 where
  pub one : 1 ≤ t.count
  pub eight : t.count ≤ channel_limit
  pub ascending : (i : ℕ) → suc i < t.count → get_or t.numbers i 0 < get_or t.numbers (suc i) 0
  pub from : (i : ℕ) → i < t.count → (least_first ≤ get_or t.from i 0) × (get_or t.from i 0 ≤ most_number)
  pub highest : (i : ℕ) → i < t.count → (get_or t.from i 0 ≤ get_or t.highest i 0 + 1) × (get_or t.highest i 0 ≤ most_number)
  pub mark : (i : ℕ) → i < channel_limit → get_or t.ended i 0 ≤ 1
  pub runs : (i : ℕ) → i < t.count → get_or t.counts i 0 ≤ run_limit
  pub inside : (i j : ℕ) → i < t.count → j < get_or t.counts i 0 → (get_or t.from i 0 ≤ first_of t i j) × (first_of t i j ≤ last_of t i j) × (last_of t i j ≤ get_or t.highest i 0)
  pub apart : (i j : ℕ) → i < t.count → suc j < get_or t.counts i 0 → last_of t i j + 1 < first_of t i (suc j)
  pub unused : (i : ℕ) → t.count ≤ i → i < channel_limit → (get_or t.numbers i 0 ≡ 0) × (get_or t.from i 0 ≡ 0) × (get_or t.highest i 0 ≡ 0) × (get_or t.ended i 0 ≡ 0) × (get_or t.counts i 0 ≡ 0)
  pub empty : (i j : ℕ) → i < channel_limit → get_or t.counts i 0 ≤ j → j < run_limit → (first_of t i j ≡ 0) × (last_of t i j ≡ 0)

-- ---- an arrival, and a request

-- R7: none of the tracker's channels has that number
abbrev pub NotIn : Tracker → ℕ → Type 0
NotIn t k = (i : ℕ) → i < t.count → get_or t.numbers i 0 ≡ k → ⊥

-- R8: a tick below 1, or a last number below 0
abbrev pub Low : Event → Type 0
Low (tick n) = n <ℤ pos 1
Low (heartbeat m end) = m <ℤ pos 0

-- T13: a tick below the channel's first number
abbrev pub Early : Tracker → ℕ → Event → Type 0
Early t k (tick n) = n <ℤ pos (from_of t k)
Early t k (heartbeat m end) = ⊥

-- R9, J4: the event is not before start, which is judged first, and the runs that channel k would have behind it are too many
abbrev pub Overfills : Tracker → ℕ → Event → Type 0
Overfills t k e = (Early t k e → ⊥) × (run_limit < length (taken (channel_of t k) e).next.runs)

-- R6: there is a run to ask for, and the output is shorter than its frame
abbrev pub RequestShort : Tracker → ℕ → ℕ → Type 0
RequestShort t k room = ((channel_of t k).runs ≡ [] → ⊥) × (room < 12 + 44)
