-- Entries: by their type, in the bytes that hold them, and a step of the cursor.
-- Assumes nothing.
use Prim.Native.Nat.{ℕ, ◌+◌, ◌-◌, ◌*◌, ◌<◌, ◌≤◌, zero-le}
use mathlib.Core.Path.{◌≡◌, refl, ◌∙◌}
use mathlib.Core.Bool.{true}
use mathlib.Core.Logic.{◌⊎◌, inl, inr}
use mathlib.Core.List.{List, [], ◌∷◌}
use native.Mathlib.Omega.{arith}
use borrow.Author.Tests.{eq-eqb, ne_eqb, lt-ltb, le-ltb}
use lib.Dec.{leb, lit<}
use lib.ListN.{length}
use mir.Syntax.{w64}
use mir.Val.{to_z}
use Rattle.wire.specs.Answer.{accepted, refused, guard, and_then}
use Rattle.wire.specs.Bytes.{be_at, part}
use Rattle.wire.proofs.Be.{be_at-here}
use Rattle.layout.specs.Layout.{Message, heartbeat, channel_heartbeat, resend, statistics, security_status, snapshot, index, volume_index, order, trade, fields, Listed, listed, unlisted, named, Group, streams, switches, nothing, groups, entries, behind, Entries, entry_group, snapshot_entries, index_entries, size, ranges, values}
use Rattle.layout.specs.Group.{shown, next_offset, group_offset, offset_from, fit, group_ranges, judge_groups, group, groups_start, count, whole, in_range, judge_body}
use Rattle.layout.proofs.Walk.{Ahead, ahead, and_both, fit-fewer, fit-there, Good, good}
use Rattle.record.proofs.Choice.{named_as, named_back}
use Rattle.record.proofs.Had.{values-part}
use Rattle.record.specs.Asked.{found, no_such_entry, judge}
use Rattle.entries.specs.Entry.{At, entry_at, at_none, start, step_in, step, entry_listed, entry_of, quantity_at, quantity_listed, quantity_of}

-- ---- the types with entries, and those without

-- a type that has none, and one that is not listed
pub data NoEntries : Listed → Type 0 where
  bare : {m : Message} → behind m ≡ nothing → NoEntries (listed m)
  grouped : {m : Message} (g : Group) → behind m ≡ groups g → NoEntries (listed m)
  unknown : NoEntries unlisted

no_entries_by : (type : ℕ) (l : Listed) → named type ≡ l → (type ≡ 300111 → ⊥) → (type ≡ 309011 → ⊥) → NoEntries l
no_entries_by type (listed heartbeat) e s i = bare refl
no_entries_by type (listed channel_heartbeat) e s i = bare refl
no_entries_by type (listed resend) e s i = bare refl
no_entries_by type (listed statistics) e s i = grouped streams refl
no_entries_by type (listed security_status) e s i = grouped switches refl
no_entries_by type (listed snapshot) e s i = absurd (s (named_back snapshot type e))
no_entries_by type (listed index) e s i = absurd (i (named_back index type e))
no_entries_by type (listed volume_index) e s i = bare refl
no_entries_by type (listed order) e s i = bare refl
no_entries_by type (listed trade) e s i = bare refl
no_entries_by type unlisted e s i = unknown

pub no_entries : (type : ℕ) → (type ≡ 300111 → ⊥) → (type ≡ 309011 → ⊥) → NoEntries (named type)
no_entries type s i = no_entries_by type (named type) refl s i

module _ (s : List ℕ) where
  pub no_start : {l : Listed} → NoEntries l → start l s ≡ at_none
  unfolding start
  no_start (bare e) = rw e
  no_start (grouped g e) = rw e
  no_start unknown = refl

  pub starts : (type : ℕ) → (type ≡ 300111) ⊎ (type ≡ 309011) → start (named type) s ≡ record { offset = 69; left = be_at s 65 4 }
  unfolding start size
  starts type (inl e) = rw (named_as snapshot e)
  starts type (inr e) = rw (named_as index e)

  pub no_step : {l : Listed} (c : At) → NoEntries l → step l s c ≡ accepted no_such_entry
  unfolding step
  no_step c (bare e) = rw e
  no_step c (grouped g e) = rw e
  no_step c unknown = refl

  pub no_entry_lem : {l : Listed} (i : ℕ) → NoEntries l → entry_listed l s i ≡ no_such_entry
  no_entry_lem i (bare e) = rw e
  no_entry_lem i (grouped g e) = rw e
  no_entry_lem i unknown = refl

  pub no_quantity : {l : Listed} (i j : ℕ) → NoEntries l → quantity_listed l s i j ≡ no_such_entry
  no_quantity i j (bare e) = rw e
  no_quantity i j (grouped g e) = rw e
  no_quantity i j unknown = refl

-- ---- an entry in the part that holds its fields

pub entry_at-here : (e : Entries) (s : List ℕ) (p q : ℕ) → p + size (entry_group e).fields ≡ q → 2 ≤ size (entry_group e).fields → entry_at e (part p q s) 0 ≡ entry_at e s p
unfolding entry_at
entry_at-here e s p q h k =
    let z : p + 0 ≡ p = omega arith in
    let v : values (entry_group e).fields (part p q s) 0 ≡ values (entry_group e).fields s p =
    rw z at (values-part (entry_group e).fields s p (q - p) 0 (omega arith))
    in
    rw (v, be_at-here s p (q - p) 2 (omega arith))

-- ---- what is known at an offset that has an entry

pub record SnapshotEntry (s : List ℕ) (p : ℕ) : Type 0 where
  pub fields : p + 32 ≤ length s
  pub whole : p + 32 + 8 * be_at s (p + 28) 4 ≤ length s
  pub shows : shown snapshot_entries s p ≡ be_at s (p + 28) 4
  pub onward : next_offset snapshot_entries s p ≡ p + 32 + 8 * be_at s (p + 28) 4

shown-at : (s : List ℕ) (p : ℕ) → shown snapshot_entries s p ≡ be_at s (p + 28) 4
unfolding shown size
shown-at s p = let e : p + 32 - 4 ≡ p + 28 = omega arith in rw e

pub snapshot-entry : (s : List ℕ) (p : ℕ) → fit snapshot_entries s p 1 ≡ true → SnapshotEntry s p
unfolding size
snapshot-entry s p e =
    let a : Ahead snapshot_entries s p 1 = ahead snapshot_entries s p 1 (lit< tt) e in
    let m = shown-at s p in
    let n : next_offset snapshot_entries s p ≡ p + 32 + 8 * be_at s (p + 28) 4 = rw m in
    record { fields = a.fixed; whole = rw n at a.whole; shows = m; onward = n }

pub record IndexEntry (s : List ℕ) (p : ℕ) : Type 0 where
  pub fields : p + 10 ≤ length s
  pub shows : shown index_entries s p ≡ 0
  pub onward : next_offset index_entries s p ≡ p + 10

pub index-entry : (s : List ℕ) (p : ℕ) → fit index_entries s p 1 ≡ true → IndexEntry s p
unfolding size shown
index-entry s p e =
    let a : Ahead index_entries s p 1 = ahead index_entries s p 1 (lit< tt) e in
    record { fields = a.fixed; shows = refl; onward = omega arith }

-- ---- the entries of a body that is accepted

pub fits : (g : Group) (s : List ℕ) (p k : ℕ) → judge_groups g s p k ≡ accepted tt → fit g s p k ≡ true
unfolding judge_groups
fits g s p k j = (good (fit g s p k) (group_ranges g s p k) j).all

-- the groups of a body that is accepted
pub groups-accepted : (m : Message) (s : List ℕ) → judge_body m s ≡ accepted tt → judge_groups (group m) s (groups_start m) (count m s) ≡ accepted tt
unfolding judge_body judge_groups guard
groups-accepted m s j =
    let a : Good (whole m s) (in_range m s) = good (whole m s) (in_range m s) j in
    rw ((and_both (leb (groups_start m) (length s)) (fit (group m) s (groups_start m) (count m s)) a.all).1, (and_both (ranges (fields m) s 0) (group_ranges (group m) s (groups_start m) (count m s)) a.each).1)

pub snapshot_fits : (type : ℕ) (s : List ℕ) → type ≡ 300111 → judge type s ≡ accepted tt → fit snapshot_entries s 69 (be_at s 65 4) ≡ true
unfolding size
snapshot_fits type s e j = fits snapshot_entries s 69 (be_at s 65 4) (groups-accepted snapshot s (rw (named_as snapshot e) at j))

pub index_fits : (type : ℕ) (s : List ℕ) → type ≡ 309011 → judge type s ≡ accepted tt → fit index_entries s 69 (be_at s 65 4) ≡ true
unfolding size
index_fits type s e j = fits index_entries s 69 (be_at s 65 4) (groups-accepted index s (rw (named_as index e) at j))

-- where entry i stands, and that it is there
pub record Stands (g : Group) (s : List ℕ) (at i p : ℕ) : Type 0 where
  pub is : p ≡ group_offset g s at i
  pub there : fit g s p 1 ≡ true

pub stands : (g : Group) (s : List ℕ) (at i k p : ℕ) → fit g s at k ≡ true → i < k → p ≡ offset_from g s at i → Stands g s at i p
unfolding offset_from
stands g s at i k p f h e =
    let a : p ≡ group_offset g s at i = e ∙ rw (fit-fewer g s at i k (omega arith) f) in
    record { is = a; there = rw a (fit-fewer g s (group_offset g s at i) 1 (k - i) (omega arith) (fit-there g s at i k h f)) }

-- ---- asked for by position, after 4 and 5

module _ (type : ℕ) (s : List ℕ) where
  pub entry-refused : {n : ℕ} {vs : List ℕ} (i : ℕ) → judge type s ≡ refused n vs → entry_of type s i ≡ refused n vs
  unfolding entry_of and_then
  entry-refused i j = rw j

  pub entry-accepted : (i : ℕ) → judge type s ≡ accepted tt → entry_of type s i ≡ accepted (entry_listed (named type) s i)
  unfolding entry_of and_then
  entry-accepted i j = rw j

  pub quantity-refused : {n : ℕ} {vs : List ℕ} (i j : ℕ) → judge type s ≡ refused n vs → quantity_of type s i j ≡ refused n vs
  unfolding quantity_of and_then
  quantity-refused i j r = rw r

  pub quantity-accepted : (i j : ℕ) → judge type s ≡ accepted tt → quantity_of type s i j ≡ accepted (quantity_listed (named type) s i j)
  unfolding quantity_of and_then
  quantity-accepted i j r = rw r

-- ---- shown quantities

pub quantity-found : {s : List ℕ} {p j : ℕ} → SnapshotEntry s p → j < be_at s (p + 28) 4 → quantity_at snapshot_entries s p j ≡ found (to_z w64 (be_at s (p + 32 + 8 * j) 8))
unfolding size
quantity-found n h = rw (n.shows, lt-ltb _ _ h)

pub quantity-behind : {s : List ℕ} {p j : ℕ} → SnapshotEntry s p → be_at s (p + 28) 4 ≤ j → quantity_at snapshot_entries s p j ≡ no_such_entry
unfolding size
quantity-behind n h = rw (n.shows, le-ltb _ _ h)

pub quantity-none : {s : List ℕ} {p : ℕ} (j : ℕ) → IndexEntry s p → quantity_at index_entries s p j ≡ no_such_entry
quantity-none j n = rw (n.shows, le-ltb _ _ zero-le)

-- ---- a step

module _ (e : Entries) (s : List ℕ) (p k : ℕ) where
  pub step-none : k ≡ 0 → step_in (entries e) s (record { offset = p; left = k }) ≡ accepted no_such_entry
  unfolding guard
  step-none z = rw (eq-eqb _ _ z)

  pub step-refused : {n : ℕ} {vs : List ℕ} → (k ≡ 0 → ⊥) → judge_groups (entry_group e) s p 1 ≡ refused n vs → step_in (entries e) s (record { offset = p; left = k }) ≡ refused n vs
  unfolding guard and_then
  step-refused z j = rw (ne_eqb _ _ z, j)

  pub step-found : (k ≡ 0 → ⊥) → judge_groups (entry_group e) s p 1 ≡ accepted tt → step_in (entries e) s (record { offset = p; left = k }) ≡ accepted (found (record { entry = entry_at e s p; onward = record { offset = next_offset (entry_group e) s p; left = k - 1 } }))
  unfolding guard and_then
  step-found z j = rw (ne_eqb _ _ z, j)
