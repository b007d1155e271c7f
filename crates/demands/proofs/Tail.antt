-- Bytes behind those that a definition reads: it gives what it gives without them.
-- Assumes nothing.
use Prim.Native.Nat.{ℕ, zero, suc, ◌+◌, ◌-◌, ◌*◌, ◌<◌, ◌≤◌}
use mathlib.Core.Path.{◌≡◌, refl, ap}
use mathlib.Core.Bool.{Bool, true, false, cond}
use mathlib.Core.List.{List, [], ◌∷◌, ◌++◌}
use native.Mathlib.Omega.{arith}
use lib.Dec.{ltb}
use lib.IntN.{ℤ}
use lib.ListN.{length, drop, length-append, length-drop}
use lib.Seq.{take-append-le, drop-append-le}
use borrow.Author.Tests.{le-leb, ltb-true}
use Rattle.wire.specs.Answer.{accepted, guard}
use Rattle.wire.proofs.Be.{be_at-behind, part-behind}
use Rattle.layout.specs.Kind.{Kind, Form, unsigned, signed, written, form, bytes, width, characters}
use Rattle.layout.specs.Layout.{Message, heartbeat, channel_heartbeat, resend, statistics, security_status, snapshot, index, volume_index, order, trade, fields, Group, Behind, nothing, groups, entries, behind, Entries, of_snapshot, of_index, entry_group, size, ranges, value_at, values, text_at, texts}
use Rattle.layout.specs.Group.{shown, shown_offset, next_offset, group_offset, fit, quantities, group_ranges, group_behind, count_at, group, groups_start, count, whole, in_range, judge_body, judge_groups}
use Rattle.layout.proofs.Walk.{and_both, ahead, fit-fewer, fields-there, fit-there, good, has_all, offset-within, offset-behind}
use Rattle.record.specs.Asked.{Asked, found, no_such_entry, below}
use Rattle.record.specs.Record.{read_as, group_in, group_texts, group_as, groups_as}
use Rattle.entries.specs.Entry.{entry_at, entry_in, quantity_at, quantity_in, of_found, start_in}

pred_is : (k : ℕ) → suc k - 1 ≡ k
pred_is k = omega arith

-- ---- fields and groups from an offset on

module _ (s t : List ℕ) where
  ranges-tail : (l : List Kind) (at : ℕ) → at + size l ≤ length s → ranges l (s ++ t) at ≡ ranges l s at
  unfolding ranges size
  ranges-tail [] at h = refl
  ranges-tail (k ∷ ks) at h = rw (be_at-behind s t at (width k) (omega arith), ranges-tail ks (at + width k) (omega arith))

  value_tail : (f : Form) (at : ℕ) → at + bytes f ≤ length s → value_at f (s ++ t) at ≡ value_at f s at
  value_tail (unsigned w) at h = rw (be_at-behind s t at w h)
  value_tail signed at h = rw (be_at-behind s t at 8 h)
  value_tail (written x) at h = refl

  values-tail : (l : List Kind) (at : ℕ) → at + size l ≤ length s → values l (s ++ t) at ≡ values l s at
  unfolding values size
  values-tail [] at h = refl
  values-tail (k ∷ ks) at h = rw (value_tail (form k) at (omega arith), values-tail ks (at + width k) (omega arith))

  text-tail : (f : Form) (at : ℕ) → at + bytes f ≤ length s → text_at f (s ++ t) at ≡ text_at f s at
  text-tail (unsigned w) at h = refl
  text-tail signed at h = refl
  text-tail (written x) at h =
      let i : at ≤ length s = omega arith in
      let j : characters x ≤ length (drop at s) = omega (arith, length-drop at s) in
      rw (drop-append-le, take-append-le)

  texts-tail : (l : List Kind) (at : ℕ) → at + size l ≤ length s → texts l (s ++ t) at ≡ texts l s at
  unfolding texts size
  texts-tail [] at h = refl
  texts-tail (k ∷ ks) at h = rw (text-tail (form k) at (omega arith), texts-tail ks (at + width k) (omega arith))

  quantities-tail : (n at : ℕ) → at + 8 * n ≤ length s → quantities n (s ++ t) at ≡ quantities n s at
  unfolding quantities
  quantities-tail zero at h = refl
  quantities-tail (suc n) at h = rw (be_at-behind s t at 8 (omega arith), quantities-tail n (at + 8) (omega arith))

  module _ (g : Group) (c : g.shows ≡ true → 4 ≤ size g.fields) where
    shown_by : (b : Bool) → g.shows ≡ b → (at : ℕ) → at + size g.fields ≤ length s → shown g (s ++ t) at ≡ shown g s at
    unfolding shown
    shown_by true e at h = rw (e, be_at-behind s t (at + size g.fields - 4) 4 (omega (arith, c e)))
    shown_by false e at h = rw e

    shown-tail : (at : ℕ) → at + size g.fields ≤ length s → shown g (s ++ t) at ≡ shown g s at
    shown-tail at h = shown_by g.shows refl at h

    next-tail : (at : ℕ) → at + size g.fields ≤ length s → next_offset g (s ++ t) at ≡ next_offset g s at
    next-tail at h = rw (shown-tail at h)

    offset-tail : (at i : ℕ) → fit g s at i ≡ true → group_offset g (s ++ t) at i ≡ group_offset g s at i
    unfolding group_offset
    offset-tail at zero e = refl
    offset-tail at (suc i) e =
        let n = ahead g s at (suc i) (omega arith) e in
        rw (next-tail at n.fixed) (offset-tail (next_offset g s at) i (rw (pred_is i) at n.rest))

    fit-tail : (at k : ℕ) → fit g s at k ≡ true → fit g (s ++ t) at k ≡ true
    unfolding fit
    fit-tail at zero e = refl
    fit-tail at (suc k) e =
        let n = ahead g s at (suc k) (omega arith) e in
        let l = length-append s t in
        rw (next-tail at n.fixed, le-leb (shown_offset g at) (length (s ++ t)) (omega arith), le-leb (next_offset g s at) (length (s ++ t)) (omega arith))
        (fit-tail (next_offset g s at) k (rw (pred_is k) at n.rest))

    group_ranges-tail : (at k : ℕ) → fit g s at k ≡ true → group_ranges g (s ++ t) at k ≡ group_ranges g s at k
    unfolding group_ranges
    group_ranges-tail at zero e = refl
    group_ranges-tail at (suc k) e =
        let n = ahead g s at (suc k) (omega arith) e in
        rw (
          shown-tail at n.fixed,
          ranges-tail g.fields at n.fixed,
          quantities-tail (shown g s at) (shown_offset g at) n.whole,
          group_ranges-tail (next_offset g s at) k (rw (pred_is k) at n.rest),
        )

-- ---- a body

-- what counts shown quantities has its count within its fields
counts : (m : Message) → (group m).shows ≡ true → 4 ≤ size (group m).fields
unfolding size
counts heartbeat e = let z : ◌≡◌ {A = ℕ} 0 1 = cc in absurd (omega arith)
counts channel_heartbeat e = let z : ◌≡◌ {A = ℕ} 0 1 = cc in absurd (omega arith)
counts resend e = let z : ◌≡◌ {A = ℕ} 0 1 = cc in absurd (omega arith)
counts statistics e = omega arith
counts security_status e = omega arith
counts snapshot e = omega arith
counts index e = omega arith
counts volume_index e = let z : ◌≡◌ {A = ℕ} 0 1 = cc in absurd (omega arith)
counts order e = let z : ◌≡◌ {A = ℕ} 0 1 = cc in absurd (omega arith)
counts trade e = let z : ◌≡◌ {A = ℕ} 0 1 = cc in absurd (omega arith)

count-tail : (m : Message) (s t : List ℕ) → groups_start m ≤ length s → count m (s ++ t) ≡ count m s
unfolding size
count-tail heartbeat s t h = refl
count-tail channel_heartbeat s t h = refl
count-tail resend s t h = refl
count-tail statistics s t h = be_at-behind s t 10 4 (omega arith)
count-tail security_status s t h = be_at-behind s t 30 4 (omega arith)
count-tail snapshot s t h = be_at-behind s t 65 4 (omega arith)
count-tail index s t h = be_at-behind s t 65 4 (omega arith)
count-tail volume_index s t h = refl
count-tail order s t h = refl
count-tail trade s t h = refl

-- what is asked for below a count is the same where it is the same for each position below the count
below-same : {A : Type 0} (i n : ℕ) (x y : A) → (i < n → x ≡ y) → below i n x ≡ below i n y
below-same {A} i n x y e = by (ltb i n) refl where
  by : (b : Bool) → ltb i n ≡ b → cond b (found x) no_such_entry ≡ cond b (found y) no_such_entry
  by true h = ap found (e (ltb-true i n h))
  by false h = refl

-- what follows a body's fields, where as many fit as its count says
module _ (s t : List ℕ) (end : ℕ) where
  entry-tail : (e : Entries) (at : ℕ) → at + size (entry_group e).fields ≤ length s → entry_at e (s ++ t) at ≡ entry_at e s at
  unfolding entry_at size
  entry-tail of_snapshot at h = rw (be_at-behind s t at 2 (omega arith), values-tail s t (entry_group of_snapshot).fields at h)
  entry-tail of_index at h = rw (be_at-behind s t at 2 (omega arith), values-tail s t (entry_group of_index).fields at h)

  module _ (h : Behind) (c : (group_behind h).shows ≡ true → 4 ≤ size (group_behind h).fields) (n : count_at h end (s ++ t) ≡ count_at h end s) (f : fit (group_behind h) s end (count_at h end s) ≡ true) where
    fits : (i : ℕ) → i < count_at h end s → fit (group_behind h) s end i ≡ true
    fits i k = fit-fewer (group_behind h) s end i (count_at h end s) (omega arith) f

    there : (i : ℕ) → i < count_at h end s → group_offset (group_behind h) s end i + size (group_behind h).fields ≤ length s
    there i k = fields-there (group_behind h) s end i (count_at h end s) k f

    stands : (i : ℕ) → i < count_at h end s → group_offset (group_behind h) (s ++ t) end i ≡ group_offset (group_behind h) s end i
    stands i k = offset-tail s t (group_behind h) c end i (fits i k)

module _ (m : Message) (s t : List ℕ) (j : judge_body m s ≡ accepted tt) where
  pub judged-tail : judge_body m (s ++ t) ≡ accepted tt
  unfolding judge_body guard
  judged-tail =
      let w = has_all m s j in
      let g = good (whole m s) (in_range m s) j in
      let r = and_both (ranges (fields m) s 0) (group_ranges (group m) s (groups_start m) (count m s)) g.each in
      let l = length-append s t in
      rw (
        count-tail m s t w.long,
        le-leb (groups_start m) (length (s ++ t)) (omega arith),
        fit-tail s t (group m) (counts m) (groups_start m) (count m s) w.groups,
        ranges-tail s t (fields m) 0 (omega arith),
        group_ranges-tail s t (group m) (counts m) (groups_start m) (count m s) w.groups,
        r.0,
        r.1,
      )

  pub groups-tail : groups_as m (s ++ t) ≡ groups_as m s
  unfolding groups_as
  groups-tail =
      let w = has_all m s j in
      rw (judged-tail, j, count-tail m s t w.long, offset-tail s t (group m) (counts m) (groups_start m) (count m s) w.groups)
      (part-behind (groups_start m) (group_offset (group m) s (groups_start m) (count m s)) s t (offset-behind (group m) s (groups_start m) (count m s)) (offset-within (group m) s (groups_start m) (count m s) w.long w.groups))

  pub read-tail : read_as m (s ++ t) ≡ read_as m s
  unfolding read_as
  read-tail =
      let w = has_all m s j in
      rw (judged-tail, j, values-tail s t (fields m) 0 (omega arith), texts-tail s t (fields m) 0 (omega arith))

-- ---- groups, entries and quantities, by what follows the fields

module _ (s t : List ℕ) (end i : ℕ) where
  group-tail :
      (h : Behind) → ((group_behind h).shows ≡ true → 4 ≤ size (group_behind h).fields) → count_at h end (s ++ t) ≡ count_at h end s →
      fit (group_behind h) s end (count_at h end s) ≡ true → group_in h end (s ++ t) i ≡ group_in h end s i
  group-tail nothing c n f = refl
  group-tail (groups g) c n f =
      rw n
      (below-same i (count_at (groups g) end s) _ _
      (λ k. rw (stands s t end (groups g) c n f i k, values-tail s t g.fields (group_offset g s end i) (there s t end (groups g) c n f i k))))
  group-tail (entries e) c n f = refl

  words_by :
      (g : Group) (c : g.shows ≡ true → 4 ≤ size g.fields) (n : count_at (groups g) end (s ++ t) ≡ count_at (groups g) end s)
      (f : fit g s end (count_at (groups g) end s) ≡ true) (b : Bool) → ltb i (count_at (groups g) end s) ≡ b → (vs : List ℤ) →
      group_texts (groups g) end (s ++ t) i (cond b (found vs) no_such_entry) ≡ group_texts (groups g) end s i (cond b (found vs) no_such_entry)
  words_by g c n f true b vs =
      let k = ltb-true i (count_at (groups g) end s) b in
      rw (stands s t end (groups g) c n f i k, texts-tail s t g.fields (group_offset g s end i) (there s t end (groups g) c n f i k))
  words_by g c n f false b vs = refl

  words_tail :
      (h : Behind) → ((group_behind h).shows ≡ true → 4 ≤ size (group_behind h).fields) → count_at h end (s ++ t) ≡ count_at h end s →
      fit (group_behind h) s end (count_at h end s) ≡ true →
      group_texts h end (s ++ t) i (group_in h end s i) ≡ group_texts h end s i (group_in h end s i)
  words_tail nothing c n f = refl
  words_tail (groups g) c n f = words_by g c n f (ltb i (count_at (groups g) end s)) refl (values g.fields s (group_offset g s end i))
  words_tail (entries e) c n f = refl

  entries-tail :
      (h : Behind) → ((group_behind h).shows ≡ true → 4 ≤ size (group_behind h).fields) → count_at h end (s ++ t) ≡ count_at h end s →
      fit (group_behind h) s end (count_at h end s) ≡ true → entry_in h end (s ++ t) i ≡ entry_in h end s i
  entries-tail nothing c n f = refl
  entries-tail (groups g) c n f = refl
  entries-tail (entries e) c n f =
      rw n
      (below-same i (count_at (entries e) end s) _ _
      (λ k. rw (stands s t end (entries e) c n f i k) (entry-tail s t end e (group_offset (entry_group e) s end i) (there s t end (entries e) c n f i k))))

  -- a shown quantity of an entry that is there
  quantity-there :
      (g : Group) → (g.shows ≡ true → 4 ≤ size g.fields) → (j at : ℕ) → at + size g.fields ≤ length s → next_offset g s at ≤ length s →
      quantity_at g (s ++ t) at j ≡ quantity_at g s at j
  quantity-there g c j at h w =
      rw (shown-tail s t g c at h)
      (below-same j (shown g s at) _ _ (λ k. rw (be_at-behind s t (shown_offset g at + 8 * j) 8 (omega arith))))

  of_found_lem : {A B : Type 0} (x : A) (y z : Asked B) (b : Bool) → (b ≡ true → y ≡ z) → of_found (cond b (found x) no_such_entry) y ≡ of_found (cond b (found x) no_such_entry) z
  of_found_lem x y z true e = e refl
  of_found_lem x y z false e = refl

  quantities_in_lem :
      (h : Behind) → ((group_behind h).shows ≡ true → 4 ≤ size (group_behind h).fields) → count_at h end (s ++ t) ≡ count_at h end s →
      fit (group_behind h) s end (count_at h end s) ≡ true → (j : ℕ) → quantity_in h end (s ++ t) i j ≡ quantity_in h end s i j
  quantities_in_lem nothing c n f j = refl
  quantities_in_lem (groups g) c n f j = refl
  quantities_in_lem (entries e) c n f j =
      rw (entries-tail (entries e) c n f)
      (of_found_lem (entry_at e s (group_offset (entry_group e) s end i)) _ _ (ltb i (count_at (entries e) end s))
      (λ b.
      let k = ltb-true i (count_at (entries e) end s) b in
      let p = ahead (entry_group e) s (group_offset (entry_group e) s end i) (count_at (entries e) end s - i) (omega arith) (fit-there (entry_group e) s end i (count_at (entries e) end s) k f) in
      rw (stands s t end (entries e) c n f i k) (quantity-there (entry_group e) c j (group_offset (entry_group e) s end i) p.fixed p.whole)))

module _ (m : Message) (s t : List ℕ) (a : judge_body m s ≡ accepted tt) (i : ℕ) where
  pub group_as_tail : group_as m (s ++ t) i ≡ group_as m s i
  unfolding group_as
  group_as_tail =
      let w = has_all m s a in
      let n = count-tail m s t w.long in
      rw (judged-tail m s t a, a, group-tail s t (groups_start m) i (behind m) (counts m) n w.groups, words_tail s t (groups_start m) i (behind m) (counts m) n w.groups)

  pub entry_in_tail : entry_in (behind m) (groups_start m) (s ++ t) i ≡ entry_in (behind m) (groups_start m) s i
  entry_in_tail = let w = has_all m s a in entries-tail s t (groups_start m) i (behind m) (counts m) (count-tail m s t w.long) w.groups

  pub quantity_in_tail : (j : ℕ) → quantity_in (behind m) (groups_start m) (s ++ t) i j ≡ quantity_in (behind m) (groups_start m) s i j
  quantity_in_tail j = let w = has_all m s a in quantities_in_lem s t (groups_start m) i (behind m) (counts m) (count-tail m s t w.long) w.groups j

-- ---- the entry at a cursor

entry-counts : (e : Entries) → (entry_group e).shows ≡ true → 4 ≤ size (entry_group e).fields
unfolding size
entry-counts of_snapshot h = omega arith
entry-counts of_index h = omega arith

pub record SameEntry (e : Entries) (s t : List ℕ) (at : ℕ) : Type 0 where
  pub judged : judge_groups (entry_group e) (s ++ t) at 1 ≡ accepted tt
  pub entry : entry_at e (s ++ t) at ≡ entry_at e s at
  pub behind : next_offset (entry_group e) (s ++ t) at ≡ next_offset (entry_group e) s at

pub same-entry : (e : Entries) (s t : List ℕ) (at : ℕ) → judge_groups (entry_group e) s at 1 ≡ accepted tt → SameEntry e s t at
unfolding judge_groups guard
same-entry e s t at j =
    let g = entry_group e in
    let w = good (fit g s at 1) (group_ranges g s at 1) j in
    let n = ahead g s at 1 (omega arith) w.all in
    record {
      judged = rw (fit-tail s t g (entry-counts e) at 1 w.all, group_ranges-tail s t g (entry-counts e) at 1 w.all, w.each);
      entry = entry-tail s t 0 e at n.fixed;
      behind = next-tail s t g (entry-counts e) at n.fixed;
    }

-- ---- the cursor before the first entry

start_by : (h : Behind) (end : ℕ) (s t : List ℕ) → count_at h end (s ++ t) ≡ count_at h end s → start_in h end (s ++ t) ≡ start_in h end s
start_by nothing end s t e = refl
start_by (groups g) end s t e = refl
start_by (entries x) end s t e = rw e

pub start-tail : (m : Message) (s t : List ℕ) → judge_body m s ≡ accepted tt → start_in (behind m) (groups_start m) (s ++ t) ≡ start_in (behind m) (groups_start m) s
start-tail m s t j = start_by (behind m) (groups_start m) s t (count-tail m s t (has_all m s j).long)
