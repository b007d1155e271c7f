-- On an accepted body, step i from the start cursor is entry i by position.
-- Assumes nothing.
use Prim.Native.Nat.{ℕ, zero, suc, ◌-◌, zero-le}
use mathlib.Core.Path.{◌≡◌, refl, ap, sym, ◌∙◌}
use mathlib.Core.Bool.{true, ◌&&◌}
use mathlib.Core.List.{List}
use native.Mathlib.Omega.{arith}
use borrow.Author.Tests.{lt-ltb, le-ltb}
use lib.Dec.{lit<, leb-suc-suc}
use Rattle.wire.specs.Answer.{Answer, accepted, refused, guard, and_then}
use Rattle.layout.specs.Layout.{Message, Listed, listed, unlisted, named, Group, Behind, nothing, groups, entries, behind, Entries, entry_group, ranges}
use Rattle.layout.specs.Group.{shown, shown_offset, next_offset, group_offset, fit, quantities, group_ranges, judge_groups, groups_start, count_at, judge_body}
use Rattle.layout.proofs.Walk.{and_both, fit-fewer, ahead, group_ranges-step, group_ranges-none, Good, good}
use Rattle.record.specs.Asked.{Asked, found, no_such_entry, below, judge_listed, judge}
use Rattle.entries.specs.Entry.{Entry, entry_at, entry_listed, entry_of, At, Stepped, start, step_in, step, entry_found}
use Rattle.entries.proofs.Entries.{NoEntries, bare, grouped, unknown, no_step, no_entry_lem, groups-accepted, step-none, step-found}

-- ---- step after step

-- from what a step answers on to the cursor behind its entry, if it found one
abbrev pub on_from : Answer (Asked Stepped) → (At → Answer (Asked Stepped)) → Answer (Asked Stepped)
on_from (accepted (found x)) go = go x.onward
on_from (accepted no_such_entry) go = accepted no_such_entry
on_from (refused n vs) go = refused n vs

-- step i from a cursor on, from 0
unfoldable pub step_after : Listed → List ℕ → ℕ → At → Answer (Asked Stepped)
step_after l s zero c = step l s c
step_after l s (suc i) c = on_from (step l s c) (step_after l s i)

pred_is : (k : ℕ) → suc k - 1 ≡ k
pred_is k = omega arith

-- ---- groups that are accepted together are accepted one by one

module _ (g : Group) (s : List ℕ) (p k : ℕ) (j : judge_groups g s p (suc k) ≡ accepted tt) where
  all : Good (fit g s p (suc k)) (group_ranges g s p (suc k))
  unfolding judge_groups
  all = good (fit g s p (suc k)) (group_ranges g s p (suc k)) j

  ranged : ((ranges g.fields s p && quantities (shown g s p) s (shown_offset g p)) ≡ true) × (group_ranges g s (next_offset g s p) (suc k - 1) ≡ true)
  ranged =
      and_both (ranges g.fields s p && quantities (shown g s p) s (shown_offset g p)) (group_ranges g s (next_offset g s p) (suc k - 1))
      (sym (group_ranges-step g s p (suc k) (omega arith)) ∙ all.each)

  pub first-accepted : judge_groups g s p 1 ≡ accepted tt
  unfolding judge_groups guard
  first-accepted =
      rw (fit-fewer g s p 1 (suc k) (omega arith) all.all, group_ranges-step g s p 1 (lit< tt), ranged.0, group_ranges-none g s (next_offset g s p) 0 zero-le)

  pub rest_accepted : judge_groups g s (next_offset g s p) k ≡ accepted tt
  unfolding judge_groups guard
  rest_accepted =
      rw (rw (pred_is k) at (ahead g s p (suc k) (omega arith) all.all).rest, rw (pred_is k) at ranged.1)

-- ---- from a cursor before k entries that are accepted

below_more : (i k : ℕ) (x : Entry) → below (suc i) (suc k) x ≡ below i k x
below_more i k x = rw (leb-suc-suc (suc i) k)

module _ (m : Message) (e : Entries) (b : behind m ≡ entries e) (s : List ℕ) where
  step_is : (c : At) → step (listed m) s c ≡ step_in (entries e) s c
  unfolding step
  step_is c = rw b

  from : (i p k : ℕ) → judge_groups (entry_group e) s p k ≡ accepted tt → entry_found (step_after (listed m) s i (record { offset = p; left = k })) ≡ accepted (below i k (entry_at e s (group_offset (entry_group e) s p i)))
  unfolding step_after group_offset
  from zero p zero j = rw (step_is (record { offset = p; left = 0 }), step-none e s p 0 refl)
  from zero p (suc k) j =
      rw (step_is (record { offset = p; left = suc k }), step-found e s p (suc k) (λ z. omega arith) (first-accepted (entry_group e) s p k j), lt-ltb 0 (suc k) (omega arith))
  from (suc i) p zero j =
      rw (step_is (record { offset = p; left = 0 }), step-none e s p 0 refl, le-ltb (suc i) 0 (omega arith))
  from (suc i) p (suc k) j =
      rw (step_is (record { offset = p; left = suc k }), step-found e s p (suc k) (λ z. omega arith) (first-accepted (entry_group e) s p k j), pred_is k)
      (from i (next_offset (entry_group e) s p) k (rest_accepted (entry_group e) s p k j) ∙ ap accepted (sym (below_more i k _)))

-- ---- from the start cursor of a body

none_after : {l : Listed} (s : List ℕ) (i : ℕ) (c : At) → NoEntries l → entry_found (step_after l s i c) ≡ accepted no_such_entry
unfolding step_after
none_after s zero c n = rw (no_step s c n)
none_after s (suc i) c n = rw (no_step s c n)

without : {l : Listed} (s : List ℕ) (i : ℕ) → NoEntries l → entry_found (step_after l s i (start l s)) ≡ accepted (entry_listed l s i)
without s i n = none_after s i (start _ s) n ∙ ap accepted (sym (no_entry_lem s i n))

by_behind : (m : Message) (s : List ℕ) (i : ℕ) (b : Behind) → behind m ≡ b → judge_body m s ≡ accepted tt → entry_found (step_after (listed m) s i (start (listed m) s)) ≡ accepted (entry_listed (listed m) s i)
unfolding start
by_behind m s i nothing e j = without s i (bare e)
by_behind m s i (groups g) e j = without s i (grouped g e)
by_behind m s i (entries n) e j =
    rw e (from m n e s i (groups_start m) (count_at (entries n) (groups_start m) s) (rw e at (groups-accepted m s j)))

by_type : (l : Listed) (s : List ℕ) (i : ℕ) → judge_listed l s ≡ accepted tt → entry_found (step_after l s i (start l s)) ≡ accepted (entry_listed l s i)
by_type (listed m) s i j = by_behind m s i (behind m) refl j
by_type unlisted s i j = without s i unknown

pub step-is-entry : (type : ℕ) (s : List ℕ) (i : ℕ) → judge type s ≡ accepted tt → entry_found (step_after (named type) s i (start (named type) s)) ≡ entry_of type s i
unfolding entry_of and_then
step-is-entry type s i j = by_type (named type) s i j ∙ rw j
