-- Groups by position, and the groups of a body as a part of it.
-- Assumes nothing.
use Prim.Native.Nat.{ℕ, ◌+◌, ◌-◌, ◌≤◌, ◌<◌}
use mathlib.Core.Path.{◌≡◌, refl, sym}
use mathlib.Core.List.{List, []}
use native.Mathlib.Omega.{arith}
use borrow.Author.Tests.{lt-ltb, le-ltb}
use lib.ListN.{length}
use Rattle.std.specs.Prelude.{Ok, Err, IsErrAnd}
use Rattle.wire.specs.Answer.{accepted, refused}
use Rattle.wire.specs.Bytes.{be_at}
use Rattle.layout.specs.Layout.{Message, heartbeat, channel_heartbeat, resend, statistics, security_status, snapshot, index, volume_index, order, trade, type_number, Listed, listed, unlisted, named, Group, groups, behind, size, values, texts}
use Rattle.layout.specs.Group.{group_offset, groups_start, judge_body}
use Rattle.layout.proofs.Walk.{has_all, fields-there}
use Rattle.record.specs.Asked.{with_texts, found, no_such_entry, judge_listed, judge}
use Rattle.record.specs.Record.{group_as, group_listed, group_of}
use Rattle.layout.specs.Paper.{body_refusal}
use Rattle.layout.specs.declared.group.Refusal.{Refusal}
use Rattle.record.specs.Paper as code
use Rattle.record.specs.Paper.{means_group_reading}
use Rattle.record.proofs.Choice.{named_as, named_back, No}

module _ (m : Message) (s : List ℕ) (i : ℕ) where
  pub group_as_refused : (r : code.GroupReading) (x : Refusal) → IsErrAnd r (λ y. y ≡ x) → refused (body_refusal x) [] ≡ judge_body m s → means_group_reading r ≡ group_as m s i
  unfolding group_as
  group_as_refused (Ok v) x h e = absurd h
  group_as_refused (Err y) x h e = rw (h, ← e)

-- ---- group i of a type that has groups

module _ (m : Message) (g : Group) (s : List ℕ) (i : ℕ) (is : behind m ≡ groups g) (good : judge_body m s ≡ accepted tt) where
  pub group-found : i < be_at s (groups_start m - 4) 4 → {at : ℕ} → group_offset g s (groups_start m) i ≡ at → with_texts (accepted (found (values g.fields s at))) (texts g.fields s at) ≡ group_as m s i
  unfolding group_as
  group-found h p = rw (good, is, lt-ltb _ _ h, p)

  pub group-none : be_at s (groups_start m - 4) 4 ≤ i → with_texts (accepted no_such_entry) [] ≡ group_as m s i
  unfolding group_as
  group-none h = rw (good, is, le-ltb _ _ h)

  pub group-there : i < be_at s (groups_start m - 4) 4 → group_offset g s (groups_start m) i + size g.fields ≤ length s
  group-there h =
      let f = (has_all m s good).groups in
      fields-there g s (groups_start m) i (be_at s (groups_start m - 4) 4) h (rw is at f)

-- ---- by the type

module _ (t : ℕ) (s : List ℕ) where
  pub group_as_lem : (m : Message) (i : ℕ) → t ≡ type_number m → group_as m s i ≡ group_of t s i
  unfolding group_of
  group_as_lem m i e = rw (named_as m e)

  refused_by_lem : (l : Listed) (i : ℕ) {n : ℕ} {vs : List ℕ} → judge_listed l s ≡ refused n vs → with_texts (refused n vs) [] ≡ group_listed l s i
  unfolding group_as
  refused_by_lem (listed m) i e = rw e
  refused_by_lem unlisted i e = let z : ◌≡◌ {A = ℕ} 0 1 = cc in absurd (omega arith)

  pub group-refused : (i : ℕ) {n : ℕ} {vs : List ℕ} → judge t s ≡ refused n vs → with_texts (refused n vs) [] ≡ group_of t s i
  unfolding group_of
  group-refused i e = refused_by_lem (named t) i e

  -- the same of the code's refusal
  pub group_refused_as : (i : ℕ) (r : code.GroupReading) (x : Refusal) → IsErrAnd r (λ y. y ≡ x) → refused (body_refusal x) [] ≡ judge t s → means_group_reading r ≡ group_of t s i
  group_refused_as i (Ok v) x h e = absurd h
  group_refused_as i (Err y) x h e = rw h (group-refused i (sym e))

  -- a type without groups
  rest_by : (l : Listed) (i : ℕ) → named t ≡ l → No statistics t → No security_status t → judge_listed l s ≡ accepted tt → with_texts (accepted no_such_entry) [] ≡ group_listed l s i
  unfolding group_as
  rest_by (listed heartbeat) i e a b g = rw g
  rest_by (listed channel_heartbeat) i e a b g = rw g
  rest_by (listed resend) i e a b g = rw g
  rest_by (listed statistics) i e a b g = absurd (a (named_back statistics t e))
  rest_by (listed security_status) i e a b g = absurd (b (named_back security_status t e))
  rest_by (listed snapshot) i e a b g = rw g
  rest_by (listed index) i e a b g = rw g
  rest_by (listed volume_index) i e a b g = rw g
  rest_by (listed order) i e a b g = rw g
  rest_by (listed trade) i e a b g = rw g
  rest_by unlisted i e a b g = refl

  pub group_rest : (i : ℕ) → No statistics t → No security_status t → judge t s ≡ accepted tt → with_texts (accepted no_such_entry) [] ≡ group_of t s i
  unfolding group_of
  group_rest i a b g = rest_by (named t) i refl a b g
