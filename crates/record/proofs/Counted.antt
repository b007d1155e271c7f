-- The group that a layout counts behind its fields: how it is judged, and where it ends.
-- Assumes nothing.
use Prim.Native.Nat.{ℕ, ◌-◌, ◌≤◌}
use mathlib.Core.Path.{◌≡◌, refl, sym, ◌∙◌}
use mathlib.Core.Bool.{true}
use mathlib.Core.List.{List, []}
use native.Mathlib.Omega.{arith}
use lib.Dec.{lit≤}
use lib.ListN.{length}
use Rattle.std.specs.Prelude.{Some, None}
use Rattle.wire.specs.Answer.{accepted, refused}
use Rattle.wire.specs.Bytes.{be_at, part}
use Rattle.layout.specs.Layout.{Message, heartbeat, channel_heartbeat, resend, statistics, security_status, snapshot, index, volume_index, order, trade, Group, Behind, nothing, groups, entries, behind, size}
use Rattle.layout.specs.Group.{group_behind, count_at, group, count, groups_start, judge_groups, judge_body, group_offset, offset_from, fit, needs}
use Rattle.layout.proofs.Walk.{judged-nothing, has_all, offset-behind, offset-within}
use Rattle.record.specs.Record.{groups_as}
use Rattle.record.specs.Paper.{counted, counted_behind}

-- a count that is there takes four bytes
pub counted_fits : (m : Message) (g : Group) → Some g ≡ counted m → 4 ≤ groups_start m
unfolding size
counted_fits heartbeat g e = let z : ◌≡◌ {A = ℕ} 0 1 = cc in absurd (omega arith)
counted_fits channel_heartbeat g e = lit≤ tt
counted_fits resend g e = lit≤ tt
counted_fits statistics g e = lit≤ tt
counted_fits security_status g e = lit≤ tt
counted_fits snapshot g e = lit≤ tt
counted_fits index g e = lit≤ tt
counted_fits volume_index g e = lit≤ tt
counted_fits order g e = lit≤ tt
counted_fits trade g e = lit≤ tt

module _ (s : List ℕ) (at : ℕ) where
  pub judges_none : (b : Behind) → None ≡ counted_behind b → accepted tt ≡ judge_groups (group_behind b) s at (count_at b at s)
  judges_none nothing e = sym (judged-nothing s at)
  judges_none (groups g) e = let z : ◌≡◌ {A = ℕ} 0 1 = cc in absurd (omega arith)
  judges_none (entries x) e = let z : ◌≡◌ {A = ℕ} 0 1 = cc in absurd (omega arith)

  -- its count stands at the end of the fields
  pub counted_as : (b : Behind) (g : Group) → Some g ≡ counted_behind b → (g ≡ group_behind b) × (be_at s (at - 4) 4 ≡ count_at b at s)
  counted_as nothing g e = let z : ◌≡◌ {A = ℕ} 0 1 = cc in absurd (omega arith)
  counted_as (groups h) g e = (cc, refl)
  counted_as (entries x) g e = (cc, refl)

  -- nothing stands behind the fields where nothing is counted
  part_none : (b : Behind) → None ≡ counted_behind b → [] ≡ part at (group_offset (group_behind b) s at (count_at b at s)) s
  unfolding group_offset
  part_none nothing e = let z : at - at ≡ 0 = omega arith in rw z refl
  part_none (groups g) e = let z : ◌≡◌ {A = ℕ} 0 1 = cc in absurd (omega arith)
  part_none (entries x) e = let z : ◌≡◌ {A = ℕ} 0 1 = cc in absurd (omega arith)

module _ (m : Message) (s : List ℕ) where
  pub judges_some : (g : Group) → Some g ≡ counted m → judge_groups g s (groups_start m) (be_at s (groups_start m - 4) 4) ≡ judge_groups (group m) s (groups_start m) (count m s)
  judges_some g e =
      let x = counted_as s (groups_start m) (behind m) g e in
      λ i. judge_groups (x.0 i) s (groups_start m) (x.1 i)

  -- the groups as a part
  pub parts_good : judge_body m s ≡ accepted tt → part (groups_start m) (needs m s) s ≡ groups_as m s
  unfolding groups_as
  parts_good h = rw h

  pub parts_refused : {n : ℕ} {vs : List ℕ} → refused n vs ≡ judge_body m s → [] ≡ groups_as m s
  unfolding groups_as
  parts_refused h = rw (← h)

  pub parts_none : judge_body m s ≡ accepted tt → None ≡ counted m → [] ≡ groups_as m s
  parts_none h e = part_none s (groups_start m) (behind m) e ∙ parts_good h

  -- where they end
  pub ends_at : judge_body m s ≡ accepted tt → (g : Group) → Some g ≡ counted m → {at k e : ℕ} → at ≡ groups_start m → k ≡ be_at s (groups_start m - 4) 4 → e ≡ offset_from g s at k → e ≡ needs m s
  ends_at h g c p q r =
      let x = counted_as s (groups_start m) (behind m) g c in
      r ∙ (λ i. offset_from (x.0 i) s (p i) ((q ∙ x.1) i)) ∙ fits_all (has_all m s h).groups
    where
      fits_all : fit (group m) s (groups_start m) (count m s) ≡ true → offset_from (group m) s (groups_start m) (count m s) ≡ needs m s
      fits_all f = unfold offset_from in rw f refl

  pub ends-behind : groups_start m ≤ needs m s
  ends-behind = offset-behind (group m) s (groups_start m) (count m s)

  pub ends-within : judge_body m s ≡ accepted tt → needs m s ≤ length s
  ends-within h = let w = has_all m s h in offset-within (group m) s (groups_start m) (count m s) w.long w.groups
