-- How a record, texts and groups are judged, case by case.
-- Assumes nothing.
use Prim.Native.Nat.{ℕ, ◌<◌, ◌≤◌}
use mathlib.Core.Path.{◌≡◌, refl, sym}
use mathlib.Core.Bool.{Bool, true, false, not}
use mathlib.Core.List.{List, []}
use native.Mathlib.Omega.{arith}
use borrow.Author.Tests.{lt-ltb, le-ltb, ltb-false}
use lib.Dec.{ltb, lit≤}
use lib.IntN.{ℤ}
use Rattle.wire.specs.Answer.{Answer, accepted, refused, guard, and_then}
use Rattle.wire.specs.Refusal.{too_long, not_its_layout, out_of_range, output_short}
use Rattle.frame.specs.Framing.{body_limit}
use Rattle.layout.specs.Layout.{Message, heartbeat, channel_heartbeat, resend, statistics, security_status, snapshot, index, volume_index, order, trade, fields, size}
use Rattle.layout.specs.Group.{verdict}
use Rattle.record.specs.Record.{Reading}
use Rattle.bodies.specs.Body.{body_length, exact, all_in}
use Rattle.bodies.specs.Parts.{verdict_of}
use Rattle.writer.specs.Write.{frame_length, room_for_frame, write_known, write, write_leaves}

-- ---- the body's length and the output's

module _ (l room : ℕ) where
  pub fit_long : body_limit < l → refused too_long [] ≡ room_for_frame l room
  unfolding guard
  fit_long h = rw (lt-ltb body_limit l h)

  pub fit_short : l ≤ body_limit → room < frame_length l → refused output_short [] ≡ room_for_frame l room
  unfolding guard
  fit_short h k = rw (le-ltb body_limit l h, lt-ltb room (frame_length l) k)

  pub fit-whole : l ≤ body_limit → frame_length l ≤ room → accepted (frame_length l) ≡ room_for_frame l room
  unfolding guard
  fit-whole h k = rw (le-ltb body_limit l h, le-ltb room (frame_length l) k)

-- the fields alone are within the limit
pub fields_fit : (m : Message) → size (fields m) ≤ body_limit
unfolding size
fields_fit heartbeat = lit≤ tt
fields_fit channel_heartbeat = lit≤ tt
fields_fit resend = lit≤ tt
fields_fit statistics = lit≤ tt
fields_fit security_status = lit≤ tt
fields_fit snapshot = lit≤ tt
fields_fit index = lit≤ tt
fields_fit volume_index = lit≤ tt
fields_fit order = lit≤ tt
fields_fit trade = lit≤ tt

-- ---- "5 for the type, then 4, 5, 2, 6"

in_order : (e i : Bool) (w : Answer ℕ) → and_then (verdict e i) (λ (u : Unit). w) ≡ guard (not e) (refused not_its_layout []) (guard (not i) (refused out_of_range []) w)
unfolding guard and_then
in_order true true w = refl
in_order true false w = refl
in_order false true w = refl
in_order false false w = refl

-- the verdict on texts, groups and fields, then the body's length and the output's
pub by_verdict : (m : Message) (zs : List ℤ) (ts gs : List ℕ) (room : ℕ) → and_then (verdict_of m zs ts gs) (λ (u : Unit). room_for_frame (body_length m gs) room) ≡ write_known m zs ts gs room
unfolding verdict_of write_known
by_verdict m zs ts gs room = in_order (exact m zs ts gs) (all_in m zs gs) (room_for_frame (body_length m gs) room)

-- ---- what "written" says

fits_by : (l room n : ℕ) (a b : Bool) → ltb body_limit l ≡ a → ltb room (frame_length l) ≡ b → room_for_frame l room ≡ accepted n → (l ≤ body_limit) × ((n ≡ frame_length l) × (frame_length l ≤ room))
unfolding guard
fits_by l room n true b p q e = let z : ◌≡◌ {A = ℕ} 0 1 = cc (rw p at e) in absurd (omega arith)
fits_by l room n false true p q e = let z : ◌≡◌ {A = ℕ} 0 1 = cc (rw (p, q) at e) in absurd (omega arith)
fits_by l room n false false p q e =
    let s : accepted (frame_length l) ≡ accepted n = rw (p, q) at e in
    let r : frame_length l ≡ n = cc in
    (ltb-false _ _ p, (sym r, ltb-false _ _ q))

-- exact, in range, within the limit and the output
pub record Known (m : Message) (zs : List ℤ) (ts gs : List ℕ) (room n : ℕ) : Type 0 where
  pub exacts : exact m zs ts gs ≡ true
  pub inside : all_in m zs gs ≡ true
  pub within : body_length m gs ≤ body_limit
  pub total : n ≡ frame_length (body_length m gs)
  pub there : frame_length (body_length m gs) ≤ room

known_by : (m : Message) (zs : List ℤ) (ts gs : List ℕ) (room n : ℕ) (a b : Bool) → exact m zs ts gs ≡ a → all_in m zs gs ≡ b → write_known m zs ts gs room ≡ accepted n → Known m zs ts gs room n
unfolding write_known guard
known_by m zs ts gs room n false b p q e = let z : ◌≡◌ {A = ℕ} 0 1 = cc (rw p at e) in absurd (omega arith)
known_by m zs ts gs room n true false p q e = let z : ◌≡◌ {A = ℕ} 0 1 = cc (rw (p, q) at e) in absurd (omega arith)
known_by m zs ts gs room n true true p q e =
    let f = fits_by (body_length m gs) room n (ltb body_limit (body_length m gs)) (ltb room (frame_length (body_length m gs))) refl refl (rw (p, q) at e) in
    record { exacts = p; inside = q; within = f.0; total = f.1.0; there = f.1.1 }

pub known_of : (m : Message) (zs : List ℤ) (ts gs : List ℕ) (room n : ℕ) → write_known m zs ts gs room ≡ accepted n → Known m zs ts gs room n
known_of m zs ts gs room n e = known_by m zs ts gs room n (exact m zs ts gs) (all_in m zs gs) refl refl e

-- what is answered and left of a listed type is answered and left of its record
pub by_reading :
    (ts gs out : List ℕ) {a : Answer ℕ} {z : List ℕ} {r v : Reading} → r ≡ v →
    (a ≡ write v ts gs out) × (z ≡ write_leaves v ts gs out) →
    (a ≡ write r ts gs out) × (z ≡ write_leaves r ts gs out)
by_reading ts gs out e h = rw e h
