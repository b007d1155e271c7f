-- How the writer judges the frame of a request: only an output too short refuses it.
-- Assumes nothing.
use Prim.Native.Nat.{ℕ, ◌≤◌}
use mathlib.Core.Path.{◌≡◌, refl, sym, ◌∙◌}
use mathlib.Core.Bool.{Bool, true, false}
use mathlib.Core.List.{List, [], ◌∷◌}
use native.Mathlib.Omega.{arith}
use borrow.Author.Tests.{le-leb}
use lib.Dec.{ltb}
use lib.IntN.{ℤ, pos}
use lib.ListN.{length}
use Rattle.wire.specs.Answer.{Answer, accepted, refused, guard, and_then}
use Rattle.wire.specs.Refusal.{output_short}
use Rattle.layout.specs.Kind.{last_number, resend_type, status, ranged}
use Rattle.layout.specs.Layout.{resend, fields, size}
use Rattle.layout.specs.Group.{fit, group_offset, group_ranges, even}
use Rattle.layout.proofs.Free.{free-channel, free-text, first_number_as}
use Rattle.layout.proofs.Ranges.{at_least_0}
use Rattle.record.specs.Record.{Reading, known}
use Rattle.bodies.specs.Body.{text_size, exact, numbers_in, all_in}
use Rattle.writer.specs.Write as writer
use Rattle.gaps.specs.declared.Run.{Run}
use Rattle.gaps.specs.Limits.{most_number}
use Rattle.tracker.specs.declared.Tracker.{Tracker}
use Rattle.tracker.specs.FirstRun.{Lost, lost, first_run}
use Rattle.tracker.specs.Request.{asked, spaces, numbers_for, resend_of, request_length, room_for_request, request_judged, written, answer_of, output_asked, request, request_leaves, means_requested}
use Rattle.tracker.specs.Inside.{lost_of}
use Rattle.tracker.specs.declared.RequestRefusal.{RequestRefusal}
use Rattle.tracker.specs.declared.RequestRefusal.TheVariants.{Malformed, NoSuchChannel, OutputShort}
use Rattle.std.specs.Prelude.{Err}

-- a 390094 frame has 44 + 12 bytes
pub request-length : request_length ≡ 56
unfolding size
request-length = refl

-- the record of signed numbers that are the run's
pub resend_of_lem : (k : ℕ) (r : Run) {a b : ℤ} → a ≡ pos r.first → b ≡ pos r.last → known resend (pos 1 ∷ pos k ∷ a ∷ b ∷ pos 0 ∷ []) ≡ resend_of k r
resend_of_lem k r e f = rw (e, f)

natural_in : (n : ℕ) → n ≤ most_number → ranged last_number n ≡ true
unfolding ranged
natural_in n h = sym (at_least_0 n) ∙ le-leb n most_number h

type_in : ranged resend_type 1 ≡ true
unfolding ranged
type_in = refl

status_in : ranged status 0 ≡ true
unfolding ranged
status_in = refl

module _ (k : ℕ) (r : Run) (low : r.first ≤ most_number) (high : r.last ≤ most_number) where
  numbers_in_lem : numbers_in (fields resend) (numbers_for k r) ≡ true
  unfolding numbers_in
  numbers_in_lem = simp (type_in, free-channel, first_number_as, natural_in r.first low, natural_in r.last high, free-text, status_in)

  exactly : exact resend (numbers_for k r) spaces [] ≡ true
  unfolding text_size even fit group_offset
  exactly = refl

  all_in_lem : all_in resend (numbers_for k r) [] ≡ true
  unfolding group_ranges
  all_in_lem = rw numbers_in_lem

  pub judged-request : (room : ℕ) → writer.write_known resend (numbers_for k r) spaces [] room ≡ guard (ltb room request_length) (refused output_short []) (accepted request_length)
  unfolding writer.write_known guard size
  judged-request room = rw (exactly, all_in_lem)

-- ---- what the writer said and left, as the request's answer and output

module _ (k : ℕ) (r : Run) (out : List ℕ) (low : (asked r).first ≤ most_number) (high : (asked r).last ≤ most_number) where
  abbrev fits : Answer Lost
  fits = room_for_request (length out) (lost r)

  by_writer : writer.write_known resend (numbers_for k (asked r)) spaces [] (length out) ≡ guard (ltb (length out) request_length) (refused output_short []) (accepted request_length)
  by_writer = judged-request k (asked r) low high (length out)

  whole_by :
      (b : Bool) → ltb (length out) request_length ≡ b → (n : ℕ) (after : List ℕ) → accepted n ≡ writer.write (resend_of k (asked r)) spaces [] out →
      after ≡ writer.write_leaves (resend_of k (asked r)) spaces [] out → (accepted (written n) ≡ answer_of fits) × (after ≡ output_asked fits k out)
  unfolding writer.write writer.write_leaves guard
  whole_by true e n after p q = let z : ◌≡◌ {A = ℕ} 0 1 = cc (rw (by_writer, e) at p) in absurd (omega arith)
  whole_by false e n after p q =
      let a : accepted n ≡ accepted request_length = rw (by_writer, e) at p in
      let m : n ≡ request_length = cc in
      (rw (e, m), rw e (rw (by_writer, e) at q))

  short_by :
      (b : Bool) → ltb (length out) request_length ≡ b → (n : ℕ) (vs after : List ℕ) → refused n vs ≡ writer.write (resend_of k (asked r)) spaces [] out →
      after ≡ writer.write_leaves (resend_of k (asked r)) spaces [] out → (refused output_short [] ≡ answer_of fits) × (after ≡ output_asked fits k out)
  unfolding writer.write writer.write_leaves guard
  short_by true e n vs after p q = (rw e, rw e (rw (by_writer, e) at q))
  short_by false e n vs after p q = let z : ◌≡◌ {A = ℕ} 0 1 = cc (rw (by_writer, e) at p) in absurd (omega arith)

  pub whole :
      {x : Reading} → x ≡ resend_of k (asked r) → (n : ℕ) (after : List ℕ) → accepted n ≡ writer.write x spaces [] out → after ≡ writer.write_leaves x spaces [] out →
      (accepted (written n) ≡ answer_of fits) × (after ≡ output_asked fits k out)
  whole e n after p q = whole_by (ltb (length out) request_length) refl n after (rw e at p) (rw e at q)

  pub short :
      {x : Reading} → x ≡ resend_of k (asked r) → (n : ℕ) (vs after : List ℕ) → refused n vs ≡ writer.write x spaces [] out → after ≡ writer.write_leaves x spaces [] out →
      (refused output_short [] ≡ answer_of fits) × (after ≡ output_asked fits k out)
  short e n vs after p q = short_by (ltb (length out) request_length) refl n vs after (rw e at p) (rw e at q)

-- ---- by the first run

module _ (t : Tracker) (k : ℕ) (out : List ℕ) {a : Answer Lost} (e : first_run t k ≡ a) where
  pub answers_by : request t k out ≡ answer_of (and_then a (room_for_request (length out)))
  unfolding request request_judged
  answers_by = rw e

  pub leaves_by : request_leaves t k out ≡ output_asked (and_then a (room_for_request (length out))) k out
  unfolding request_leaves request_judged
  leaves_by = rw e

-- ---- a refusal

pub refused-said : (why : RequestRefusal) (f : Lost → Answer Lost) → means_requested (Err why) ≡ answer_of (and_then (lost_of (Err why)) f)
unfolding and_then
refused-said Malformed f = refl
refused-said NoSuchChannel f = refl
refused-said OutputShort f = refl

pub refused-left : (why : RequestRefusal) (f : Lost → Answer Lost) (k : ℕ) (out : List ℕ) → out ≡ output_asked (and_then (lost_of (Err why)) f) k out
unfolding and_then
refused-left Malformed f k out = refl
refused-left NoSuchChannel f k out = refl
refused-left OutputShort f k out = refl
