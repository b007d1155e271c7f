-- What is written reads back as the same fields, texts and groups; a frame that is read and written again is the same bytes.
-- Assumes nothing.
use Prim.Native.Nat.{ℕ, ◌+◌, ◌-◌, ◌^◌, ◌<◌, ◌≤◌}
use mathlib.Core.Path.{◌≡◌, refl, ap, sym, ◌∙◌}
use mathlib.Core.List.{List, ◌++◌}
use native.Mathlib.Omega.{arith}
use lib.Dec.{lit<}
use lib.IntN.{ℤ}
use lib.ListN.{length, take, drop, length-drop}
use lib.Seq.{length-take-le}
use Rattle.wire.specs.Answer.{accepted, guard}
use Rattle.wire.specs.Bytes.{Bytes, splice}
use Rattle.wire.proofs.Digits.{bytes_take, bytes_drop}
use Rattle.frame.specs.Framing.{header_width, body_limit, read, body_of}
use Rattle.frame.specs.declared.Frame.{Frame}
use Rattle.frame.proofs.Framing as frame_laws
use Rattle.layout.specs.Layout.{Message, heartbeat, channel_heartbeat, resend, statistics, security_status, snapshot, index, volume_index, order, trade, fields, type_number, listed, named, values, texts}
use Rattle.layout.specs.Group.{group_offset, group, groups_start, count, judge_body}
use Rattle.record.specs.Asked.{with_texts}
use Rattle.record.specs.Record.{Reading, known, read_as, read_body, read_frame, groups_as, groups_of}
use Rattle.record.proofs.Choice.{named_as, named_back}
use Rattle.bodies.specs.Body.{Numbers, body, body_length, text_size}
use Rattle.writer.specs.Write.{frame_of, frame_length, write_known}
use Rattle.bodies.proofs.Bodies.{same, exactly, reads, again_from}
use Rattle.writer.proofs.Frames.{said, framed, framed_again}
use Rattle.writer.proofs.Judging.{known_of, fit-whole}

-- ---- what is written reads back

-- by the definitions, bytes begin with a frame of n bytes and read as a record with its texts and groups
pub record ReadsAs (x : Reading) (ts gs : List ℕ) (n : ℕ) (s : List ℕ) : Type 0 where
  pub frame : Frame
  pub framed : read header_width body_limit s ≡ accepted frame
  pub total : frame.total ≡ n
  pub fields : read_frame s ≡ with_texts (accepted x) ts
  pub groups : groups_of frame.kind (body_of header_width (accepted frame) s) ≡ gs

type_fits : (m : Message) → type_number m < 256 ^ 4
type_fits heartbeat = lit< tt
type_fits channel_heartbeat = lit< tt
type_fits resend = lit< tt
type_fits statistics = lit< tt
type_fits security_status = lit< tt
type_fits snapshot = lit< tt
type_fits index = lit< tt
type_fits volume_index = lit< tt
type_fits order = lit< tt
type_fits trade = lit< tt

pub back_known :
    (m : Message) {zs : List ℤ} → Numbers (fields m) zs → (ts gs out : List ℕ) (n : ℕ) → write_known m zs ts gs (length out) ≡ accepted n →
    ReadsAs (known m zs) ts gs n (splice out 0 (frame_of (type_number m) (body m zs ts gs)))
unfolding splice read_frame read_body read_as groups_of
back_known m {zs} g ts gs out n e =
    let b : List ℕ = body m zs ts gs in
    let t : ℕ = type_number m in
    let k = known_of m zs ts gs (length out) n e in
    let l : length b ≡ body_length m gs = (same m ts gs g (exactly m zs ts gs k.exacts).texts).long in
    let r = reads m ts gs g k.exacts k.inside in
    let f = framed t b (drop (0 + length (frame_of t b)) out) (type_fits m) (omega (arith, k.within)) in
    record {
      frame = said header_width t (length b);
      framed = f.reads;
      total = rw l (sym k.total);
      fields = rw (f.reads, f.lent, named_as m {t = t} refl, r.accepts, r.numbers, r.wording);
      groups = rw (f.lent, named_as m {t = t} refl) r.groups;
    }

-- ---- what is read and written again

module _ (s : List ℕ) (f : Frame) (m : Message) (bytes : Bytes s) (e : read header_width body_limit s ≡ accepted f) where
  -- the body, and what it reads as
  abbrev pub lent : List ℕ
  lent = body_of header_width (accepted f) s

  length_lent : length lent ≡ f.len
  length_lent =
      let a = frame_laws.known_of header_width body_limit s f e in
      let z : 8 + f.len - 8 ≡ f.len = omega arith in
      rw z (length-take-le f.len (drop 8 s) (rw length-drop (omega (arith, a.total, a.there))))

  bytes_lent : Bytes lent
  bytes_lent = bytes_take (8 + f.len - 8) (bytes_drop 8 bytes)

  module _
      (c : named f.kind ≡ listed m) (j : judge_body m lent ≡ accepted tt)
      (t : group_offset (group m) lent (groups_start m) (count m lent) ≡ length lent) (out : List ℕ) (room : f.total ≤ length out)
    where
      pub length-texts : length (texts (fields m) lent 0) ≡ text_size (fields m)
      length-texts = (exactly m (values (fields m) lent 0) (texts (fields m) lent 0) (groups_as m lent) (again_from m lent bytes_lent j t).exacts).texts

      pub judged_again : write_known m (values (fields m) lent 0) (texts (fields m) lent 0) (groups_as m lent) (length out) ≡ accepted f.total
      unfolding write_known guard
      judged_again =
          let a = frame_laws.known_of header_width body_limit s f e in
          let g = again_from m lent bytes_lent j t in
          let x = exactly m (values (fields m) lent 0) (texts (fields m) lent 0) (groups_as m lent) g.exacts in
          let l : length lent ≡ body_length m (groups_as m lent) =
          ap length (sym g.made) ∙ (same m (texts (fields m) lent 0) (groups_as m lent) g.numbers x.texts).long
          in
          let n : f.len ≡ body_length m (groups_as m lent) = sym length_lent ∙ l in
          let w : f.total ≡ frame_length (body_length m (groups_as m lent)) = a.total ∙ ap (λ (i : ℕ). frame_length i) n in
          rw (g.exacts, g.inside)
          (sym (fit-whole (body_length m (groups_as m lent)) (length out) (omega (arith, a.within)) (omega arith)) ∙ ap accepted (sym w))

      pub bytes_again : splice out 0 (frame_of (type_number m) (body m (values (fields m) lent 0) (texts (fields m) lent 0) (groups_as m lent))) ≡ take f.total s ++ drop f.total out
      unfolding splice
      bytes_again =
          let a = frame_laws.known_of header_width body_limit s f e in
          let g = again_from m lent bytes_lent j t in
          let q : length (take f.total s) ≡ f.total = length-take-le f.total s a.there in
          let z : 0 + f.total ≡ f.total = omega arith in
          rw (g.made, ← named_back m f.kind c, ← framed_again s f bytes e, q, z)
