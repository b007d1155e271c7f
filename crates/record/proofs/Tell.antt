-- What a body tells, by how it was judged.
-- Assumes nothing.
use Prim.Native.Nat.{ℕ, ◌+◌, ◌<◌, ◌^◌}
use mathlib.Core.Path.{◌≡◌, ap, sym, ◌∙◌}
use mathlib.Core.Bool.{true, and-true}
use mathlib.Core.List.{List, [], ◌∷◌, ◌++◌}
use lib.Dec.{leb-zero}
use lib.IntN.{ℤ}
use lib.Signed.{mag}
use lib.ListN.{length}
use mir.Syntax.{w64}
use mir.Val.{to_z, of_z}
use mir.Facts.{to_z-of_z}
use Rattle.wire.specs.Answer.{Answer, accepted, refused, guard}
use Rattle.wire.specs.Bytes.{part}
use Rattle.frame.specs.Framing as framing-of
use Rattle.frame.specs.Framing.{header_width, body_limit, read, Framed}
use Rattle.frame.specs.declared.Frame.{Frame}
use Rattle.layout.specs.Kind.{Kind, ranged}
use Rattle.layout.specs.Layout.{Message, heartbeat, fields, common_part, size, ranges, texts}
use Rattle.layout.specs.Group.{fit, group_ranges, judge_body}
use Rattle.layout.specs.Paper as layout_paper
use Rattle.std.specs.Prelude.{Ok, Err, IsErrAnd}
use Rattle.layout.specs.Paper.{body_refusal, Verdict}
use Rattle.layout.specs.declared.group.Refusal.{Refusal}
use Rattle.record.specs.Paper as code
use Rattle.record.specs.Paper.{means_reading, means_frame_reading}
use Rattle.record.specs.declared.framed.FrameRefusal.TheVariants as FrameRefusal
use Rattle.frame.specs.declared.Refusal as frame_code
use Rattle.record.specs.Asked.{WithTexts, with_texts, filled}
use Rattle.record.specs.Record.{Reading, numbers_as, read_as, read_body, read_frame}

-- a signed number that passed through a field
pub kept : {z y : ℤ} → mag z < 2 ^ 63 → z ≡ y → to_z w64 (of_z w64 z) ≡ y
kept h e = to_z-of_z {w = w64} (record { sfits = h }) ∙ e

-- an answer with texts
abbrev pub with_texts_lem : {A : Type 0} → Answer A → List ℕ → ℕ → WithTexts A
with_texts_lem a b n = record { answer = a; texts = b; used = n }

-- the verdict that the code found is the definition's
pub found_by : {v w : Verdict} {a : Answer Unit} → v ≡ w → layout_paper.means_verdict v ≡ a → a ≡ layout_paper.means_verdict w
found_by e f = sym f ∙ ap layout_paper.means_verdict e

-- an accepted body: its numbers and its texts
pub tell : (m : Message) (s : List ℕ) → judge_body m s ≡ accepted tt → {r : Reading} → r ≡ numbers_as m s → {t : List ℕ} → t ≡ texts (fields m) s 0 → {b : List ℕ} {n : ℕ} → b ≡ filled t → n ≡ length t → with_texts_lem (accepted r) b n ≡ read_as m s
unfolding read_as
tell m s e v t b n =
    rw e (λ i. record { answer = accepted (v i); texts = (b ∙ ap filled t) i; used = (n ∙ ap length t) i })

-- a refused one
pub refuse : (m : Message) (s : List ℕ) {n : ℕ} {vs : List ℕ} → judge_body m s ≡ refused n vs → with_texts (refused n vs) [] ≡ read_as m s
unfolding read_as
refuse m s e = rw e

-- the same of the code's refusal
pub refuse_as : (m : Message) (s : List ℕ) (r : code.Reading) (x : Refusal) → IsErrAnd r (λ y. y ≡ x) → refused (body_refusal x) [] ≡ judge_body m s → means_reading r ≡ read_as m s
refuse_as m s (Ok v) x h e = absurd h
refuse_as m s (Err y) x h e = rw h (refuse m s (sym e))

-- a heartbeat is always accepted: it has no fields
pub alive : (s : List ℕ) → judge_body heartbeat s ≡ accepted tt
unfolding judge_body size fit ranges group_ranges guard
alive s = rw (leb-zero (length s))

-- the common part and one field more that is free
pub common_and : (k : Kind) → ((v : ℕ) → ranged k v ≡ true) → (s : List ℕ) → ranges common_part s 0 ≡ ranges (common_part ++ (k ∷ [])) s 0
unfolding ranges
common_and k h s = simp (h, and-true)

-- ---- a frame's bytes

-- what the code found in them is the definition's
pub framed_by : {v w : Framed} {a : Answer Frame} → v ≡ w → framing-of.means_framed v ≡ a → a ≡ framing-of.means_framed w
framed_by e f = sym f ∙ ap framing-of.means_framed e

pub frame-whole : (s : List ℕ) (f : Frame) → read header_width body_limit s ≡ accepted f → read_body f.kind (part header_width (header_width + f.len) s) ≡ read_frame s
unfolding read_frame
frame-whole s f e = rw e

pub frame_refused : (s : List ℕ) {n : ℕ} {vs : List ℕ} → read header_width body_limit s ≡ refused n vs → with_texts (refused n vs) [] ≡ read_frame s
unfolding read_frame
frame_refused s e = rw e

-- the same of the code's refusals: of the frame, and of its body
pub frame_refused_as : (s : List ℕ) (r : code.FrameReading) (x : frame_code.Refusal) → IsErrAnd r (λ y. y ≡ FrameRefusal.Frame x) → refused (framing-of.frame_refusal x) (framing-of.refusal_values x) ≡ read header_width body_limit s → means_frame_reading r ≡ read_frame s
frame_refused_as s (Ok v) x h e = absurd h
frame_refused_as s (Err y) x h e = rw h (frame_refused s (sym e))

pub body_refused_as : (s : List ℕ) (f : Frame) → read header_width body_limit s ≡ accepted f → (r : code.FrameReading) (x : Refusal) → IsErrAnd r (λ y. y ≡ FrameRefusal.Body x) → with_texts (refused (body_refusal x) []) [] ≡ read_body f.kind (part header_width (header_width + f.len) s) → means_frame_reading r ≡ read_frame s
body_refused_as s f w (Ok v) x h e = absurd h
body_refused_as s f w (Err y) x h e = rw h (e ∙ frame-whole s f w)
