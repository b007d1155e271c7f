-- What 1 says is missing: what the frame reader's calls can tell, as their contracts allow (specs/Calls, specs/CalledFromC), in the words of
-- `frame`, whose statement (its specs Lacking) is taken over them.
-- Assumes nothing.
use Rattle.std.specs.Prelude.{ℕ, ◌≡◌, cond, List, [], ◌∷◌, eqb}
use Rattle.wire.specs.Answer.{Answer, accepted, refused}
use Rattle.wire.specs.Number.{plain, more_number}
use Rattle.wire.specs.Refusal.{too_short}
use Rattle.frame.specs.Framing.{header_width, body_limit, means_framed}
use Rattle.frame.specs.Lacking.{ReadCall, ShortSays}
use Rattle.frame.specs.declared.Frame.{Frame}
use Rattle.frame.specs.Framing.{Framed}
use Rattle.streams.specs.declared.Stream.{Stream}
use Rattle.orizhgum.specs.declared.FrameAnswer.{FrameAnswer}
use Rattle.orizhgum.specs.declared.streamed.StreamAnswer.{StreamAnswer}
use Rattle.demands.specs.Calls.{FrameRead}
use Rattle.demands.specs.CalledFromC.{FrameFromC, StreamPushFromC, StreamEndFromC}

-- F5: `frame::read(s)`
pub data ReadTells : List ℕ → Answer Frame → Type 0 where
  read_tells : {s : List ℕ} (r : Framed) → FrameRead s r → ReadTells s (means_framed r)

-- F8, C2: the values that go with a number: how many bytes are missing, with 1
abbrev pub values_by : ℕ → ℕ → List ℕ
values_by answer missing = cond (eqb answer too_short) (missing ∷ []) []

-- C2: what a host takes a struct for
abbrev pub answer_by : FrameAnswer → Answer Frame
answer_by r =
    cond (eqb r.answer plain) (accepted (record { kind = r.kind; len = r.len; total = r.total }))
    (refused r.answer (values_by r.answer r.missing))

-- F5, C2: `orizhgum_frame(bytes)`
pub data ReadTellsC : List ℕ → Answer Frame → Type 0 where
  read_tells_c : {s : List ℕ} (r : FrameAnswer) → FrameFromC s r → ReadTellsC s (answer_by r)

-- D24: what is said of either call
abbrev pub TellsMissing : ReadCall → Type 0
TellsMissing Read = ShortSays header_width body_limit Read

-- C2, C12: with every answer of the C interface but 1, and "more" of a stream, nothing is missing
pub record ElseNone : Type 0 where
  pub frame : (s : List ℕ) (r : FrameAnswer) → FrameFromC s r → (r.answer ≡ too_short → ⊥) → r.missing ≡ 0
  pub push :
      (st : Stream) (buffer c : List ℕ) (r : StreamAnswer) (left : List ℕ) → StreamPushFromC st buffer c r left → (r.answer ≡ too_short → ⊥) →
      (r.answer ≡ more_number → ⊥) → r.missing ≡ 0
  pub end :
      (st : Stream) (buffer : List ℕ) (r : StreamAnswer) → StreamEndFromC st buffer r → (r.answer ≡ too_short → ⊥) → (r.answer ≡ more_number → ⊥) →
      r.missing ≡ 0
