-- What 1 says is missing: the calls' contracts answer as `frame` defines, and so its law holds of them; and nothing is missing with other answers.
-- Assumes nothing.
use Prim.Native.Nat.{ℕ, ◌+◌, ◌-◌}
use mathlib.Core.Path.{◌≡◌, refl, ap, subst, sym, ◌∙◌}
use mathlib.Core.List.{List, []}
use lib.Dec.{lit≤}
use lib.ListN.{length}
use Rattle.wire.specs.Answer.{Answer}
use Rattle.wire.specs.Number.{more_number}
use Rattle.wire.specs.Refusal.{too_short}
use Rattle.frame.specs.Framing.{read, header_width, body_limit, sum_width, means_framed}
use Rattle.frame.specs.declared.Frame.{Frame}
use Rattle.frame.specs.Framing.{Framed}
use Rattle.std.specs.Prelude.{Ok, Err}
use Rattle.frame.specs.declared.Refusal.TheVariants.{TooShort, TooLong, WrongSum}
use Rattle.frame.proofs.Framing.{Reading, no_header, is_too_long, cut, is_wrong_sum, whole, view}
use Rattle.frame.proofs.Lacking.{lacking}
use Rattle.streams.specs.Stream.{Told, pushed, ended}
use Rattle.streams.specs.Paper.{means_says, means_pushed}
use Rattle.streams.specs.declared.Stream.{Stream}
use Rattle.streams.specs.declared.Says.{Says}
use Rattle.streams.specs.declared.Says.TheVariants as says
use Rattle.streams.proofs.Unique.{pushed_of, push_coded, end_coded}
use Rattle.orizhgum.specs.Framed.{frame_answer}
use Rattle.orizhgum.specs.Streamed.{said_answer, stream_answer}
use Rattle.orizhgum.specs.declared.FrameAnswer.{FrameAnswer}
use Rattle.orizhgum.specs.declared.streamed.StreamAnswer.{StreamAnswer}
use Rattle.demands.specs.CalledFromC.{by_frame}
use Rattle.demands.specs.Missing.{ReadTells, read_tells, answer_by, ReadTellsC, read_tells_c, TellsMissing, ElseNone}
use Rattle.demands.proofs.Calls.{lent, frame_read, frame_read_as}
use Rattle.demands.proofs.CalledFromC.{frame-from, stream-push-from, stream-end-from}

-- ---- the library's call

told : {s : List ℕ} {a : Answer Frame} → ReadTells s a → a ≡ read header_width body_limit s
told (read_tells r h) = frame_read_as h

-- every reading is an answer of the code
can : (s : List ℕ) → ReadTells s (read header_width body_limit s)
can s = by _ refl (view header_width body_limit s) where
  answers : (r : Framed) → means_framed r ≡ read header_width body_limit s → ReadTells s (read header_width body_limit s)
  answers r e = subst (ReadTells s) e (read_tells r (frame_read s r e))

  by : (a : Answer Frame) → read header_width body_limit s ≡ a → Reading header_width body_limit s a → ReadTells s (read header_width body_limit s)
  by _ e (no_header i) = answers (Err (TooShort (header_width - length s))) (sym e)
  by _ e (is_too_long i p j) = answers (Err TooLong) (sym e)
  by _ e (cut {n} i p j k) = answers (Err (TooShort (header_width + n + sum_width - length s))) (sym e)
  by _ e (is_wrong_sum i p j k w) = answers (Err WrongSum) (sym e)
  by _ e (whole {f} i) = answers (Ok f) (sym e)

pub tells_missing : TellsMissing ReadTells
tells_missing = lacking header_width body_limit (lit≤ tt) can (λ s a h. told h)

-- ---- that of the C interface

-- what is read comes back from its struct
back : {s : List ℕ} {a : Answer Frame} → Reading header_width body_limit s a → answer_by (frame_answer a) ≡ a
back (no_header i) = refl
back (is_too_long i e j) = refl
back (cut i e j k) = refl
back (is_wrong_sum i e j k w) = refl
back (whole i) = refl

told_c : {s : List ℕ} {a : Answer Frame} → ReadTellsC s a → a ≡ read header_width body_limit s
told_c {s} (read_tells_c r h) = ap answer_by (frame-from h) ∙ back (view header_width body_limit s)

can_c : (s : List ℕ) → ReadTellsC s (read header_width body_limit s)
can_c s =
    subst (ReadTellsC s) (back (view header_width body_limit s))
    (read_tells_c (frame_answer (read header_width body_limit s)) (by_frame ([], tt) (lent s) (lent s) (frame_answer (read header_width body_limit s)) refl))

pub tells_missing_from_c : TellsMissing ReadTellsC
tells_missing_from_c = lacking header_width body_limit (lit≤ tt) can_c (λ s a h. told_c h)

-- ---- nothing is missing

frame-none : {s : List ℕ} {a : Answer Frame} → Reading header_width body_limit s a → ((frame_answer a).answer ≡ too_short → ⊥) → (frame_answer a).missing ≡ 0
frame-none (no_header i) z = absurd (z refl)
frame-none (is_too_long i e j) z = refl
frame-none (cut i e j k) z = absurd (z refl)
frame-none (is_wrong_sum i e j k w) z = refl
frame-none (whole i) z = refl

-- of a struct that a stream is told by
abbrev None : StreamAnswer → Type 0
None r = (r.answer ≡ too_short → ⊥) → (r.answer ≡ more_number → ⊥) → r.missing ≡ 0

said-none : (x : Says) (took : ℕ) (next : Stream) → None (said_answer (means_says x) took next)
said-none (says.InCut f) took next y z = refl
said-none (says.InBuffer f) took next y z = refl
said-none (says.More n) took next y z = absurd (z refl)
said-none says.End took next y z = refl
said-none (says.Refused (TooShort n)) took next y z = absurd (y refl)
said-none (says.Refused TooLong) took next y z = refl
said-none (says.Refused WrongSum) took next y z = refl
said-none says.Malformed took next y z = refl

told_none : (t : Told) → means_pushed (pushed_of t) ≡ t → None (stream_answer t)
told_none t e = let r = pushed_of t in subst (λ (x : Told). None (stream_answer x)) e (said-none r.says r.took r.next)

pub else_none : ElseNone
else_none =
    record {
      frame = λ s r h. subst (λ (x : FrameAnswer). (x.answer ≡ too_short → ⊥) → x.missing ≡ 0) (sym (frame-from h)) (frame-none (view header_width body_limit s));
      push = λ st buffer c r left h.
          subst None (sym (stream-push-from h).0) (told_none (pushed header_width body_limit st buffer c) (push_coded header_width body_limit st buffer c));
      end = λ st buffer r h.
          subst None (sym (stream-end-from h)) (told_none (ended header_width body_limit st buffer) (end_coded header_width body_limit st buffer));
    }
