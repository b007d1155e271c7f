-- A stream in cuts beside the same bytes read at once. The calls are parameters: whatever answers them, the definitions of Stream or the
-- contracts of code.
-- Assumes nothing.
use Rattle.std.specs.Prelude.{ℕ, ◌≤◌, ◌≡◌, Bool, true, false, List, [], ◌∷◌, ◌++◌, length, take, drop}
use Rattle.wire.specs.Answer.{Answer, accepted, refused}
use Rattle.frame.specs.Framing.{longest}
use Rattle.frame.specs.Walk as walked
use Rattle.frame.specs.Walk.{Over, stop, walk}
use Rattle.frame.specs.declared.Frame.{Frame}
use Rattle.streams.specs.declared.Stream.{Stream}
use Rattle.streams.specs.Stream.{new_stream, Said, frame, more, end, Where, in_cut, in_buffer, Told, pushed, buffer_left, ended}

-- ---- the calls

-- S2: a state, its buffer and a cut; what is told, and the buffer then
abbrev pub PushCall : Type 1
PushCall = Stream → List ℕ → List ℕ → Told → List ℕ → Type 0

-- S6: a state and its buffer; what is told
abbrev pub EndCall : Type 1
EndCall = Stream → List ℕ → Told → Type 0

-- S2: what the definition of a push tells
abbrev pub PushAs : ℕ → ℕ → PushCall
PushAs h limit st buffer c told left = (told ≡ pushed h limit st buffer c) × (left ≡ buffer_left h limit st buffer c)

-- S6: what the definition of an end tells
abbrev pub EndAs : ℕ → ℕ → EndCall
EndAs h limit st buffer told = told ≡ ended h limit st buffer

-- ---- what is handed out

-- S3: a frame, with its bytes
pub record Handed : Type 0 where
  pub frame : Frame
  pub bytes : List ℕ

-- S3: its bytes begin the cut, or the lent buffer as the call leaves it
abbrev pub from : Where → Frame → List ℕ → List ℕ → Handed
from in_cut f left c = record { frame = f; bytes = take f.total c }
from in_buffer f left c = record { frame = f; bytes = take f.total left }

-- S3: what a call hands out
abbrev pub given : Answer Said → List ℕ → List ℕ → List Handed
given (accepted (frame w f)) left c = from w f left c ∷ []
given (accepted (more vs)) left c = []
given (accepted end) left c = []
given (refused n vs) left c = []

-- ---- a host's calls

-- S2, S6: from a state on, over the cuts that are still to come: the frames that are handed out, and the last answer. A cut is handed in, and
-- what is not taken of it comes again; nothing is left of one; where the host waits, what is left of a cut is handed in with the next one; no cut
-- is left, and the stream is told to have ended; or a refusal is the last answer.
pub data Plays (waits : Bool) (Push : PushCall) (End : EndCall) : Stream → List ℕ → List (List ℕ) → List Handed → Answer Said → Type 0 where
  push :
      {st : Stream} {buffer c : List ℕ} {cs : List (List ℕ)} {hs : List Handed} {a : Answer Said} (told : Told) (left : List ℕ) →
      Push st buffer c told left → Plays waits Push End told.next left (drop told.took c ∷ cs) hs a →
      Plays waits Push End st buffer (c ∷ cs) (given told.said left c ++ hs) a
  next : {st : Stream} {buffer : List ℕ} {cs : List (List ℕ)} {hs : List Handed} {a : Answer Said} →
      Plays waits Push End st buffer cs hs a → Plays waits Push End st buffer ([] ∷ cs) hs a
  wait : {st : Stream} {buffer c d : List ℕ} {cs : List (List ℕ)} {hs : List Handed} {a : Answer Said} →
      waits ≡ true → Plays waits Push End st buffer ((c ++ d) ∷ cs) hs a → Plays waits Push End st buffer (c ∷ d ∷ cs) hs a
  finish : {st : Stream} {buffer : List ℕ} (told : Told) → End st buffer told → Plays waits Push End st buffer [] [] told.said
  give_up :
      {st : Stream} {buffer c : List ℕ} {cs : List (List ℕ)} (told : Told) (left : List ℕ) (n : ℕ) (vs : List ℕ) →
      Push st buffer c told left → told.said ≡ refused n vs → Plays waits Push End st buffer (c ∷ cs) [] told.said

-- the stream that comes in some cuts
abbrev pub whole : List (List ℕ) → List ℕ
whole [] = []
whole (c ∷ cs) = c ++ whole cs

-- ---- the same bytes read at once

-- F7: the frames of a walk, each with its bytes
abbrev pub pieces : List Frame → List ℕ → List Handed
pieces [] s = []
pieces (f ∷ fs) s = record { frame = f; bytes = take f.total s } ∷ pieces fs (drop f.total s)

-- F7, S6: how it is over
abbrev pub last_of : Over → Answer Said
last_of walked.end = accepted end
last_of (stop n vs) = refused n vs

-- D51: the frames, their order and their bytes, and the first refusal or the end, are those of the walk
pub record AtOnce (h limit : ℕ) (s : List ℕ) (hs : List Handed) (a : Answer Said) : Type 0 where
  pub frames : hs ≡ pieces (walk h limit s).frames s
  pub last : a ≡ last_of (walk h limit s).over

-- D51: for every cutting, whether the host waits or not, from a new stream over any buffer that takes the longest frame
abbrev pub Cutting : ℕ → ℕ → PushCall → EndCall → Type 0
Cutting h limit Push End =
    (waits : Bool) (buffer : List ℕ) (cs : List (List ℕ)) (hs : List Handed) (a : Answer Said) → longest h limit ≤ length buffer →
    Plays waits Push End new_stream buffer cs hs a → AtOnce h limit (whole cs) hs a

-- D51: what some cuts are played to, each handed in by itself
pub record Played (Push : PushCall) (End : EndCall) (st : Stream) (buffer : List ℕ) (cs : List (List ℕ)) : Type 0 where
  pub frames : List Handed
  pub last : Answer Said
  pub plays : Plays false Push End st buffer cs frames last

-- D51: and every cutting of every stream is played
abbrev pub EveryCutting : ℕ → ℕ → PushCall → EndCall → Type 0
EveryCutting h limit Push End = (buffer : List ℕ) (cs : List (List ℕ)) → longest h limit ≤ length buffer → Played Push End new_stream buffer cs
