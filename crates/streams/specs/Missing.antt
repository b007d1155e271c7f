-- What "more" and 1 say is missing, beside the frame reader; and a host that hands in just so many bytes. The calls are parameters, as in Cutting.
-- Assumes nothing.
use Rattle.std.specs.Prelude.{ℕ, suc, ◌+◌, ◌*◌, ◌≤◌, ◌≡◌, List, [], ◌∷◌, ◌++◌, length}
use Rattle.wire.specs.Answer.{accepted, refused}
use Rattle.wire.specs.Refusal.{too_short}
use Rattle.frame.specs.Framing.{read, longest}
use Rattle.frame.specs.declared.Frame.{Frame}
use Rattle.streams.specs.declared.Stream.{Stream}
use Rattle.streams.specs.Stream.{new_stream, unfinished, Where, frame, more, Told}
use Rattle.streams.specs.Cutting.{PushCall, EndCall}

-- F8, S4, S6, S7: "more" says what the frame reader says of held bytes and cut; 1, at the end and each time that it is repeated, what it says of
-- the held bytes
pub record SaysMissing (h limit : ℕ) (Push : PushCall) (End : EndCall) : Type 0 where
  pub on :
      (st : Stream) (buffer c : List ℕ) (told : Told) (left vs : List ℕ) → Push st buffer c told left → told.said ≡ accepted (more vs) →
      read h limit (unfinished st buffer ++ c) ≡ refused too_short vs
  pub pushed :
      (st : Stream) (buffer c : List ℕ) (told : Told) (left vs : List ℕ) → Push st buffer c told left → told.said ≡ refused too_short vs →
      read h limit (unfinished st buffer) ≡ refused too_short vs
  pub ended :
      (st : Stream) (buffer : List ℕ) (told : Told) (vs : List ℕ) → End st buffer told → told.said ≡ refused too_short vs →
      read h limit (unfinished st buffer) ≡ refused too_short vs

-- D54: a host that hands in just so many bytes a cut, whatever they are: as many as are missing behind "more", and as many as a header has behind
-- a frame; how many pushes it has made, and how many frames it was handed
pub data Hands (h : ℕ) (Push : PushCall) : ℕ → Stream → List ℕ → ℕ → ℕ → Type 0 where
  last :
      {n : ℕ} {st : Stream} {buffer : List ℕ} (c : List ℕ) (told : Told) (left : List ℕ) → length c ≡ n → Push st buffer c told left →
      Hands h Push n st buffer 1 0
  brings :
      {n pushes frames : ℕ} {st : Stream} {buffer : List ℕ} (c : List ℕ) (told : Told) (left : List ℕ) (m : ℕ) → length c ≡ n →
      Push st buffer c told left → told.said ≡ accepted (more (m ∷ [])) → Hands h Push m told.next left pushes frames →
      Hands h Push n st buffer (suc pushes) frames
  goes_on :
      {n pushes frames : ℕ} {st : Stream} {buffer : List ℕ} (c : List ℕ) (told : Told) (left : List ℕ) (w : Where) (f : Frame) → length c ≡ n →
      Push st buffer c told left → told.said ≡ accepted (frame w f) → Hands h Push h told.next left pushes frames →
      Hands h Push n st buffer (suc pushes) (suc frames)

-- D54: from a new stream on it makes two pushes a frame at most, and two behind the last
abbrev pub TwoPushes : ℕ → ℕ → PushCall → Type 0
TwoPushes h limit Push =
    (buffer : List ℕ) (pushes frames : ℕ) → longest h limit ≤ length buffer → Hands h Push h new_stream buffer pushes frames →
    pushes ≤ 2 * frames + 2
