-- What 1 says is missing, and what comes of just so many bytes more, over the header's width h and the body limit. The call is a parameter:
-- whatever answers it, the definition or the contract of code.
-- Assumes nothing.
use Rattle.std.specs.Prelude.{ℕ, suc, ◌+◌, ◌-◌, ◌≤◌, ◌<◌, ◌≡◌, List, [], ◌∷◌, ◌++◌, length}
use Rattle.wire.specs.Answer.{Answer, accepted, refused}
use Rattle.wire.specs.Refusal.{too_short, too_long, wrong_sum}
use Rattle.frame.specs.Framing.{sum_width, length_of, read, missing_by}
use Rattle.frame.specs.declared.Frame.{Frame}

-- F5: some bytes, and what they are read as
abbrev pub ReadCall : Type 1
ReadCall = List ℕ → Answer Frame → Type 0

-- D24: the header is just whole: 2, or 1 with what is left of the frame
pub data AtHeader (h limit : ℕ) (s : List ℕ) : Answer Frame → Type 0 where
  too_much : limit < length_of h s → AtHeader h limit s (refused too_long [])
  frame_left : length_of h s ≤ limit → AtHeader h limit s (refused too_short ((length_of h s + sum_width) ∷ []))

-- D24: the frame is just whole: 3, or a frame of all these bytes
pub data AtEnd (s : List ℕ) : Answer Frame → Type 0 where
  differs : AtEnd s (refused wrong_sum [])
  whole : (f : Frame) → f.total ≡ length s → AtEnd s (accepted f)

-- D24: a host's reads, from some bytes on: one more while the answer is 1, which brings just what is missing, whatever that is; and how many they are
pub data HostReads (Read : ReadCall) : List ℕ → ℕ → Type 0 where
  so_far : {s : List ℕ} → HostReads Read s 0
  brings :
      {s : List ℕ} {k : ℕ} (n : ℕ) (t : List ℕ) → Read s (refused too_short (n ∷ [])) → length t ≡ n → HostReads Read (s ++ t) k →
      HostReads Read s (suc k)

-- F8, D24: all bytes have an answer; 1 has one number, which is not 0; with any fewer bytes more it is 1 again, with as many fewer; with exactly so
-- many it is never 1 for the same want; and behind two reads the answer is not 1, so that there is no third
pub record ShortSays (h limit : ℕ) (Read : ReadCall) : Type 0 where
  pub every : (s : List ℕ) → Read s (read h limit s)
  pub some : (s vs : List ℕ) → Read s (refused too_short vs) → (vs ≡ missing_by vs ∷ []) × (1 ≤ missing_by vs)
  pub fewer :
      (s t : List ℕ) (n : ℕ) (a : Answer Frame) → Read s (refused too_short (n ∷ [])) → length t < n → Read (s ++ t) a →
      a ≡ refused too_short ((n - length t) ∷ [])
  pub header :
      (s t : List ℕ) (n : ℕ) (a : Answer Frame) → Read s (refused too_short (n ∷ [])) → length t ≡ n → length s < h → Read (s ++ t) a →
      AtHeader h limit (s ++ t) a
  pub end :
      (s t : List ℕ) (n : ℕ) (a : Answer Frame) → Read s (refused too_short (n ∷ [])) → length t ≡ n → h ≤ length s → Read (s ++ t) a →
      AtEnd (s ++ t) a
  pub two_reads : (k : ℕ) → HostReads Read [] k → k ≤ 2
