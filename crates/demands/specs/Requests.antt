-- Demands 2 and 3 for the request. What it writes, the frame reader accepts, and the record reader gives those numbers. By the history of
-- demand 3 they are missing, and no lower number is.
-- Assumes nothing.
use Rattle.std.specs.Prelude.{ℕ, ◌+◌, ◌^◌, ◌≤◌, ◌<◌, ◌≡◌, List, [], ◌∷◌, ℤ, pos, replicate}
use Rattle.wire.specs.Answer.{accepted}
use Rattle.frame.specs.Framing as framed_as
use Rattle.frame.specs.Framing.{Framed}
use Rattle.layout.specs.Layout.{resend}
use Rattle.record.specs.Asked.{with_texts}
use Rattle.record.specs.Record.{known}
use Rattle.record.specs.Paper.{means_frame_reading}
use Rattle.record.specs.Paper.{FrameReading}
use Rattle.gaps.specs.declared.Run.{Run}
use Rattle.gaps.specs.History.{Missing}
use Rattle.tracker.specs.declared.Tracker.{Tracker}
use Rattle.tracker.specs.FirstRun.{lost, first_run}
use Rattle.tracker.specs.Request.{batch, asked, space, written, nothing, means_requested}
use Rattle.tracker.specs.Request.{Requested}
use Rattle.demands.specs.Calls.{FrameRead, ReadFrame, Request}
use Rattle.demands.specs.Play.{Fresh, Turn, Play, history_of, Has, from_of}

-- Q2: bytes that begin with a frame of 390094, L 44, 56 bytes, which reads as resend type 1, channel k, the numbers of r, status 0 and spaces
pub record Asks (k : ℕ) (r : Run) (s : List ℕ) : Type 0 where
  pub frame : (a : Framed) → FrameRead s a → framed_as.means_framed a ≡ accepted (record { kind = 390094; len = 44; total = 56 })
  pub fields :
      (y : FrameReading) → ReadFrame s y → means_frame_reading y ≡
      with_texts (accepted (known resend (pos 1 ∷ pos k ∷ pos r.first ∷ pos r.last ∷ pos 0 ∷ []))) (replicate 24 space)

-- Q1: the channel has a first run, n bytes are written, and they ask for that run, or its first 200 numbers
pub record Requests (t : Tracker) (k n : ℕ) (s : List ℕ) : Type 0 where
  pub run : Run
  pub first : first_run t k ≡ accepted (lost run)
  pub bytes : n ≡ 56
  pub asks : Asks k (asked run) s

-- D41: whatever stood in the output before, for every channel number of two bytes
abbrev pub RequestReads : Type 0
RequestReads =
    (t : Tracker) (k : ℕ) (out after : List ℕ) (a : Requested) (n : ℕ) → k < 256 ^ 2 → Request t k out a after →
    means_requested a ≡ accepted (written n) → Requests t k n after

-- ---- by the history

-- n is missing on channel k of the record t: from its first number to the highest that accepted arrivals brought or announced, and not brought
abbrev pub Misses : Tracker → ℕ → List Turn → ℕ → Type 0
Misses t k l n = Missing (from_of t k) (history_of k l) n

-- bytes that ask for the lowest missing numbers of channel k: each number from the first to the last is missing, no lower one is,
-- and neither is the next one, but where the batch is full
pub record AsksForMissing (t : Tracker) (k : ℕ) (l : List Turn) (s : List ℕ) : Type 0 where
  pub run : Run
  pub asks : Asks k run s
  pub some : run.first ≤ run.last
  pub missing : (n : ℕ) → run.first ≤ n → n ≤ run.last → Misses t k l n
  pub least : (n : ℕ) → Misses t k l n → run.first ≤ n
  pub few : run.last < run.first + batch
  pub whole : Misses t k l (run.last + 1) → run.last + 1 ≡ run.first + batch

-- D41: whatever was played into a fresh record, a request that is answered written asks for missing numbers
abbrev pub RequestAsksForMissing : Type 0
RequestAsksForMissing =
    (numbers : List ℕ) (from : List ℤ) (t u : Tracker) (l : List Turn) → Fresh numbers from t → Play t l u → (k : ℕ) → Has t k → k < 256 ^ 2 →
    (out after : List ℕ) (a : Requested) (n : ℕ) → Request u k out a after → means_requested a ≡ accepted (written n) → AsksForMissing t k l after

-- D41: and one that is answered "nothing missing" has none to ask for
abbrev pub NothingIsMissing : Type 0
NothingIsMissing =
    (numbers : List ℕ) (from : List ℤ) (t u : Tracker) (l : List Turn) → Fresh numbers from t → Play t l u → (k : ℕ) → Has t k →
    (out after : List ℕ) (a : Requested) → Request u k out a after → means_requested a ≡ accepted nothing → (n : ℕ) → Misses t k l n → ⊥
