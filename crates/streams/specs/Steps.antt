-- What the private steps of a call are handed, and what the last of them answers; a reader of the calls needs none of it.
-- Assumes nothing.
use Rattle.std.specs.Prelude.{ℕ, ◌-◌, ◌≤◌, ◌<◌, ◌≡◌, List, [], ◌∷◌, ◌++◌, length, take}
use Rattle.wire.specs.Answer.{Answer, accepted, refused}
use Rattle.frame.specs.Framing.{read, longest, frame_refusal, refusal_values}
use Rattle.frame.specs.Wanting.{wanting}
use Rattle.frame.specs.declared.Refusal.{Refusal}
use Rattle.streams.specs.declared.Stream.{Stream}
use Rattle.streams.specs.Stream.{going, state, Said, in_buffer, more, Told, stay, said_of, next_of, lacked_by, pushed, buffer_left, ended}

-- S8: a buffer that takes the longest frame and begins with held bytes of an unfinished one
pub record Holding (h limit : ℕ) (buffer : List ℕ) (held : ℕ) : Type 0 where
  pub room : longest h limit ≤ length buffer
  pub within : held ≤ length buffer
  pub lacks : 0 < wanting h limit (take held buffer)

-- S1: a stream that goes on, and how many bytes what it holds lacks
pub record Going (h limit : ℕ) (st : Stream) (buffer : List ℕ) (missing : ℕ) : Type 0 where
  pub goes : st.mark ≡ going
  pub holding : Holding h limit buffer st.held
  pub wants : missing ≡ lacked_by h limit st buffer

-- S6, S7, S8: a state in which every call answers the same, takes nothing and changes nothing: of a stream that is over, or that no calls lead to
pub record Standing (h limit : ℕ) (st : Stream) (buffer : List ℕ) (a : Answer Said) : Type 0 where
  pub pushes : (c : List ℕ) → (pushed h limit st buffer c ≡ stay a st) × (buffer_left h limit st buffer c ≡ buffer)
  pub ends : ended h limit st buffer ≡ stay a st

-- S4: a cut behind held bytes of the buffer that lacks so many with them, and some
pub record Lacking (h limit : ℕ) (buffer : List ℕ) (held : ℕ) (c : List ℕ) (missing : ℕ) : Type 0 where
  pub room : longest h limit ≤ length buffer
  pub within : held ≤ length buffer
  pub wants : missing ≡ wanting h limit (take held buffer ++ c)
  pub lacks : 0 < missing

-- S4: a cut that brings what held bytes of an unfinished frame lack
pub record Brought (h limit : ℕ) (buffer : List ℕ) (held lacks : ℕ) (c : List ℕ) : Type 0 where
  pub holding : Holding h limit buffer held
  pub some : 0 < held
  pub wants : lacks ≡ wanting h limit (take held buffer)
  pub comes : lacks ≤ length c

-- S4: the whole cut is taken, and held bytes are there then, which lack so many
abbrev pub more_told : ℕ → ℕ → ℕ → Told
more_told took held missing = record { said = accepted (more (missing ∷ [])); took = took; next = state going held }

-- S4, S7: the stream stops at a refusal
abbrev pub stop_told : Refusal → ℕ → Told
stop_told x took = record { said = refused (frame_refusal x) (refusal_values x); took = took; next = state (frame_refusal x) 0 }

-- S2: bytes of the buffer that lack nothing; so many of them, held, came before this cut
pub record Judgeable (h limit : ℕ) (bytes : List ℕ) (held : ℕ) : Type 0 where
  pub enough : wanting h limit bytes ≡ 0
  pub some : held ≤ length bytes

-- S2: what such bytes read as, and what the call tells then
abbrev pub judged : ℕ → ℕ → List ℕ → ℕ → Told
judged h limit bytes held =
    record { said = said_of in_buffer (read h limit bytes); took = length bytes - held; next = next_of (read h limit bytes) 0 }
