-- The states that calls lead to, what a call takes at most, and what is repeated. The calls are parameters, as in Cutting. A list is any numbers,
-- as everywhere in specs: the cuts by which a state is reached are the buffer's own front and digits of a header, which are bytes where it is.
-- Assumes nothing.
use Rattle.std.specs.Prelude.{ℕ, ◌≤◌, ◌≡◌, ◌↔◌, List, [], ◌∷◌, length}
use Rattle.wire.specs.Answer.{accepted, refused}
use Rattle.wire.specs.Refusal.{malformed}
use Rattle.frame.specs.Framing.{longest}
use Rattle.streams.specs.declared.Stream.{Stream}
use Rattle.streams.specs.Stream.{going, new_stream, more, Told, stay, lacked_by}
use Rattle.streams.specs.Cutting.{PushCall, EndCall}

-- S8: a new stream over any buffer that takes the longest frame; what a cut, and the end, make of a state that calls lead to
pub data Leads (h limit : ℕ) (Push : PushCall) (End : EndCall) : Stream → List ℕ → Type 0 where
  fresh : (buffer : List ℕ) → longest h limit ≤ length buffer → Leads h limit Push End new_stream buffer
  push :
      {st : Stream} {buffer : List ℕ} (c : List ℕ) (told : Told) (left : List ℕ) → Leads h limit Push End st buffer → Push st buffer c told left →
      Leads h limit Push End told.next left
  close : {st : Stream} {buffer : List ℕ} (told : Told) → Leads h limit Push End st buffer → End st buffer told → Leads h limit Push End told.next buffer

-- D52: a push is answered 10 exactly in a state that no calls lead to; nothing is taken then, and state and buffer are as they stood
pub record TenPushed (h limit : ℕ) (Push : PushCall) (End : EndCall) (st : Stream) (buffer c : List ℕ) (told : Told) (left : List ℕ) : Type 0 where
  pub exactly : (told.said ≡ refused malformed []) ↔ (Leads h limit Push End st buffer → ⊥)
  pub else : (told.said ≡ refused malformed [] → ⊥) → Leads h limit Push End st buffer
  pub stands : told.said ≡ refused malformed [] → (told ≡ stay (refused malformed []) st) × (left ≡ buffer)

-- D52: and so is an end
pub record TenEnded (h limit : ℕ) (Push : PushCall) (End : EndCall) (st : Stream) (buffer : List ℕ) (told : Told) : Type 0 where
  pub exactly : (told.said ≡ refused malformed []) ↔ (Leads h limit Push End st buffer → ⊥)
  pub else : (told.said ≡ refused malformed [] → ⊥) → Leads h limit Push End st buffer
  pub stands : told.said ≡ refused malformed [] → told ≡ stay (refused malformed []) st

-- D52: in every state, with every buffer and cut
pub record Ten (h limit : ℕ) (Push : PushCall) (End : EndCall) : Type 0 where
  pub pushed : (st : Stream) (buffer c : List ℕ) (told : Told) (left : List ℕ) → Push st buffer c told left → TenPushed h limit Push End st buffer c told left
  pub ended : (st : Stream) (buffer : List ℕ) (told : Told) → End st buffer told → TenEnded h limit Push End st buffer told

-- S2, S4: no call takes more than the cut, and a cut of no bytes is "more" and changes nothing, in a stream that calls lead to and that goes on
pub record Takes (h limit : ℕ) (Push : PushCall) (End : EndCall) : Type 0 where
  pub within : (st : Stream) (buffer c : List ℕ) (told : Told) (left : List ℕ) → Push st buffer c told left → told.took ≤ length c
  pub nothing :
      (st : Stream) (buffer : List ℕ) (told : Told) (left : List ℕ) → Leads h limit Push End st buffer → st.mark ≡ going → Push st buffer [] told left →
      (told ≡ stay (accepted (more (lacked_by h limit st buffer ∷ []))) st) × (left ≡ buffer)

-- S7: every later call takes nothing, answers the same, and leaves state and buffer
pub record SaysAgain (Push : PushCall) (End : EndCall) (told : Told) (buffer : List ℕ) : Type 0 where
  pub pushed : (c : List ℕ) (again : Told) (left : List ℕ) → Push told.next buffer c again left → (again ≡ stay told.said told.next) × (left ≡ buffer)
  pub ended : (again : Told) → End told.next buffer again → again ≡ stay told.said told.next

-- D53: a refusal, and whatever an end was answered, is repeated
pub record Repeats (Push : PushCall) (End : EndCall) : Type 0 where
  pub refusal :
      (st : Stream) (buffer c : List ℕ) (told : Told) (left : List ℕ) (n : ℕ) (vs : List ℕ) → Push st buffer c told left →
      told.said ≡ refused n vs → SaysAgain Push End told left
  pub end : (st : Stream) (buffer : List ℕ) (told : Told) → End st buffer told → SaysAgain Push End told buffer
