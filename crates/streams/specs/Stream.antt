-- A stream that comes in cuts, over the header's width h and the body limit. A state is the code's struct, how many bytes are held and a mark,
-- with a lent buffer, which begins with the bytes that are held.
-- Assumes nothing.
use Rattle.std.specs.Prelude.{ℕ, ◌-◌, Bool, cond, ◌&&◌, ◌||◌, List, [], ◌∷◌, ◌++◌, ltb, leb, eqb, length, take}
use Rattle.wire.specs.Answer.{Answer, accepted, refused}
use Rattle.wire.specs.Bytes.{splice}
use Rattle.wire.specs.Refusal.{too_short, too_long, wrong_sum, malformed}
use Rattle.frame.specs.Framing.{read, longest}
use Rattle.frame.specs.Wanting.{wanting, reach}
use Rattle.frame.specs.declared.Frame.{Frame}
use Rattle.streams.specs.declared.Stream.{Stream}

-- ---- states

-- S1: the mark of a stream that goes on
abbrev pub going : ℕ
going = 0

-- S6: the mark of a stream that was told to have ended
abbrev pub over : ℕ
over = 1

-- S7: the marks of a stream that stopped: the refusal's number
abbrev pub stopping : ℕ → Bool
stopping mark = eqb mark too_long || eqb mark wrong_sum

-- S1: a state with its mark and the bytes that are held
abbrev pub state : ℕ → ℕ → Stream
state mark held = record { held = held; mark = mark }

-- S1: a stream of which nothing has come
abbrev pub new_stream : Stream
new_stream = state going 0

-- S1: the unfinished frame
abbrev pub unfinished : Stream → List ℕ → List ℕ
unfinished st buffer = take st.held buffer

-- S8: a state that calls lead to: a buffer that takes the longest frame, and in it an unfinished one, or none where the stream stopped
unfoldable pub led : ℕ → ℕ → Stream → List ℕ → Bool
led h limit st buffer =
    leb (longest h limit) (length buffer)
    && (leb st.held (length buffer)
    && cond (eqb st.mark going || eqb st.mark over) (ltb 0 (wanting h limit (unfinished st buffer))) (stopping st.mark && eqb st.held 0))

-- ---- answers

-- S3: where the bytes of a frame stand that is handed out
pub data Where : Type 0 where
  in_cut : Where
  in_buffer : Where

-- S3, S4, S6: a frame; no frame yet, with the values of 1; the end
pub data Said : Type 0 where
  frame : Where → Frame → Said
  more : List ℕ → Said
  end : Said

-- S2: what is found, how many bytes of the cut are taken, and the next state
pub record Told : Type 0 where
  pub said : Answer Said
  pub took : ℕ
  pub next : Stream

-- S7, S8: nothing is taken, and the state stays
abbrev pub stay : Answer Said → Stream → Told
stay a st = record { said = a; took = 0; next = st }

-- ---- a cut, behind the bytes u of an unfinished frame

-- S3: a frame that lies whole in the cut stays there
abbrev pub stands : List ℕ → Where
stands u = cond (eqb (length u) 0) in_cut in_buffer

-- S4: what is found, by what the bytes read as: 1 is "more" while the stream goes on
abbrev pub said_of : Where → Answer Frame → Answer Said
said_of w (accepted f) = accepted (frame w f)
said_of w (refused n vs) = cond (eqb n too_short) (accepted (more vs)) (refused n vs)

-- S2, S7: the next state, of n bytes in all
abbrev pub next_of : Answer Frame → ℕ → Stream
next_of (accepted f) n = new_stream
next_of (refused m vs) n = cond (eqb m too_short) (state going n) (state m 0)

-- S4: to the frame's end, to the header's for 2, else the whole cut
abbrev pub taken : ℕ → ℕ → List ℕ → List ℕ → ℕ
taken h limit u c = reach h limit (u ++ c) - length u

-- S2: held bytes and cut read as one
unfoldable pub read_on : ℕ → ℕ → List ℕ → List ℕ → Told
read_on h limit u c =
    record {
      said = said_of (stands u) (read h limit (u ++ c));
      took = taken h limit u c;
      next = next_of (read h limit (u ++ c)) (length (u ++ c));
    }

-- S5: the bytes taken go behind those held, but where the cut alone is enough to judge
unfoldable pub kept_on : ℕ → ℕ → List ℕ → List ℕ → List ℕ → List ℕ
kept_on h limit u c buffer =
    cond (eqb (length u) 0 && eqb (wanting h limit c) 0) buffer (splice buffer (length u) (take (taken h limit u c) c))

-- ---- the calls

-- S6, S7: what a stream that is over answers, each time, where its held bytes lack so many
unfoldable pub answer_again : ℕ → Stream → Answer Said
answer_again missing st =
    cond (eqb st.mark over) (cond (eqb st.held 0) (accepted end) (refused too_short (missing ∷ []))) (refused st.mark [])

-- S6: what the bytes of the unfinished frame lack
abbrev pub lacked_by : ℕ → ℕ → Stream → List ℕ → ℕ
lacked_by h limit st buffer = wanting h limit (unfinished st buffer)

-- S2, S7, S8: a cut is handed in
unfoldable pub pushed : ℕ → ℕ → Stream → List ℕ → List ℕ → Told
pushed h limit st buffer c =
    cond (led h limit st buffer)
    (cond (eqb st.mark going) (read_on h limit (unfinished st buffer) c) (stay (answer_again (lacked_by h limit st buffer) st) st))
    (stay (refused malformed []) st)

-- S5, S7, S8: what the lent buffer holds then
unfoldable pub buffer_left : ℕ → ℕ → Stream → List ℕ → List ℕ → List ℕ
buffer_left h limit st buffer c =
    cond (led h limit st buffer && eqb st.mark going) (kept_on h limit (unfinished st buffer) c buffer) buffer

-- S6: the state of a stream that is told to have ended
abbrev pub closing : Stream → Stream
closing st = cond (eqb st.mark going) (state over st.held) st

-- S6, S7, S8: the stream is told to have ended
unfoldable pub ended : ℕ → ℕ → Stream → List ℕ → Told
ended h limit st buffer =
    cond (led h limit st buffer) (stay (answer_again (lacked_by h limit st buffer) (closing st)) (closing st)) (stay (refused malformed []) st)
