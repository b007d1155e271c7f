-- What a cut reads as behind the bytes of an unfinished frame, and what follows for the next state; over the header's width and the body limit.
-- Assumes nothing.
use Prim.Native.Nat.{ℕ, ◌≤◌, ◌<◌}
use mathlib.Core.Path.{◌≡◌, refl, sym, ◌∙◌}
use mathlib.Core.List.{List, [], ◌∷◌, ◌++◌}
use native.Mathlib.Omega.{arith}
use borrow.Author.Tests.{eq-eqb, ne_eqb}
use lib.ListN.{length, take}
use lib.Seq.{length-take-le}
use Rattle.wire.specs.Answer.{Answer, accepted, refused}
use Rattle.wire.specs.Refusal.{too_short, too_long, wrong_sum}
use Rattle.frame.specs.Framing.{read, longest}
use Rattle.frame.specs.Wanting.{wanting}
use Rattle.frame.specs.declared.Frame.{Frame}
use Rattle.frame.proofs.Framing.{Reading, no_header, is_too_long, cut, is_wrong_sum, whole, view}
use Rattle.frame.proofs.Lacking.{told}
use Rattle.streams.specs.Stream.{going, over, state, kept_on, answer_again, lacked_by, end}
use Rattle.streams.specs.declared.Stream.{Stream}
use Rattle.streams.specs.Steps.{Holding, Standing}
use Rattle.streams.proofs.States.{fits, none-lacks, Led, stop2, stop3, led_as, over_stands}
use Rattle.streams.proofs.Pushes.{kept_front, kept_length}

-- ---- the refusals at which a stream stops

pub data Stopping : ℕ → Type 0 where
  by_2 : Stopping too_long
  by_3 : Stopping wrong_sum

pub not_short : {n : ℕ} → Stopping n → n ≡ too_short → ⊥
not_short by_2 e = omega arith
not_short by_3 e = omega arith

pub not_going : {n : ℕ} → Stopping n → n ≡ going → ⊥
not_going by_2 e = omega arith
not_going by_3 e = omega arith

pub stop-led : {h limit n : ℕ} {buffer : List ℕ} → Stopping n → longest h limit ≤ length buffer → Led h limit buffer n 0
stop-led by_2 b = stop2 b
stop-led by_3 b = stop3 b

pub stop_again : (w : ℕ) {n : ℕ} → Stopping n → answer_again w (state n 0) ≡ refused n []
unfolding answer_again
stop_again w by_2 = refl
stop_again w by_3 = refl

-- a stream that stopped answers the same at every call
pub is_stopped :
    (h limit : ℕ) (buffer : List ℕ) (st : Stream) {n : ℕ} → Stopping n → st.mark ≡ n → st.held ≡ 0 → longest h limit ≤ length buffer →
    Standing h limit st buffer (refused n [])
is_stopped h limit buffer st {n} z m e b =
    let l : Led h limit buffer st.mark st.held = rw (m, e) (stop-led z b) in
    let a : answer_again (lacked_by h limit st buffer) st ≡ refused n [] = rw (m, e) (stop_again (wanting h limit (take 0 buffer)) z) in
    rw (sym a) (over_stands h limit buffer st (led_as h limit buffer l) (λ g. not_going z (sym m ∙ g)))

-- ---- what a stream that was told to have ended answers

pub again_end : (w held : ℕ) → held ≡ 0 → answer_again w (state over held) ≡ accepted end
unfolding answer_again
again_end w held z = rw (eq-eqb held 0 z)

pub again_left : (w held : ℕ) → (held ≡ 0 → ⊥) → answer_again w (state over held) ≡ refused too_short (w ∷ [])
unfolding answer_again
again_left w held z = rw (ne_eqb held 0 z)

-- ---- what is read

-- a frame; or bytes are missing; or the stream stops
pub data Read (h limit : ℕ) (s : List ℕ) : Answer Frame → Type 0 where
  a_frame : (f : Frame) → Read h limit s (accepted f)
  lacking : 0 < wanting h limit s → Read h limit s (refused too_short (wanting h limit s ∷ []))
  stopped : {n : ℕ} → Stopping n → Read h limit s (refused n [])

pub reads : (h limit : ℕ) (s : List ℕ) → Read h limit s (read h limit s)
reads h limit s = by (read h limit s) refl (view h limit s) where
  short : {vs : List ℕ} → read h limit s ≡ refused too_short vs → Read h limit s (refused too_short vs)
  short {vs} e = let t = told h limit s vs e in rw t.0 (lacking t.1)

  by : (a : Answer Frame) → read h limit s ≡ a → Reading h limit s a → Read h limit s a
  by _ e (no_header i) = short e
  by _ e (is_too_long i p j) = stopped by_2
  by _ e (cut i p j k) = short e
  by _ e (is_wrong_sum i p j k w) = stopped by_3
  by _ e (whole {f} i) = a_frame f

-- ---- the next state

module _ (h limit : ℕ) (g : 4 ≤ h) where
  -- nothing is held
  pub holds-none : (buffer : List ℕ) → longest h limit ≤ length buffer → Holding h limit buffer 0
  holds-none buffer b = record { room = b; within = omega arith; lacks = none-lacks h limit g }

  module _ (buffer : List ℕ) (held : ℕ) (c : List ℕ) (k : Holding h limit buffer held) where
    abbrev u : List ℕ
    u = take held buffer

    pub length_held : length u ≡ held
    length_held = length-take-le held buffer k.within

    pub held_front : u ≡ take (length u) buffer
    held_front = rw length_held

    pub left-length : length (kept_on h limit u c buffer) ≡ length buffer
    left-length = kept_length h limit u c buffer (omega (arith, length_held, k.within)) k.room

    pub left-room : longest h limit ≤ length (kept_on h limit u c buffer)
    left-room = omega (arith, left-length, k.room)

    -- more is held
    pub more_front : 0 < wanting h limit (u ++ c) → take (length (u ++ c)) (kept_on h limit u c buffer) ≡ u ++ c
    more_front z = kept_front h limit u c buffer held_front k.room z

    pub holds_more : 0 < wanting h limit (u ++ c) → Holding h limit (kept_on h limit u c buffer) (length (u ++ c))
    holds_more z = record { room = left-room; within = omega (arith, left-room, fits h limit (u ++ c) z); lacks = rw (more_front z) z }
