-- The answer is one only, and every answer of the definitions is one of the code's.
-- Assumes nothing.
use Prim.Native.Nat.{ℕ, zero, suc}
use mathlib.Core.Path.{◌≡◌, refl, ap, sym, ◌∙◌}
use mathlib.Core.Bool.{Bool, true, false}
use mathlib.Core.List.{List, [], ◌++◌}
use native.Mathlib.Omega.{arith}
use Rattle.wire.specs.Answer.{Answer, accepted, refused}
use Rattle.wire.specs.Refusal.{malformed}
use Rattle.frame.specs.Framing.{read, missing_by}
use Rattle.frame.specs.declared.Frame.{Frame}
use Rattle.frame.specs.declared.Refusal.TheVariants.{TooShort, TooLong, WrongSum}
use Rattle.streams.specs.declared.Stream.{Stream}
use Rattle.streams.specs.declared.Says.{Says}
use Rattle.streams.specs.declared.Says.TheVariants as says
use Rattle.streams.specs.declared.Pushed.{Pushed}
use Rattle.streams.specs.Stream.{going, over, state, Said, frame, more, end, Where, in_cut, in_buffer, Told, led, unfinished, stands, read_on, answer_again, lacked_by, pushed, ended}
use Rattle.streams.specs.Paper.{means_says, means_pushed}
use Rattle.streams.proofs.States.{Led, goes, told, stop2, stop3, led-known, push-on, push-over, push-malformed, end_on, end-over, end-malformed}
use Rattle.streams.proofs.Pushes.{on-frame, on_lacking, on-stopping}
use Rattle.streams.proofs.Readings.{Stopping, by_2, by_3, not_short, stop_again, again_end, again_left, Read, a_frame, lacking, stopped, reads}

-- ---- the way back

refused_as : ℕ → ℕ → Says
refused_as w zero = says.Malformed
refused_as w (suc zero) = says.Refused (TooShort w)
refused_as w (suc (suc zero)) = says.Refused TooLong
refused_as w (suc (suc (suc zero))) = says.Refused WrongSum
refused_as w (suc (suc (suc (suc n)))) = says.Malformed

pub says_of : Answer Said → Says
says_of (accepted (frame in_cut f)) = says.InCut f
says_of (accepted (frame in_buffer f)) = says.InBuffer f
says_of (accepted (more vs)) = says.More (missing_by vs)
says_of (accepted end) = says.End
says_of (refused n vs) = refused_as (missing_by vs) n

says_back : (a : Says) → says_of (means_says a) ≡ a
unfolding says_of refused_as
says_back (says.InCut f) = refl
says_back (says.InBuffer f) = refl
says_back (says.More n) = refl
says_back says.End = refl
says_back (says.Refused (TooShort n)) = refl
says_back (says.Refused TooLong) = refl
says_back (says.Refused WrongSum) = refl
says_back says.Malformed = refl

-- two answers that meet a promise are equal
pub one_answer : (a b : Pushed) → means_pushed a ≡ means_pushed b → a ≡ b
one_answer a b e =
    let p : a.says ≡ b.says = sym (says_back a.says) ∙ ap (λ (t : Told). says_of t.said) e ∙ says_back b.says in
    let q : a.took ≡ b.took = ap (λ (t : Told). t.took) e in
    let r : a.next ≡ b.next = ap (λ (t : Told). t.next) e in
    λ i. record { says = p i; took = q i; next = r i }

-- ---- what is defined is the code's

pub pushed_of : Told → Pushed
pushed_of t = record { says = says_of t.said; took = t.took; next = t.next }

-- an answer that the code has
abbrev Coded : Answer Said → Type 0
Coded a = means_says (says_of a) ≡ a

coded_frame : (w : Where) (f : Frame) → Coded (accepted (frame w f))
unfolding says_of
coded_frame in_cut f = refl
coded_frame in_buffer f = refl

coded_stop : {n : ℕ} → Stopping n → Coded (refused n [])
unfolding says_of refused_as
coded_stop by_2 = refl
coded_stop by_3 = refl

coded_told : (w held : ℕ) → Coded (answer_again w (state over held))
unfolding says_of refused_as
coded_told w zero = rw (again_end w zero refl)
coded_told w (suc n) = rw (again_left w (suc n) (λ z. omega arith))

coded_on : (h limit : ℕ) (u c : List ℕ) (r : Answer Frame) → read h limit (u ++ c) ≡ r → Read h limit (u ++ c) r → Coded (read_on h limit u c).said
unfolding says_of
coded_on h limit u c _ e (a_frame f) = rw (on-frame h limit u c f e) (coded_frame (stands u) f)
coded_on h limit u c _ e (lacking z) = rw (on_lacking h limit u c z)
coded_on h limit u c _ e (stopped {n} z) = rw (on-stopping h limit u c n [] e (not_short z)) (coded_stop z)

coded_malformed : Coded (refused malformed [])
unfolding says_of refused_as
coded_malformed = refl

coded_again : {h limit mark held : ℕ} {buffer : List ℕ} (w : ℕ) → Led h limit buffer mark held → (mark ≡ going → ⊥) → Coded (answer_again w (state mark held))
coded_again w (goes k) m = absurd (m refl)
coded_again w (told {held} k) m = coded_told w held
coded_again w (stop2 b) m = rw (stop_again w by_2) (coded_stop by_2)
coded_again w (stop3 b) m = rw (stop_again w by_3) (coded_stop by_3)

module _ (h limit : ℕ) (st : Stream) (buffer : List ℕ) where
  coded_push : (c : List ℕ) → Coded (pushed h limit st buffer c).said
  coded_push c = by (led h limit st buffer) refl st.mark refl where
    by : (t : Bool) → led h limit st buffer ≡ t → (mark : ℕ) → st.mark ≡ mark → Coded (pushed h limit st buffer c).said
    by false e mark m = rw (push-malformed h limit buffer st c e).0 coded_malformed
    by true e zero m =
        rw (push-on h limit buffer st c e m).0 (coded_on h limit (unfinished st buffer) c _ refl (reads h limit (unfinished st buffer ++ c)))
    by true e (suc n) m =
        let z : st.mark ≡ going → ⊥ = λ o. omega arith in
        rw (push-over h limit buffer st c e z).0 (coded_again (lacked_by h limit st buffer) (led-known h limit buffer st e) z)

  coded_end : Coded (ended h limit st buffer).said
  coded_end = by (led h limit st buffer) refl st.mark refl where
    by : (t : Bool) → led h limit st buffer ≡ t → (mark : ℕ) → st.mark ≡ mark → Coded (ended h limit st buffer).said
    by false e mark m = rw (end-malformed h limit buffer st e) coded_malformed
    by true e zero m = rw (end_on h limit buffer st e m) (coded_told (lacked_by h limit st buffer) st.held)
    by true e (suc n) m =
        let z : st.mark ≡ going → ⊥ = λ o. omega arith in
        rw (end-over h limit buffer st e z) (coded_again (lacked_by h limit st buffer) (led-known h limit buffer st e) z)

  told_as : (t : Told) → Coded t.said → means_pushed (pushed_of t) ≡ t
  unfolding pushed_of
  told_as t e = λ i. record { said = e i; took = t.took; next = t.next }

  -- some answer of the code means what is defined
  pub push_coded : (c : List ℕ) → means_pushed (pushed_of (pushed h limit st buffer c)) ≡ pushed h limit st buffer c
  push_coded c = told_as (pushed h limit st buffer c) (coded_push c)

  pub end_coded : means_pushed (pushed_of (ended h limit st buffer)) ≡ ended h limit st buffer
  end_coded = told_as (ended h limit st buffer) coded_end
