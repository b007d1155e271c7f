-- What "more" and 1 say is missing, and a host that hands in just so many bytes; over the header's width and the body limit, and for whatever
-- answers the calls as they are defined.
-- Assumes nothing.
use Prim.Native.Nat.{ℕ, zero, suc, ◌+◌, ◌*◌, ◌≤◌, ◌<◌}
use mathlib.Core.Path.{◌≡◌, refl, ap, sym, ◌∙◌}
use mathlib.Core.Bool.{Bool, true, false}
use mathlib.Core.List.{List, [], ◌∷◌, ◌++◌}
use native.Mathlib.Omega.{arith}
use lib.ListN.{length, take}
use Rattle.wire.specs.Answer.{Answer, accepted, refused}
use Rattle.wire.specs.Refusal.{too_short}
use Rattle.wire.proofs.Answer.{not-both}
use Rattle.frame.specs.Framing.{read, longest}
use Rattle.frame.specs.Wanting.{wanting}
use Rattle.frame.specs.declared.Frame.{Frame}
use Rattle.frame.proofs.Far.{missing}
use Rattle.frame.proofs.Lacking as lacking_laws
use Rattle.streams.specs.declared.Stream.{Stream}
use Rattle.streams.specs.Stream.{going, over, state, new_stream, Where, Said, frame, more, end, Told, unfinished, led, read_on, kept_on, answer_again, lacked_by, pushed, buffer_left, ended}
use Rattle.streams.specs.Cutting.{PushCall, EndCall}
use Rattle.streams.specs.Missing.{SaysMissing, Hands, last, brings, goes_on, TwoPushes}
use Rattle.streams.proofs.States.{Led, goes, told, stop2, stop3, led-known, led-going, held_of, push-on, push-over, push-malformed, end_on, end-over, end-malformed}
use Rattle.streams.proofs.Pushes.{on-frame, on_lacking, on-stopping}
use Rattle.streams.proofs.Readings.{not_short, by_2, by_3, stop_again, again_end, again_left, Read, a_frame, lacking, stopped, reads, holds-none, left-length, more_front}
use Rattle.streams.proofs.Cuttings.{Answers}

-- ---- answers that are not both

same_more : {a : Answer Said} {us vs : List ℕ} → a ≡ accepted (more us) → a ≡ accepted (more vs) → us ≡ vs
same_more e d = cc

frame-more : {a : Answer Said} {w : Where} {f : Frame} {vs : List ℕ} → a ≡ accepted (frame w f) → a ≡ accepted (more vs) → ⊥
frame-more e d = let z : ◌≡◌ {A = ℕ} 0 1 = cc in omega arith

frame-end : {a : Answer Said} {w : Where} {f : Frame} → a ≡ accepted (frame w f) → a ≡ accepted end → ⊥
frame-end e d = let z : ◌≡◌ {A = ℕ} 0 1 = cc in omega arith

end_more : {a : Answer Said} {vs : List ℕ} → a ≡ accepted end → a ≡ accepted (more vs) → ⊥
end_more e d = let z : ◌≡◌ {A = ℕ} 0 1 = cc in omega arith

same_short : {a : Answer Said} {us vs : List ℕ} → a ≡ refused too_short us → a ≡ refused too_short vs → us ≡ vs
same_short e d = cc

other_short : {a : Answer Said} {n : ℕ} {us vs : List ℕ} → a ≡ refused n us → (n ≡ too_short → ⊥) → a ≡ refused too_short vs → ⊥
other_short e z d = z (cc)

abbrev said : Told → Answer Said
said t = t.said

-- ---- a cut of a stream that goes on, by what is read

module _ (h limit : ℕ) where
  on-more :
      (u c vs : List ℕ) (r : Answer Frame) → read h limit (u ++ c) ≡ r → Read h limit (u ++ c) r → (read_on h limit u c).said ≡ accepted (more vs) →
      read h limit (u ++ c) ≡ refused too_short vs
  on-more u c vs _ e (a_frame f) d = absurd (frame-more (ap said (on-frame h limit u c f e)) d)
  on-more u c vs _ e (lacking z) d = e ∙ ap (λ (ws : List ℕ). refused too_short ws) (same_more (ap said (on_lacking h limit u c z)) d)
  on-more u c vs _ e (stopped {n} z) d = absurd (not-both d (ap said (on-stopping h limit u c n [] e (not_short z))))

  on_short :
      (u c vs : List ℕ) (r : Answer Frame) → read h limit (u ++ c) ≡ r → Read h limit (u ++ c) r → (read_on h limit u c).said ≡ refused too_short vs → ⊥
  on_short u c vs _ e (a_frame f) d = not-both (ap said (on-frame h limit u c f e)) d
  on_short u c vs _ e (lacking z) d = not-both (ap said (on_lacking h limit u c z)) d
  on_short u c vs _ e (stopped {n} z) d = other_short (ap said (on-stopping h limit u c n [] e (not_short z))) (not_short z) d

  on-fresh :
      (u c : List ℕ) {w : Where} {f : Frame} (r : Answer Frame) → read h limit (u ++ c) ≡ r → Read h limit (u ++ c) r →
      (read_on h limit u c).said ≡ accepted (frame w f) → (read_on h limit u c).next ≡ new_stream
  on-fresh u c _ e (a_frame f) d = ap (λ (t : Told). t.next) (on-frame h limit u c f e)
  on-fresh u c _ e (lacking z) d = absurd (frame-more d (ap said (on_lacking h limit u c z)))
  on-fresh u c _ e (stopped {n} z) d = absurd (not-both d (ap said (on-stopping h limit u c n [] e (not_short z))))

  -- ---- one that is over, by its mark

  told_frame : (w held : ℕ) {at : Where} {f : Frame} → answer_again w (state over held) ≡ accepted (frame at f) → ⊥
  told_frame w zero d = frame-end d (again_end w zero refl)
  told_frame w (suc n) d = not-both d (again_left w (suc n) (λ z. omega arith))

  over-frame :
      {mark held : ℕ} {buffer : List ℕ} (w : ℕ) {at : Where} {f : Frame} → Led h limit buffer mark held → (mark ≡ going → ⊥) →
      answer_again w (state mark held) ≡ accepted (frame at f) → ⊥
  over-frame w (goes k) m d = m refl
  over-frame w (told {held} k) m d = told_frame w held d
  over-frame w (stop2 b) m d = not-both d (stop_again w by_2)
  over-frame w (stop3 b) m d = not-both d (stop_again w by_3)

  told_more : (w held : ℕ) (vs : List ℕ) → answer_again w (state over held) ≡ accepted (more vs) → ⊥
  told_more w zero vs d = end_more (again_end w zero refl) d
  told_more w (suc n) vs d = not-both d (again_left w (suc n) (λ z. omega arith))

  over-more :
      {mark held : ℕ} {buffer : List ℕ} (w : ℕ) (vs : List ℕ) → Led h limit buffer mark held → (mark ≡ going → ⊥) →
      answer_again w (state mark held) ≡ accepted (more vs) → ⊥
  over-more w vs (goes k) m d = m refl
  over-more w vs (told {held} k) m d = told_more w held vs d
  over-more w vs (stop2 b) m d = not-both d (stop_again w by_2)
  over-more w vs (stop3 b) m d = not-both d (stop_again w by_3)

  told_short :
      (buffer : List ℕ) (held : ℕ) (vs : List ℕ) → 0 < wanting h limit (take held buffer) →
      answer_again (wanting h limit (take held buffer)) (state over held) ≡ refused too_short vs → read h limit (take held buffer) ≡ refused too_short vs
  told_short buffer zero vs z d = absurd (not-both (again_end _ zero refl) d)
  told_short buffer (suc n) vs z d =
      missing h limit (take (suc n) buffer) z
      ∙ ap (λ (ws : List ℕ). refused too_short ws) (same_short (again_left _ (suc n) (λ y. omega arith)) d)

  over_short :
      {mark held : ℕ} {buffer : List ℕ} (vs : List ℕ) → Led h limit buffer mark held → (mark ≡ going → ⊥) →
      answer_again (wanting h limit (take held buffer)) (state mark held) ≡ refused too_short vs → read h limit (take held buffer) ≡ refused too_short vs
  over_short vs (goes k) m d = absurd (m refl)
  over_short {buffer = buffer} vs (told {held} k) m d = told_short buffer held vs k.lacks d
  over_short vs (stop2 b) m d = absurd (other_short (stop_again _ by_2) (λ z. omega arith) d)
  over_short vs (stop3 b) m d = absurd (other_short (stop_again _ by_3) (λ z. omega arith) d)

  -- ---- the calls

  module _ (st : Stream) (buffer : List ℕ) where
    push-more : (c vs : List ℕ) → (pushed h limit st buffer c).said ≡ accepted (more vs) → read h limit (unfinished st buffer ++ c) ≡ refused too_short vs
    push-more c vs d = by (led h limit st buffer) refl st.mark refl where
      by : (t : Bool) → led h limit st buffer ≡ t → (mark : ℕ) → st.mark ≡ mark → read h limit (unfinished st buffer ++ c) ≡ refused too_short vs
      by false e mark m = absurd (not-both d (ap said (push-malformed h limit buffer st c e).0))
      by true e zero m =
          on-more (unfinished st buffer) c vs _ refl (reads h limit (unfinished st buffer ++ c)) (sym (ap said (push-on h limit buffer st c e m).0) ∙ d)
      by true e (suc n) m =
          let z : st.mark ≡ going → ⊥ = λ o. omega arith in
          absurd (over-more (lacked_by h limit st buffer) vs (led-known h limit buffer st e) z (sym (ap said (push-over h limit buffer st c e z).0) ∙ d))

    push_short : (c vs : List ℕ) → (pushed h limit st buffer c).said ≡ refused too_short vs → read h limit (unfinished st buffer) ≡ refused too_short vs
    push_short c vs d = by (led h limit st buffer) refl st.mark refl where
      by : (t : Bool) → led h limit st buffer ≡ t → (mark : ℕ) → st.mark ≡ mark → read h limit (unfinished st buffer) ≡ refused too_short vs
      by false e mark m = absurd (other_short (ap said (push-malformed h limit buffer st c e).0) (λ z. omega arith) d)
      by true e zero m =
          absurd
          (on_short (unfinished st buffer) c vs _ refl (reads h limit (unfinished st buffer ++ c)) (sym (ap said (push-on h limit buffer st c e m).0) ∙ d))
      by true e (suc n) m =
          let z : st.mark ≡ going → ⊥ = λ o. omega arith in
          over_short vs (led-known h limit buffer st e) z (sym (ap said (push-over h limit buffer st c e z).0) ∙ d)

    end_short : (vs : List ℕ) → (ended h limit st buffer).said ≡ refused too_short vs → read h limit (unfinished st buffer) ≡ refused too_short vs
    end_short vs d = by (led h limit st buffer) refl st.mark refl where
      by : (t : Bool) → led h limit st buffer ≡ t → (mark : ℕ) → st.mark ≡ mark → read h limit (unfinished st buffer) ≡ refused too_short vs
      by false e mark m = absurd (other_short (ap said (end-malformed h limit buffer st e)) (λ z. omega arith) d)
      by true e zero m =
          told_short buffer st.held vs (held_of h limit buffer st e m).lacks (sym (ap said (end_on h limit buffer st e m)) ∙ d)
      by true e (suc n) m =
          let z : st.mark ≡ going → ⊥ = λ o. omega arith in
          over_short vs (led-known h limit buffer st e) z (sym (ap said (end-over h limit buffer st e z)) ∙ d)

    -- behind a frame the stream is new, and every push leaves a buffer as long
    push-fresh : (c : List ℕ) {w : Where} {f : Frame} → (pushed h limit st buffer c).said ≡ accepted (frame w f) → (pushed h limit st buffer c).next ≡ new_stream
    push-fresh c {w} {f} d = by (led h limit st buffer) refl st.mark refl where
      by : (t : Bool) → led h limit st buffer ≡ t → (mark : ℕ) → st.mark ≡ mark → (pushed h limit st buffer c).next ≡ new_stream
      by false e mark m = absurd (not-both d (ap said (push-malformed h limit buffer st c e).0))
      by true e zero m =
          let o = (push-on h limit buffer st c e m).0 in
          ap (λ (t : Told). t.next) o
          ∙ on-fresh (unfinished st buffer) c _ refl (reads h limit (unfinished st buffer ++ c)) (sym (ap said o) ∙ d)
      by true e (suc n) m =
          let z : st.mark ≡ going → ⊥ = λ o. omega arith in
          absurd (over-frame (lacked_by h limit st buffer) (led-known h limit buffer st e) z (sym (ap said (push-over h limit buffer st c e z).0) ∙ d))

  push-room : 4 ≤ h → (st : Stream) (buffer c : List ℕ) → length (buffer_left h limit st buffer c) ≡ length buffer
  push-room g st buffer c = by (led h limit st buffer) refl st.mark refl where
    by : (t : Bool) → led h limit st buffer ≡ t → (mark : ℕ) → st.mark ≡ mark → length (buffer_left h limit st buffer c) ≡ length buffer
    by false e mark m = rw (push-malformed h limit buffer st c e).1
    by true e zero m = rw (push-on h limit buffer st c e m).1 (left-length h limit g buffer st.held c (held_of h limit buffer st e m))
    by true e (suc n) m = rw (push-over h limit buffer st c e (λ o. omega arith)).1

-- ---- whatever answers the calls as they are defined

module _ (h limit : ℕ) (g : 4 ≤ h) {Push : PushCall} {End : EndCall} (x : Answers h limit Push End) where
  pub says-missing : SaysMissing h limit Push End
  says-missing =
      record {
        on = λ st buffer c t left vs p d. push-more h limit st buffer c vs (sym (ap said (x.push_as p).0) ∙ d);
        pushed = λ st buffer c t left vs p d. push_short h limit st buffer c vs (sym (ap said (x.push_as p).0) ∙ d);
        ended = λ st buffer t vs p d. end_short h limit st buffer vs (sym (ap said (x.end_as p)) ∙ d);
      }

  next-fresh :
      {st : Stream} {buffer c left : List ℕ} {t : Told} {w : Where} {f : Frame} → Push st buffer c t left → t.said ≡ accepted (frame w f) →
      t.next ≡ new_stream
  next-fresh {st} {buffer} {c} p d =
      let q = (x.push_as p).0 in
      ap (λ (t : Told). t.next) q ∙ push-fresh h limit st buffer c (sym (ap said q) ∙ d)

  next-room :
      {st : Stream} {buffer c left : List ℕ} {t : Told} → longest h limit ≤ length buffer → Push st buffer c t left → longest h limit ≤ length left
  next-room {st} {buffer} {c} b p = rw ((x.push_as p).1, push-room h limit g st buffer c) b

  -- behind the first cut the buffer begins with it
  first_held :
      (buffer c left : List ℕ) (t : Told) (vs : List ℕ) → longest h limit ≤ length buffer → Push new_stream buffer c t left →
      t.said ≡ accepted (more vs) → unfinished t.next left ≡ c
  first_held buffer c left t vs b p d =
      let k = holds-none h limit g buffer b in
      let q = x.push_as p in
      let o = push-on h limit buffer new_stream c (led-going h limit buffer new_stream k refl) refl in
      let e = says-missing.on new_stream buffer c t left vs p d in
      let z = (lacking_laws.told h limit c vs e).1 in
      let n : t.next ≡ state going (length c) = ap (λ (t : Told). t.next) (q.0 ∙ o.0 ∙ on_lacking h limit [] c z) in
      let f : left ≡ kept_on h limit [] c buffer = q.1 ∙ o.1 in
      rw (n, f) (more_front h limit g buffer 0 c k z)

  -- where the host stands: a new stream, or one that holds a header; and how many pushes end its frame
  data Stands (n : ℕ) (st : Stream) (buffer : List ℕ) : ℕ → Type 0 where
    fresh : st ≡ new_stream → n ≡ h → Stands n st buffer 2
    headed : (u : List ℕ) → unfinished st buffer ≡ u → length u ≡ h → read h limit u ≡ refused too_short (n ∷ []) → Stands n st buffer 1

  two :
      {n pushes frames left : ℕ} {st : Stream} {buffer : List ℕ} → Stands n st buffer left → longest h limit ≤ length buffer →
      Hands h Push n st buffer pushes frames → pushes ≤ 2 * frames + left
  two (fresh s e) b (last c t left l p) = omega arith
  two (headed u s e r) b (last c t left l p) = omega arith
  two (fresh s e) b (goes_on c t left w f l p d rest) = let i = two (fresh (next-fresh p d) refl) (next-room b p) rest in omega arith
  two (headed u s e r) b (goes_on c t left w f l p d rest) = let i = two (fresh (next-fresh p d) refl) (next-room b p) rest in omega arith
  two {buffer = buffer} (fresh s e) b (brings c t left m l p d rest) =
      let q = rw s at p in
      let i = two (headed c (first_held buffer c left t (m ∷ []) b q d) (l ∙ e) (says-missing.on new_stream buffer c t left (m ∷ []) q d)) (next-room b p) rest in
      omega arith
  two {st = st} {buffer = buffer} (headed u s e r) b (brings c t left m l p d rest) =
      let d' : read h limit (u ++ c) ≡ refused too_short (m ∷ []) = rw s at (says-missing.on st buffer c t left (m ∷ []) p d) in
      absurd (lacking_laws.not_twice h limit g u c _ (omega arith) r l (m ∷ []) d')

  pub two_pushes : TwoPushes h limit Push
  two_pushes buffer pushes frames b p = two (fresh refl refl) b p
