-- 10 is answered in just the states that no calls lead to, and a refusal or an end is repeated; over the header's width and the body limit, and for
-- whatever answers the calls as they are defined.
-- Assumes nothing.
use Prim.Native.Nat.{ℕ, zero, suc, ◌+◌, ◌-◌, ◌^◌, ◌≤◌, ◌<◌}
use mathlib.Core.Path.{◌≡◌, refl, ap, sym, ◌∙◌}
use mathlib.Core.Bool.{Bool, true, false, true≢false}
use mathlib.Core.List.{List, [], ◌∷◌, ◌++◌, append_assoc, append-nil}
use native.Mathlib.Nat.{add-zero}
use native.Mathlib.Omega.{arith}
use lib.Dec.{lit<}
use lib.ListN.{length, take, length-append, take-append-drop}
use lib.Seq.{length-take-le}
use Rattle.wire.specs.Answer.{Answer, accepted, refused}
use Rattle.wire.specs.Bytes.{splice, digits}
use Rattle.wire.specs.Refusal.{too_short, too_long, wrong_sum, malformed}
use Rattle.wire.proofs.Answer.{not-both}
use Rattle.wire.proofs.Be.{be_at-between}
use Rattle.wire.proofs.Digits.{length_digits, be-digits}
use Rattle.frame.specs.Framing.{read, longest, length_of, sum_held, sum_made}
use Rattle.frame.specs.Wanting.{wanting, reach}
use Rattle.frame.specs.declared.Frame.{Frame}
use Rattle.frame.proofs.Framing.{is_too_long, is_wrong_sum, read_as_lem}
use Rattle.frame.proofs.Far.{above, at-end, wants}
use Rattle.streams.specs.declared.Stream.{Stream}
use Rattle.streams.specs.Stream.{going, over, state, new_stream, more, Told, unfinished, led, read_on, kept_on, stay, answer_again, lacked_by, pushed, buffer_left, ended}
use Rattle.streams.specs.Steps.{Holding, Standing}
use Rattle.streams.specs.Cutting.{PushCall, EndCall}
use Rattle.streams.specs.Leads.{Leads, fresh, push, close, Takes, Ten, TenPushed, TenEnded, SaysAgain, Repeats}
use Rattle.streams.proofs.States.{Led, goes, told, stop2, stop3, led_as, led-known, held_of, push-on, push-over, push-malformed, end_on, end-over, end-malformed, malformed_stands, over_stands}
use Rattle.streams.proofs.Pushes.{push-within, on-frame, on_lacking, on-stopping, kept_all, kept_none}
use Rattle.streams.proofs.Readings.{Stopping, by_2, by_3, not_short, stop-led, again_end, again_left, Read, a_frame, lacking, stopped, reads, holds-none, left-room, holds_more, is_stopped}
use Rattle.streams.proofs.Cuttings.{Answers}

-- ---- bytes at which a stream stops, by header and limit

-- a header that says one byte more than the limit
too_many : ℕ → ℕ → List ℕ
too_many h limit = digits (h - 4) 0 ++ (digits 4 (limit + 1) ++ [])

-- a frame without a body whose checksum is more than any sum
unsummed : ℕ → List ℕ
unsummed h = digits (h - 4) 0 ++ (digits 4 0 ++ digits 4 256)

header-length : (h v : ℕ) (t : List ℕ) → 4 ≤ h → v < 256 ^ 4 → length_of h (digits (h - 4) 0 ++ (digits 4 v ++ t)) ≡ v
header-length h v t g l =
    let n = length_digits (h - 4) 0 in
    rw n at (be_at-between (digits (h - 4) 0) (digits 4 v) t 4 (length_digits 4 v)) ∙ be-digits 4 v l

many_stops : (h limit : ℕ) → 4 ≤ h → limit + 1 < 256 ^ 4 → (wanting h limit (too_many h limit) ≡ 0) × (read h limit (too_many h limit) ≡ refused too_long [])
unfolding too_many
many_stops h limit g l =
    let s = digits (h - 4) 0 ++ (digits 4 (limit + 1) ++ []) in
    let n : length s ≡ h =
    omega (arith, length-append (digits (h - 4) 0) (digits 4 (limit + 1) ++ []), length-append (digits 4 (limit + 1)) [], length_digits (h - 4) 0, length_digits 4 (limit + 1))
    in
    let e : length_of h s ≡ limit + 1 = header-length h (limit + 1) [] g l in
    (wants (above (omega arith) (omega arith)), read_as_lem (is_too_long {n = limit + 1} (omega arith) (sym e) (omega arith)))

unsummed_stops : (h limit : ℕ) → 4 ≤ h → (wanting h limit (unsummed h) ≡ 0) × (read h limit (unsummed h) ≡ refused wrong_sum [])
unfolding unsummed
unsummed_stops h limit g =
    let a = digits (h - 4) 0 in
    let s = a ++ (digits 4 0 ++ digits 4 256) in
    let m : length (a ++ digits 4 0) ≡ h = omega (arith, length-append a (digits 4 0), length_digits (h - 4) 0, length_digits 4 0) in
    let n : length s ≡ h + 4 =
    omega (arith, length-append a (digits 4 0 ++ digits 4 256), length-append (digits 4 0) (digits 4 256), length_digits (h - 4) 0, length_digits 4 0, length_digits 4 256)
    in
    let e : length_of h s ≡ 0 = header-length h 0 (digits 4 256) g (lit< tt) in
    let q : (a ++ digits 4 0) ++ (digits 4 256 ++ []) ≡ s = append_assoc a (digits 4 0) (digits 4 256 ++ []) ∙ rw (append-nil (digits 4 256)) in
    let d : sum_held h s ≡ 256 = rw (q, m) at (be_at-between (a ++ digits 4 0) (digits 4 256) [] 4 (length_digits 4 256)) ∙ be-digits 4 256 (lit< tt) in
    let z : h + 0 ≡ h = omega arith in
    let w : sum_held (h + 0) s ≡ sum_made (h + 0) s → ⊥ = λ y. omega (arith, rw z at y, d) in
    (wants (at-end (omega arith) (omega arith) (omega arith)), read_as_lem (is_wrong_sum {n = 0} (omega arith) (sym e) (omega arith) (omega arith) w))

splice_self : (buffer : List ℕ) (n : ℕ) → n ≤ length buffer → splice buffer 0 (take n buffer) ≡ buffer
unfolding splice
splice_self buffer n l = let q : 0 + length (take n buffer) ≡ n = omega (arith, length-take-le n buffer l) in rw q (take-append-drop n buffer)

splice-none : (buffer : List ℕ) (n : ℕ) → splice buffer n [] ≡ buffer
unfolding splice
splice-none buffer n = rw (add-zero n) (take-append-drop n buffer)

on-took : (h limit : ℕ) (u c : List ℕ) → (read_on h limit u c).took ≡ reach h limit (u ++ c) - length u
unfolding read_on
on-took h limit u c = refl

-- ---- what a call does to a state that calls lead to

not-led : (h limit : ℕ) (st : Stream) (buffer : List ℕ) → (led h limit st buffer ≡ true → ⊥) → led h limit st buffer ≡ false
not-led h limit st buffer n = by (led h limit st buffer) refl where
  by : (t : Bool) → led h limit st buffer ≡ t → led h limit st buffer ≡ false
  by true e = absurd (n e)
  by false e = e

-- what is told again is never 10
told_said : (w held : ℕ) → answer_again w (state over held) ≡ refused malformed [] → ⊥
told_said w zero e = not-both (again_end w zero refl) e
told_said w (suc n) e =
    let q : refused too_short (w ∷ []) ≡ refused malformed [] = sym (again_left w (suc n) (λ z. omega arith)) ∙ e in
    let z : too_short ≡ malformed = cc in
    omega arith

over-said :
    {h limit mark held : ℕ} {buffer : List ℕ} (w : ℕ) → Led h limit buffer mark held → (mark ≡ going → ⊥) →
    answer_again w (state mark held) ≡ refused malformed [] → ⊥
unfolding answer_again
over-said w (goes k) m e = m refl
over-said w (told {held} k) m e = told_said w held e
over-said w (stop2 b) m e = let z : too_long ≡ malformed = cc in omega arith
over-said w (stop3 b) m e = let z : wrong_sum ≡ malformed = cc in omega arith

module _ (h limit : ℕ) (g : 4 ≤ h) where
  -- one call of a stream that goes on
  module _ (buffer : List ℕ) (held : ℕ) (c : List ℕ) (k : Holding h limit buffer held) where
    abbrev u : List ℕ
    u = take held buffer

    on-led :
        (r : Answer Frame) → read h limit (u ++ c) ≡ r → Read h limit (u ++ c) r →
        Led h limit (kept_on h limit u c buffer) (read_on h limit u c).next.mark (read_on h limit u c).next.held
    on-led _ e (a_frame f) = rw (on-frame h limit u c f e) (goes (holds-none h limit g _ (left-room h limit g buffer held c k)))
    on-led _ e (lacking z) = rw (on_lacking h limit u c z) (goes (holds_more h limit g buffer held c k z))
    on-led _ e (stopped {n} z) =
        rw (on-stopping h limit u c n [] e (not_short z)) (stop-led z (left-room h limit g buffer held c k))

    on-said : (r : Answer Frame) → read h limit (u ++ c) ≡ r → Read h limit (u ++ c) r → (read_on h limit u c).said ≡ refused malformed [] → ⊥
    on-said _ e (a_frame f) d = not-both (ap (λ (t : Told). t.said) (on-frame h limit u c f e)) d
    on-said _ e (lacking z) d = not-both (ap (λ (t : Told). t.said) (on_lacking h limit u c z)) d
    on-said _ e (stopped {n} z) d =
        let y : refused n [] ≡ refused malformed [] = sym (ap (λ (t : Told). t.said) (on-stopping h limit u c n [] e (not_short z))) ∙ d in
        no_ten z (cc) where
          no_ten : {n : ℕ} → Stopping n → n ≡ malformed → ⊥
          no_ten by_2 q = omega arith
          no_ten by_3 q = omega arith

  -- the states that calls lead to pass the test
  push-led : (st : Stream) (buffer c : List ℕ) → led h limit st buffer ≡ true → led h limit (pushed h limit st buffer c).next (buffer_left h limit st buffer c) ≡ true
  push-led st buffer c e = by (led-known h limit buffer st e) refl refl where
    by : {mark held : ℕ} → Led h limit buffer mark held → st.mark ≡ mark → st.held ≡ held → led h limit (pushed h limit st buffer c).next (buffer_left h limit st buffer c) ≡ true
    by (goes {held} k) m n =
        let p = push-on h limit buffer st c e m in
        let k' : Holding h limit buffer st.held = rw n k in
        rw (p.0, p.1) (led_as h limit _ (on-led buffer st.held c k' _ refl (reads h limit (unfinished st buffer ++ c))))
    by (told k) m n = let p = push-over h limit buffer st c e (λ z. omega arith) in rw (p.0, p.1) e
    by (stop2 b) m n = let p = push-over h limit buffer st c e (λ z. omega arith) in rw (p.0, p.1) e
    by (stop3 b) m n = let p = push-over h limit buffer st c e (λ z. omega arith) in rw (p.0, p.1) e

  end-led : (st : Stream) (buffer : List ℕ) → led h limit st buffer ≡ true → led h limit (ended h limit st buffer).next buffer ≡ true
  end-led st buffer e = by (led-known h limit buffer st e) refl refl where
    by : {mark held : ℕ} → Led h limit buffer mark held → st.mark ≡ mark → st.held ≡ held → led h limit (ended h limit st buffer).next buffer ≡ true
    by (goes {held} k) m n = rw (end_on h limit buffer st e m, n) (led_as h limit buffer (told k))
    by (told k) m n = rw (end-over h limit buffer st e (λ z. omega arith)) e
    by (stop2 b) m n = rw (end-over h limit buffer st e (λ z. omega arith)) e
    by (stop3 b) m n = rw (end-over h limit buffer st e (λ z. omega arith)) e

  -- 10 only where the test fails
  pub push-ten : (st : Stream) (buffer c : List ℕ) → led h limit st buffer ≡ true → (pushed h limit st buffer c).said ≡ refused malformed [] → ⊥
  push-ten st buffer c e d = by (led-known h limit buffer st e) refl refl where
    said-over : {mark held : ℕ} → Led h limit buffer mark held → (mark ≡ going → ⊥) → st.mark ≡ mark → st.held ≡ held → ⊥
    said-over l z m n =
        let y : st ≡ state _ _ = λ i. record { held = n i; mark = m i } in
        let q : st.mark ≡ going → ⊥ = λ o. z (sym m ∙ o) in
        over-said (lacked_by h limit st buffer) l z (sym (ap (λ (t : Told). t.said) (push-over h limit buffer st c e q).0 ∙ ap (answer_again (lacked_by h limit st buffer)) y) ∙ d)

    by : {mark held : ℕ} → Led h limit buffer mark held → st.mark ≡ mark → st.held ≡ held → ⊥
    by (goes {held} k) m n =
        let p = push-on h limit buffer st c e m in
        let k' : Holding h limit buffer st.held = rw n k in
        on-said buffer st.held c k' _ refl (reads h limit (unfinished st buffer ++ c)) (sym (ap (λ (t : Told). t.said) p.0) ∙ d)
    by (told k) m n = said-over (told k) (λ z. omega arith) m n
    by (stop2 b) m n = said-over (stop2 b) (λ z. omega arith) m n
    by (stop3 b) m n = said-over (stop3 b) (λ z. omega arith) m n

  pub end-ten : (st : Stream) (buffer : List ℕ) → led h limit st buffer ≡ true → (ended h limit st buffer).said ≡ refused malformed [] → ⊥
  end-ten st buffer e d = by (led-known h limit buffer st e) refl refl where
    said-over : {mark held : ℕ} → Led h limit buffer mark held → (mark ≡ going → ⊥) → st.mark ≡ mark → st.held ≡ held → ⊥
    said-over l z m n =
        let y : st ≡ state _ _ = λ i. record { held = n i; mark = m i } in
        let q : st.mark ≡ going → ⊥ = λ o. z (sym m ∙ o) in
        over-said (lacked_by h limit st buffer) l z (sym (ap (λ (t : Told). t.said) (end-over h limit buffer st e q) ∙ ap (answer_again (lacked_by h limit st buffer)) y) ∙ d)

    by : {mark held : ℕ} → Led h limit buffer mark held → st.mark ≡ mark → st.held ≡ held → ⊥
    by (goes k) m n = told_said (lacked_by h limit st buffer) st.held (sym (ap (λ (t : Told). t.said) (end_on h limit buffer st e m)) ∙ d)
    by (told k) m n = said-over (told k) (λ z. omega arith) m n
    by (stop2 b) m n = said-over (stop2 b) (λ z. omega arith) m n
    by (stop3 b) m n = said-over (stop3 b) (λ z. omega arith) m n

  -- ---- the calls

  module _ {Push : PushCall} {End : EndCall} (x : Answers h limit Push End) where
    leads_led : {st : Stream} {buffer : List ℕ} → Leads h limit Push End st buffer → led h limit st buffer ≡ true
    leads_led (fresh buffer b) = led_as h limit buffer (goes (holds-none h limit g buffer b))
    leads_led (push {st} {buffer} c t left from p) =
        let q = x.push_as p in
        rw (q.0, q.1) (push-led st buffer c (leads_led from))
    leads_led (close {st} {buffer} t from p) = rw (x.end_as p) (end-led st buffer (leads_led from))

    -- the bytes held come as one cut
    leads_going : (buffer : List ℕ) (held : ℕ) → Holding h limit buffer held → Leads h limit Push End (state going held) buffer
    leads_going buffer held k =
        let u = take held buffer in
        let p = push-on h limit buffer new_stream u (led_as h limit buffer (goes (holds-none h limit g buffer k.room))) refl in
        let next : (pushed h limit new_stream buffer u).next ≡ state going held =
        ap (λ (t : Told). t.next) (p.0 ∙ on_lacking h limit [] u k.lacks) ∙ rw (length-take-le held buffer k.within)
        in
        let left : buffer_left h limit new_stream buffer u ≡ buffer = p.1 ∙ kept_all h limit [] u buffer k.lacks ∙ splice_self buffer held k.within in
        let from : Leads h limit Push End (pushed h limit new_stream buffer u).next (buffer_left h limit new_stream buffer u) =
        push u _ _ (fresh buffer k.room) (x.push_can new_stream buffer u)
        in
        rw (next, left) at from

    -- a cut that stops the stream
    leads_stop :
        (buffer c : List ℕ) {n : ℕ} → longest h limit ≤ length buffer → wanting h limit c ≡ 0 → read h limit c ≡ refused n [] → Stopping n →
        Leads h limit Push End (state n 0) buffer
    leads_stop buffer c {n} b w e z =
        let p = push-on h limit buffer new_stream c (led_as h limit buffer (goes (holds-none h limit g buffer b))) refl in
        let next : (pushed h limit new_stream buffer c).next ≡ state n 0 =
        ap (λ (t : Told). t.next) (p.0 ∙ on-stopping h limit [] c n [] e (not_short z))
        in
        let left : buffer_left h limit new_stream buffer c ≡ buffer = p.1 ∙ kept_none h limit c buffer w in
        let from : Leads h limit Push End (pushed h limit new_stream buffer c).next (buffer_left h limit new_stream buffer c) =
        push c _ _ (fresh buffer b) (x.push_can new_stream buffer c)
        in
        rw (next, left) at from

    -- ---- 10, where a header can say more than the limit

    module _ (l : limit + 1 < 256 ^ 4) where
      led_leads : {buffer : List ℕ} {mark held : ℕ} → Led h limit buffer mark held → Leads h limit Push End (state mark held) buffer
      led_leads {buffer} (goes {held} k) = leads_going buffer held k
      led_leads {buffer} (told {held} k) =
          let e = led_as h limit buffer (goes k) in
          rw (end_on h limit buffer (state going held) e refl) at (close _ (leads_going buffer held k) (x.end_can (state going held) buffer))
      led_leads {buffer} (stop2 b) = let s = many_stops h limit g l in leads_stop buffer (too_many h limit) b s.0 s.1 by_2
      led_leads {buffer} (stop3 b) = let s = unsummed_stops h limit g in leads_stop buffer (unsummed h) b s.0 s.1 by_3

      -- no calls lead to a state exactly where the test fails
      none_leads : (st : Stream) (buffer : List ℕ) → (Leads h limit Push End st buffer → ⊥) → led h limit st buffer ≡ false
      none_leads st buffer n = not-led h limit st buffer (λ e. n (led_leads (led-known h limit buffer st e)))

      led-not : (st : Stream) (buffer : List ℕ) → led h limit st buffer ≡ false → Leads h limit Push End st buffer → ⊥
      led-not st buffer e from = true≢false (sym (leads_led from) ∙ e)

      else_leads : (st : Stream) (buffer : List ℕ) → (led h limit st buffer ≡ false → ⊥) → Leads h limit Push End st buffer
      else_leads st buffer n = by (led h limit st buffer) refl where
        by : (t : Bool) → led h limit st buffer ≡ t → Leads h limit Push End st buffer
        by true e = led_leads (led-known h limit buffer st e)
        by false e = absurd (n e)

      push-ten-exactly :
          (st : Stream) (buffer c : List ℕ) (t : Told) (left : List ℕ) → Push st buffer c t left → TenPushed h limit Push End st buffer c t left
      push-ten-exactly st buffer c t left p =
          let q = x.push_as p in
          let off : t.said ≡ refused malformed [] → led h limit st buffer ≡ false =
          λ d. not-led h limit st buffer (λ e. push-ten st buffer c e (sym (ap (λ (t : Told). t.said) q.0) ∙ d))
          in
          record {
            exactly = (λ d. led-not st buffer (off d), λ n. ap (λ (t : Told). t.said) (q.0 ∙ (push-malformed h limit buffer st c (none_leads st buffer n)).0));
            else = λ n. else_leads st buffer (λ e. n (ap (λ (t : Told). t.said) (q.0 ∙ (push-malformed h limit buffer st c e).0)));
            stands = λ d. let m = push-malformed h limit buffer st c (off d) in (q.0 ∙ m.0, q.1 ∙ m.1);
          }

      end-ten-exactly : (st : Stream) (buffer : List ℕ) (t : Told) → End st buffer t → TenEnded h limit Push End st buffer t
      end-ten-exactly st buffer t p =
          let q = x.end_as p in
          let off : t.said ≡ refused malformed [] → led h limit st buffer ≡ false =
          λ d. not-led h limit st buffer (λ e. end-ten st buffer e (sym (ap (λ (t : Told). t.said) q) ∙ d))
          in
          record {
            exactly = (λ d. led-not st buffer (off d), λ n. ap (λ (t : Told). t.said) (q ∙ end-malformed h limit buffer st (none_leads st buffer n)));
            else = λ n. else_leads st buffer (λ e. n (ap (λ (t : Told). t.said) (q ∙ end-malformed h limit buffer st e)));
            stands = λ d. q ∙ end-malformed h limit buffer st (off d);
          }

      pub ten : Ten h limit Push End
      ten = record { pushed = push-ten-exactly; ended = end-ten-exactly }

    -- ---- what is taken

    push-nothing :
        (st : Stream) (buffer : List ℕ) → led h limit st buffer ≡ true → st.mark ≡ going →
        (pushed h limit st buffer [] ≡ stay (accepted (more (lacked_by h limit st buffer ∷ []))) st) × (buffer_left h limit st buffer [] ≡ buffer)
    push-nothing st buffer e m =
        let k = held_of h limit buffer st e m in
        let u = unfinished st buffer in
        let z : 0 < wanting h limit (u ++ []) = rw (append-nil u) k.lacks in
        let n : length (u ++ []) ≡ st.held = rw (append-nil u) (length-take-le st.held buffer k.within) in
        let p = push-on h limit buffer st [] e m in
        let q : state going (length (u ++ [])) ≡ st = λ i. record { held = n i; mark = sym m i } in
        let w : wanting h limit (u ++ []) ≡ wanting h limit u = rw (append-nil u) in
        (p.0 ∙ on_lacking h limit u [] z ∙ rw w (ap (λ (x : Stream). stay (accepted (more (wanting h limit u ∷ []))) x) q), p.1 ∙ kept_all h limit u [] buffer z ∙ splice-none buffer (length u))

    pub takes : Takes h limit Push End
    takes =
        record {
          within = λ st buffer c t left p. rw (x.push_as p).0 (push-within h limit st buffer c);
          nothing = λ st buffer t left from m p.
              let n = push-nothing st buffer (leads_led from) m in
              ((x.push_as p).0 ∙ n.0, (x.push_as p).1 ∙ n.1);
        }

    -- ---- what is repeated

    says_again : (t : Told) (buffer : List ℕ) → Standing h limit t.next buffer t.said → SaysAgain Push End t buffer
    says_again t buffer s =
        record {
          pushed = λ c again left p. ((x.push_as p).0 ∙ (s.pushes c).0, (x.push_as p).1 ∙ (s.pushes c).1);
          ended = λ again p. x.end_as p ∙ s.ends;
        }

    on-refused :
        (buffer : List ℕ) (held : ℕ) (c : List ℕ) (n : ℕ) (vs : List ℕ) → Holding h limit buffer held → (read_on h limit (take held buffer) c).said ≡ refused n vs →
        (r : Answer Frame) → read h limit (take held buffer ++ c) ≡ r → Read h limit (take held buffer ++ c) r →
        Standing h limit (read_on h limit (take held buffer) c).next (kept_on h limit (take held buffer) c buffer) (read_on h limit (take held buffer) c).said
    on-refused buffer held c n vs k d _ e (a_frame f) = absurd (not-both (ap (λ (t : Told). t.said) (on-frame h limit (take held buffer) c f e)) d)
    on-refused buffer held c n vs k d _ e (lacking z) = absurd (not-both (ap (λ (t : Told). t.said) (on_lacking h limit (take held buffer) c z)) d)
    on-refused buffer held c m vs k d _ e (stopped {n} z) =
        rw (on-stopping h limit (take held buffer) c n [] e (not_short z)) (is_stopped h limit _ (state n 0) z refl refl (left-room h limit g buffer held c k))

    push_stands :
        (st : Stream) (buffer c : List ℕ) (n : ℕ) (vs : List ℕ) → (pushed h limit st buffer c).said ≡ refused n vs →
        Standing h limit (pushed h limit st buffer c).next (buffer_left h limit st buffer c) (pushed h limit st buffer c).said
    push_stands st buffer c n vs d = by (led h limit st buffer) refl st.mark refl where
      by : (t : Bool) → led h limit st buffer ≡ t → (mark : ℕ) → st.mark ≡ mark →
          Standing h limit (pushed h limit st buffer c).next (buffer_left h limit st buffer c) (pushed h limit st buffer c).said
      by false e mark m = let p = push-malformed h limit buffer st c e in rw (p.0, p.1) (malformed_stands h limit buffer st e)
      by true e zero m =
          let p = push-on h limit buffer st c e m in
          rw (p.0, p.1)
          (on-refused buffer st.held c n vs (held_of h limit buffer st e m) (sym (ap (λ (t : Told). t.said) p.0) ∙ d) _ refl
          (reads h limit (unfinished st buffer ++ c)))
      by true e (suc k) m =
          let z : st.mark ≡ going → ⊥ = λ o. omega arith in
          let p = push-over h limit buffer st c e z in
          rw (p.0, p.1) (over_stands h limit buffer st e z)

    end_stands : (st : Stream) (buffer : List ℕ) → Standing h limit (ended h limit st buffer).next buffer (ended h limit st buffer).said
    end_stands st buffer = by (led h limit st buffer) refl st.mark refl where
      by : (t : Bool) → led h limit st buffer ≡ t → (mark : ℕ) → st.mark ≡ mark → Standing h limit (ended h limit st buffer).next buffer (ended h limit st buffer).said
      by false e mark m = rw (end-malformed h limit buffer st e) (malformed_stands h limit buffer st e)
      by true e zero m =
          rw (end_on h limit buffer st e m)
          (over_stands h limit buffer (state over st.held) (led_as h limit buffer (told (held_of h limit buffer st e m))) (λ o. omega arith))
      by true e (suc k) m =
          let z : st.mark ≡ going → ⊥ = λ o. omega arith in
          rw (end-over h limit buffer st e z) (over_stands h limit buffer st e z)

    pub repeats : Repeats Push End
    repeats =
        record {
          refusal = λ st buffer c t left n vs p d.
              let q = x.push_as p in
              says_again t left (rw (q.0, q.1) (push_stands st buffer c n vs (sym (ap (λ (t : Told). t.said) q.0) ∙ d)));
          end = λ st buffer t p. says_again t buffer (rw (x.end_as p) (end_stands st buffer));
        }
