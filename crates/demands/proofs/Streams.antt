-- The stream in cuts: the calls' contracts answer as `streams` defines, and so its laws hold of them; and each refusal by its condition.
-- Assumes nothing.
use Prim.Native.Nat.{ℕ, zero, suc, ◌+◌, ◌-◌, ◌≤◌, ◌<◌}
use mathlib.Core.Path.{◌≡◌, refl, ap, sym, ◌∙◌}
use mathlib.Core.Bool.{Bool, true, false}
use mathlib.Core.Logic.{◌⊎◌, inl, inr, ◌↔◌}
use mathlib.Core.List.{List, [], ◌∷◌, ◌++◌}
use native.Mathlib.Nat.{sub-zero}
use native.Mathlib.Omega.{arith}
use borrow.Author.Tests.{lt-ltb, le-ltb}
use lib.Dec.{lit≤, lit<}
use lib.ListN.{length, take}
use Rattle.wire.specs.Answer.{Answer, refused}
use Rattle.wire.specs.Refusal.{too_short, too_long, wrong_sum, malformed}
use Rattle.frame.specs.Framing.{read, header_width, body_limit}
use Rattle.frame.specs.Wanting.{end_of, wanting}
use Rattle.frame.specs.declared.Frame.{Frame}
use Rattle.frame.specs.declared.Refusal.TheVariants.{TooShort, TooLong, WrongSum}
use Rattle.frame.proofs.Framing.{Reading, no_header, is_too_long, cut, is_wrong_sum, whole, view}
use Rattle.frame.proofs.Far.{Far, in_header, above, in_body, at-end, far}
use Rattle.streams.specs.Stream.{going, over, state, Where, Told, unfinished, stands, said_of, led, read_on, answer_again, lacked_by, pushed, buffer_left, ended}
use Rattle.streams.specs.Cutting.{PushCall, EndCall, PushAs, EndAs}
use Rattle.streams.specs.Paper.{means_says, means_pushed}
use Rattle.streams.specs.Steps.{Holding}
use Rattle.streams.specs.declared.Stream.{Stream}
use Rattle.streams.specs.declared.Says.{Says}
use Rattle.streams.specs.declared.Says.TheVariants as says
use Rattle.streams.proofs.States.{Led, goes, told, stop2, stop3, led-known, held_of, push-on, push-over, push-malformed, end_on, end-over, end-malformed}
use Rattle.streams.proofs.Readings.{by_2, by_3, stop_again, again_end, again_left}
use Rattle.streams.proofs.Cuttings.{Answers, cutting, every_cutting}
use Rattle.streams.proofs.Leading.{takes, ten, repeats, push-ten, end-ten}
use Rattle.streams.proofs.Missing.{says-missing, two_pushes}
use Rattle.streams.proofs.Unique.{pushed_of, push_coded, end_coded}
use Rattle.orizhgum.specs.Streamed.{said_answer, stream_answer}
use Rattle.demands.specs.CalledFromC.{by_stream_push, by_stream_end}
use Rattle.demands.specs.Streams.{PushTells, push_tells, EndTells, end_tells, PushTellsC, push_tells_c, EndTellsC, end_tells_c, told_by, LedTo, InCuts}
use Rattle.demands.specs.Rules.{Rule, ◌if◌, ◌lacking◌provided◌, Judged, success, here, later}
use Rattle.demands.specs.Conditions.{L, lacks, TooLongIn, WrongSumIn, GoesOn, LeftOver}
use Rattle.demands.specs.Demand1.{push_rules, end_rules}
use Rattle.demands.proofs.Calls.{lent, lent_mut, stream_push_as, stream_end_as, stream_push, stream_end}
use Rattle.demands.proofs.CalledFromC.{stream-push-from, stream-end-from}
use Rattle.demands.proofs.Rules.{answered}

-- ---- the library's calls answer as is defined

push_as : {st : Stream} {buffer c left : List ℕ} {t : Told} → PushTells st buffer c t left → PushAs header_width body_limit st buffer c t left
push_as (push_tells r h) = stream_push_as h

end_as : {st : Stream} {buffer : List ℕ} {t : Told} → EndTells st buffer t → EndAs header_width body_limit st buffer t
end_as (end_tells r h) = stream_end_as h

push_can : (st : Stream) (buffer c : List ℕ) → PushTells st buffer c (pushed header_width body_limit st buffer c) (buffer_left header_width body_limit st buffer c)
push_can st buffer c =
    let e = push_coded header_width body_limit st buffer c in
    let h : PushTells st buffer c (means_pushed (pushed_of (pushed header_width body_limit st buffer c))) (buffer_left header_width body_limit st buffer c) =
    push_tells (pushed_of (pushed header_width body_limit st buffer c)) (stream_push st buffer c _ (pushed_of (pushed header_width body_limit st buffer c)) (e, refl))
    in
    rw e at h

end_can : (st : Stream) (buffer : List ℕ) → EndTells st buffer (ended header_width body_limit st buffer)
end_can st buffer =
    let e = end_coded header_width body_limit st buffer in
    let h : EndTells st buffer (means_pushed (pushed_of (ended header_width body_limit st buffer))) = end_tells (pushed_of (ended header_width body_limit st buffer)) (stream_end st buffer (pushed_of (ended header_width body_limit st buffer)) e) in
    rw e at h

answers : Answers header_width body_limit PushTells EndTells
answers = record { push_as = push_as; push_can = push_can; end_as = end_as; end_can = end_can }

-- ---- and so do those of the C interface, as a host takes their structs

told_back : (x : Says) (took : ℕ) (next : Stream) → told_by (said_answer (means_says x) took next) ≡ record { said = means_says x; took = took; next = next }
told_back (says.InCut f) took next = refl
told_back (says.InBuffer f) took next = refl
told_back (says.More n) took next = refl
told_back says.End took next = refl
told_back (says.Refused (TooShort n)) took next = refl
told_back (says.Refused TooLong) took next = refl
told_back (says.Refused WrongSum) took next = refl
told_back says.Malformed took next = refl

-- what is defined comes back from its struct
back : (t : Told) → means_pushed (pushed_of t) ≡ t → told_by (stream_answer t) ≡ t
back t e =
    let r = pushed_of t in
    ap (λ (x : Told). told_by (stream_answer x)) (sym e) ∙ told_back r.says r.took r.next ∙ e

push_as_c : {st : Stream} {buffer c left : List ℕ} {t : Told} → PushTellsC st buffer c t left → PushAs header_width body_limit st buffer c t left
push_as_c {st} {buffer} {c} (push_tells_c r h) =
    let q = stream-push-from h in
    (ap told_by q.0 ∙ back (pushed header_width body_limit st buffer c) (push_coded header_width body_limit st buffer c), q.1)

end_as_c : {st : Stream} {buffer : List ℕ} {t : Told} → EndTellsC st buffer t → EndAs header_width body_limit st buffer t
end_as_c {st} {buffer} (end_tells_c r h) =
    ap told_by (stream-end-from h) ∙ back (ended header_width body_limit st buffer) (end_coded header_width body_limit st buffer)

push_can_c : (st : Stream) (buffer c : List ℕ) → PushTellsC st buffer c (pushed header_width body_limit st buffer c) (buffer_left header_width body_limit st buffer c)
push_can_c st buffer c =
    let t = pushed header_width body_limit st buffer c in
    let left = buffer_left header_width body_limit st buffer c in
    let h : PushTellsC st buffer c (told_by (stream_answer t)) left =
    push_tells_c (stream_answer t) (by_stream_push ([], ([], tt)) st st (lent_mut buffer) (lent_mut left) (lent c) (lent c) (stream_answer t) (refl, refl))
    in
    rw (back t (push_coded header_width body_limit st buffer c)) at h

end_can_c : (st : Stream) (buffer : List ℕ) → EndTellsC st buffer (ended header_width body_limit st buffer)
end_can_c st buffer =
    let t = ended header_width body_limit st buffer in
    let h : EndTellsC st buffer (told_by (stream_answer t)) =
    end_tells_c (stream_answer t) (by_stream_end ([], tt) st st (lent buffer) (lent buffer) (stream_answer t) refl)
    in
    rw (back t (end_coded header_width body_limit st buffer)) at h

-- ---- the stream's statements

in_cuts_of : {Push : PushCall} {End : EndCall} → Answers header_width body_limit Push End → InCuts Push End
in_cuts_of x =
    record {
      cutting = cutting header_width body_limit (lit≤ tt) x;
      every_cutting = every_cutting header_width body_limit (lit≤ tt) x;
      takes = takes header_width body_limit (lit≤ tt) x;
      ten = ten header_width body_limit (lit≤ tt) x (lit< tt);
      repeats = repeats header_width body_limit (lit≤ tt) x;
      missing = says-missing header_width body_limit (lit≤ tt) x;
      two_pushes = two_pushes header_width body_limit (lit≤ tt) x;
    }

pub in_cuts : InCuts PushTells EndTells
in_cuts = in_cuts_of answers

pub in_cuts_from_c : InCuts PushTellsC EndTellsC
in_cuts_from_c = in_cuts_of (record { push_as = push_as_c; push_can = push_can_c; end_as = end_as_c; end_can = end_can_c })

-- ---- the refusals by their conditions

-- a stream that goes on is not over, and has not stopped
on-time : (st : Stream) → st.mark ≡ going → LeftOver st → ⊥
on-time st m x = omega (arith, x.0)

no_2 : (st : Stream) (s : List ℕ) → st.mark ≡ going → (TooLongIn s → ⊥) → (st.mark ≡ too_long) ⊎ (GoesOn st × TooLongIn s) → ⊥
no_2 st s m n (inl e) = omega arith
no_2 st s m n (inr x) = n x.1

no_3 : (st : Stream) (s : List ℕ) → st.mark ≡ going → (WrongSumIn s → ⊥) → (st.mark ≡ wrong_sum) ⊎ (GoesOn st × WrongSumIn s) → ⊥
no_3 st s m n (inl e) = omega arith
no_3 st s m n (inr x) = n x.1

within : (s : List ℕ) → L s ≤ body_limit → TooLongIn s → ⊥
within s l x = omega (arith, x.1)

cut_short : (s : List ℕ) → length s < 12 + L s → WrongSumIn s → ⊥
cut_short s l x = omega (arith, x.0)

-- what held bytes lack
lacks_far : {s : List ℕ} {w r : ℕ} → Far header_width body_limit s w r → 0 < w → w ≡ lacks s
lacks_far {s} (in_header a) z = rw (lt-ltb (length s) 8 a)
lacks_far (above a b) z = absurd (omega arith)
lacks_far {s} (in_body a b d) z = let e : end_of header_width s - length s ≡ 12 + L s - length s = omega arith in rw (le-ltb (length s) 8 a) e
lacks_far (at-end a b d) z = absurd (omega arith)

held_lacks : {buffer : List ℕ} {held : ℕ} → Holding header_width body_limit buffer held → wanting header_width body_limit (take held buffer) ≡ lacks (take held buffer)
held_lacks {buffer} {held} k = lacks_far (far header_width body_limit (take held buffer)) k.lacks

-- the rules behind 10, of a push behind the bytes u
abbrev on_rules : Stream → List ℕ → List ℕ → List Rule
on_rules st u s =
    too_short lacking lacks u provided LeftOver st
    ∷ too_long if ((st.mark ≡ too_long) ⊎ (GoesOn st × TooLongIn s))
    ∷ wrong_sum if ((st.mark ≡ wrong_sum) ⊎ (GoesOn st × WrongSumIn s))
    ∷ []

-- a stream that goes on, by what held bytes and cut read as
going-judged :
    (st : Stream) (u s : List ℕ) (w : Where) → st.mark ≡ going → (a : Answer Frame) → Reading header_width body_limit s a → Judged (on_rules st u s) (said_of w a)
going-judged st u s w m _ (no_header i) =
    later (on-time st m) (later (no_2 st s m (λ x. omega (arith, x.0))) (later (no_3 st s m (cut_short s (omega arith))) success))
going-judged st u s w m _ (is_too_long i e j) =
    let x : (st.mark ≡ too_long) ⊎ (GoesOn st × TooLongIn s) = inr (m, (i, rw e at j)) in
    later (on-time st m) (here x)
going-judged st u s w m _ (cut i e j k) =
    let l : L s ≤ body_limit = rw e at j in
    let c : length s < 12 + L s = omega arith in
    later (on-time st m) (later (no_2 st s m (within s l)) (later (no_3 st s m (cut_short s c)) success))
going-judged st u s w m _ (is_wrong_sum i e j k d) =
    let l : L s ≤ body_limit = rw e at j in
    let c : 12 + L s ≤ length s = omega arith in
    let x : (st.mark ≡ wrong_sum) ⊎ (GoesOn st × WrongSumIn s) = inr (m, (c, rw (e, sub-zero) at d)) in
    later (on-time st m) (later (no_2 st s m (within s l)) (here x))
going-judged st u s w m _ (whole i) =
    let l : L s ≤ body_limit = rw i.len at i.within in
    let right : WrongSumIn s → ⊥ = λ x. x.1 (rw (i.len, sub-zero) at i.sum) in
    later (on-time st m) (later (no_2 st s m (within s l)) (later (no_3 st s m right) success))

-- one that is over, by its mark
over-judged :
    {buffer : List ℕ} {mark held : ℕ} (s : List ℕ) → Led header_width body_limit buffer mark held → (mark ≡ going → ⊥) →
    Judged (on_rules (state mark held) (take held buffer) s) (answer_again (wanting header_width body_limit (take held buffer)) (state mark held))
over-judged s (goes k) m = absurd (m refl)
over-judged {buffer} s (told {held} k) m = rw (held_lacks k) (by held (take held buffer)) where
  none_2 : (held : ℕ) → (over ≡ too_long) ⊎ (GoesOn (state over held) × TooLongIn s) → ⊥
  none_2 held (inl e) = omega arith
  none_2 held (inr x) = omega (arith, x.0)

  none_3 : (held : ℕ) → (over ≡ wrong_sum) ⊎ (GoesOn (state over held) × WrongSumIn s) → ⊥
  none_3 held (inl e) = omega arith
  none_3 held (inr x) = omega (arith, x.0)

  by : (held : ℕ) (u : List ℕ) → Judged (on_rules (state over held) u s) (answer_again (lacks u) (state over held))
  by zero u = answered (again_end _ zero refl) (later none_held (later (none_2 zero) (later (none_3 zero) success))) where
    none_held : LeftOver (state over zero) → ⊥
    none_held x = omega (arith, x.1)
  by (suc n) u = answered (again_left _ (suc n) (λ z. omega arith)) (here (refl, omega arith))
over-judged s (stop2 b) m = answered (stop_again _ by_2) (later none (here (inl refl))) where
  none : LeftOver (state too_long 0) → ⊥
  none x = omega (arith, x.1)
over-judged s (stop3 b) m = answered (stop_again _ by_3) (later none (later none_2 (here (inl refl)))) where
  none : LeftOver (state wrong_sum 0) → ⊥
  none x = omega (arith, x.1)

  none_2 : (wrong_sum ≡ too_long) ⊎ (GoesOn (state wrong_sum 0) × TooLongIn s) → ⊥
  none_2 (inl e) = omega arith
  none_2 (inr x) = omega (arith, x.0)

on-said : (u c : List ℕ) → (read_on header_width body_limit u c).said ≡ said_of (stands u) (read header_width body_limit (u ++ c))
unfolding read_on
on-said u c = refl

-- `Stream::push`
pub push-judged : (st : Stream) (buffer c : List ℕ) → Judged (push_rules st buffer c) (pushed header_width body_limit st buffer c).said
push-judged st buffer c = by (led header_width body_limit st buffer) refl st.mark refl where
  ten-here : ((pushed header_width body_limit st buffer c).said ≡ refused malformed []) ↔ (LedTo st buffer → ⊥)
  ten-here = (in_cuts.ten.pushed st buffer c _ _ (push_can st buffer c)).exactly

  by : (t : Bool) → led header_width body_limit st buffer ≡ t → (mark : ℕ) → st.mark ≡ mark →
      Judged (push_rules st buffer c) (pushed header_width body_limit st buffer c).said
  by false e mark m =
      let p = ap (λ (t : Told). t.said) (push-malformed header_width body_limit buffer st c e).0 in
      answered p (here (ten-here.0 p))
  by true e zero m =
      later (λ n. push-ten header_width body_limit (lit≤ tt) st buffer c e (ten-here.1 n))
      (answered (ap (λ (t : Told). t.said) (push-on header_width body_limit buffer st c e m).0 ∙ on-said (unfinished st buffer) c)
      (going-judged st (unfinished st buffer) (unfinished st buffer ++ c) (stands (unfinished st buffer)) m _ (view header_width body_limit (unfinished st buffer ++ c))))
  by true e (suc k) m =
      let z : st.mark ≡ going → ⊥ = λ o. omega arith in
      later (λ n. push-ten header_width body_limit (lit≤ tt) st buffer c e (ten-here.1 n))
      (answered (ap (λ (t : Told). t.said) (push-over header_width body_limit buffer st c e z).0)
      (over-judged (unfinished st buffer ++ c) (led-known header_width body_limit buffer st e) z))

-- ---- the end

-- the rules behind 10
abbrev over_rules : Stream → List ℕ → List Rule
over_rules st u =
    too_short lacking lacks u provided (LeftOver st ⊎ (GoesOn st × (0 < st.held))) ∷ too_long if (st.mark ≡ too_long) ∷ wrong_sum if (st.mark ≡ wrong_sum) ∷ []

-- of a stream that goes on, or was told to have ended
end_open :
    (st : Stream) (u : List ℕ) (held : ℕ) → st.held ≡ held → (st.mark ≡ going) ⊎ (st.mark ≡ over) →
    Judged (over_rules st u) (answer_again (lacks u) (state over st.held))
end_open st u zero z m =
    answered (again_end _ st.held z) (later none (later (not_2 m) (later (not_3 m) success))) where
      not_2 : (st.mark ≡ going) ⊎ (st.mark ≡ over) → st.mark ≡ too_long → ⊥
      not_2 (inl e) d = omega arith
      not_2 (inr e) d = omega arith

      not_3 : (st.mark ≡ going) ⊎ (st.mark ≡ over) → st.mark ≡ wrong_sum → ⊥
      not_3 (inl e) d = omega arith
      not_3 (inr e) d = omega arith

      none : LeftOver st ⊎ (GoesOn st × (0 < st.held)) → ⊥
      none (inl x) = omega (arith, x.1)
      none (inr x) = omega (arith, x.1)
end_open st u (suc n) z m = answered (again_left _ st.held (λ y. omega arith)) (here (by m)) where
  by : (st.mark ≡ going) ⊎ (st.mark ≡ over) → LeftOver st ⊎ (GoesOn st × (0 < st.held))
  by (inl e) = inr (e, omega arith)
  by (inr e) = inl (e, omega arith)

-- of one that was over before
end-over-judged :
    {buffer : List ℕ} {mark held : ℕ} → Led header_width body_limit buffer mark held → (mark ≡ going → ⊥) →
    Judged (over_rules (state mark held) (take held buffer)) (answer_again (wanting header_width body_limit (take held buffer)) (state mark held))
end-over-judged (goes k) m = absurd (m refl)
end-over-judged {buffer} (told {held} k) m = rw (held_lacks k) (end_open (state over held) (take held buffer) held refl (inr refl))
end-over-judged (stop2 b) m = answered (stop_again _ by_2) (later none (here refl)) where
  none : LeftOver (state too_long 0) ⊎ (GoesOn (state too_long 0) × (0 < 0)) → ⊥
  none (inl x) = omega (arith, x.1)
  none (inr x) = omega (arith, x.1)
end-over-judged (stop3 b) m = answered (stop_again _ by_3) (later none (later (λ e. omega arith) (here refl))) where
  none : LeftOver (state wrong_sum 0) ⊎ (GoesOn (state wrong_sum 0) × (0 < 0)) → ⊥
  none (inl x) = omega (arith, x.1)
  none (inr x) = omega (arith, x.1)

-- `Stream::end`
pub end-judged : (st : Stream) (buffer : List ℕ) → Judged (end_rules st buffer) (ended header_width body_limit st buffer).said
end-judged st buffer = by (led header_width body_limit st buffer) refl st.mark refl where
  ten-here : ((ended header_width body_limit st buffer).said ≡ refused malformed []) ↔ (LedTo st buffer → ⊥)
  ten-here = (in_cuts.ten.ended st buffer _ (end_can st buffer)).exactly

  by : (t : Bool) → led header_width body_limit st buffer ≡ t → (mark : ℕ) → st.mark ≡ mark →
      Judged (end_rules st buffer) (ended header_width body_limit st buffer).said
  by false e mark m =
      let p = ap (λ (t : Told). t.said) (end-malformed header_width body_limit buffer st e) in
      answered p (here (ten-here.0 p))
  by true e zero m =
      let l : Judged (over_rules st (unfinished st buffer)) (answer_again (lacked_by header_width body_limit st buffer) (state over st.held)) =
      rw (held_lacks (held_of header_width body_limit buffer st e m)) (end_open st (unfinished st buffer) st.held refl (inl m))
      in
      later (λ n. end-ten header_width body_limit (lit≤ tt) st buffer e (ten-here.1 n))
      (answered (ap (λ (t : Told). t.said) (end_on header_width body_limit buffer st e m)) l)
  by true e (suc k) m =
      let z : st.mark ≡ going → ⊥ = λ o. omega arith in
      later (λ n. end-ten header_width body_limit (lit≤ tt) st buffer e (ten-here.1 n))
      (answered (ap (λ (t : Told). t.said) (end-over header_width body_limit buffer st e z)) (end-over-judged (led-known header_width body_limit buffer st e) z))
