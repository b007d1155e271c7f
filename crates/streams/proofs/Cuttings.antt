-- Every cutting is played, and gives what the whole stream gives that is read at once; over the header's width and the body limit, and for whatever
-- answers the calls as they are defined.
-- Assumes nothing.
use Prim.Native.Nat.{ℕ, zero, suc, ◌+◌, ◌-◌, ◌≤◌, ◌<◌}
use mathlib.Core.Path.{◌≡◌, refl, ap, sym, ◌∙◌}
use mathlib.Core.Bool.{Bool}
use mathlib.Core.List.{List, [], ◌∷◌, ◌++◌, append-nil, append_assoc}
use native.Mathlib.Omega.{arith}
use borrow.Author.Tests.{ne_eqb}
use lib.ListN.{length, take, drop, length-append, length-drop}
use lib.Seq.{length-take-le, take-append-le, take-append-add, drop-append-le, drop-append-add, drop-length}
use Rattle.wire.specs.Answer.{Answer, accepted, refused, RefusedBy, with_values}
use Rattle.wire.specs.Bytes.{splice}
use Rattle.wire.specs.Refusal.{too_short}
use Rattle.wire.proofs.Answer.{not-both}
use Rattle.frame.specs.Framing.{read, longest}
use Rattle.frame.specs.Wanting.{wanting}
use Rattle.frame.specs.declared.Frame.{Frame}
use Rattle.frame.proofs.Framing.{unchanged_behind}
use Rattle.frame.proofs.Frames.{walk_none, walk-frame, walk-refusal}
use Rattle.frame.proofs.Far.{judged, missing, reach-within, reach_limit, whole-reach, reach-on, reach_past}
use Rattle.streams.specs.declared.Stream.{Stream}
use Rattle.streams.specs.Stream.{going, over, state, new_stream, Said, Told, unfinished, stands, taken, read_on, kept_on, answer_again, stay, pushed, buffer_left, ended}
use Rattle.streams.specs.Steps.{Holding}
use Rattle.streams.specs.Cutting.{PushCall, EndCall, PushAs, EndAs, Handed, from, given, Plays, push, next, wait, finish, give_up, whole, AtOnce, Cutting, Played, EveryCutting}
use Rattle.streams.proofs.States.{none-lacks, take-splice, led-going, push-on, end_on}
use Rattle.streams.proofs.Pushes.{on-frame, on_lacking, on-stopping, kept_behind}
use Rattle.streams.proofs.Readings.{Stopping, not_short, again_end, again_left, Read, a_frame, lacking, stopped, reads, holds-none, length_held, held_front, left-room, more_front, holds_more, is_stopped}

-- calls that answer just what is defined
pub record Answers (h limit : ℕ) (Push : PushCall) (End : EndCall) : Type 0 where
  pub push_as : {st : Stream} {buffer c : List ℕ} {t : Told} {left : List ℕ} → Push st buffer c t left → PushAs h limit st buffer c t left
  pub push_can : (st : Stream) (buffer c : List ℕ) → Push st buffer c (pushed h limit st buffer c) (buffer_left h limit st buffer c)
  pub end_as : {st : Stream} {buffer : List ℕ} {t : Told} → End st buffer t → EndAs h limit st buffer t
  pub end_can : (st : Stream) (buffer : List ℕ) → End st buffer (ended h limit st buffer)

module _ (h limit : ℕ) (g : 4 ≤ h) where
  -- the bytes of a frame that is handed out are those of the stream
  right :
      (u c t buffer : List ℕ) (f : Frame) → u ≡ take (length u) buffer → f.total ≤ length buffer →
      0 < wanting h limit u → read h limit (u ++ c) ≡ accepted f →
      from (stands u) f (kept_on h limit u c buffer) c ≡ record { frame = f; bytes = take f.total (u ++ (c ++ t)) }
  right [] c t buffer f p k z e =
      let r = whole-reach h limit c f e in
      let l : f.total ≤ length c = omega (arith, reach-within h limit c) in
      rw (take-append-le f.total c t l)
  right (x ∷ u) c t buffer f p k z e =
      let v = x ∷ u in
      let r = whole-reach h limit (v ++ c) f e in
      let n : taken h limit v c ≡ f.total - length v = ap (λ (m : ℕ). m - length v) r.1 in
      let on : length v ≤ f.total = rw r.1 at (reach-on h limit v c g z) in
      let in_all : f.total ≤ length v + length c = omega (arith, reach-within h limit (v ++ c), length-append v c) in
      let m = f.total - length v in
      let l : length (take m c) ≡ m = length-take-le m c (omega arith) in
      let q : length v + length (take m c) ≡ f.total = omega arith in
      let b : take f.total (splice buffer (length v) (take m c)) ≡ v ++ take m c =
      ap (λ (j : ℕ). take j (splice buffer (length v) (take m c))) (sym q)
      ∙ take-splice buffer (length v) (take m c) (omega arith)
      ∙ ap (λ (y : List ℕ). y ++ take m c) (sym p)
      in
      let o : length v + m ≡ f.total = omega arith in
      let d : take f.total (v ++ (c ++ t)) ≡ v ++ take m c =
      ap (λ (j : ℕ). take j (v ++ (c ++ t))) (sym o)
      ∙ take-append-add v (c ++ t) m
      ∙ ap (λ (y : List ℕ). v ++ y) (take-append-le m c t (omega arith))
      in
      let nz : length v ≡ 0 → ⊥ = λ y. omega arith in
      rw (kept_behind h limit v c buffer (λ y w. nz y), ne_eqb (length v) 0 nz, n, b, d)

  nonempty : (s : List ℕ) {n : ℕ} → read h limit s ≡ refused n [] → Stopping n → 0 < length s
  nonempty [] {n} e z =
      let y : refused too_short (wanting h limit [] ∷ []) ≡ refused n [] = sym (missing h limit [] (none-lacks h limit g)) ∙ e in
      let q : n ≡ too_short = cc in
      absurd (not_short z q)
  nonempty (x ∷ s) e z = omega arith

  past_one : {y : Answer Frame} {n : ℕ} → y ≡ refused n [] → Stopping n → RefusedBy too_short y → ⊥
  past_one {n = n} d z (with_values vs) = let q : n ≡ too_short = cc in not_short z q

  -- where the stream stops, so does the walk
  stop_at_once : (u c t : List ℕ) {n : ℕ} → read h limit (u ++ c) ≡ refused n [] → Stopping n → AtOnce h limit (u ++ (c ++ t)) [] (refused n [])
  stop_at_once u c t {n} e z =
      let all : read h limit (u ++ (c ++ t)) ≡ refused n [] =
      ap (read h limit) (sym (append_assoc u c t)) ∙ unchanged_behind h limit (u ++ c) t g (past_one e z) ∙ e
      in
      let w = walk-refusal h limit (u ++ (c ++ t)) n [] (nonempty (u ++ (c ++ t)) all z) all in
      record { frames = rw w; last = rw w }

  -- ---- one call of a stream that goes on

  module _ (buffer : List ℕ) (held : ℕ) (c t : List ℕ) (k : Holding h limit buffer held) where
    abbrev u : List ℕ
    u = take held buffer

    abbrev left : List ℕ
    left = kept_on h limit u c buffer

    -- a frame: it is the walk's next, and what is not taken of the cut is still to come
    frame_at_once :
        (f : Frame) (hs : List Handed) (a : Answer Said) → read h limit (u ++ c) ≡ accepted f →
        AtOnce h limit (drop (f.total - length u) c ++ t) hs a →
        AtOnce h limit (u ++ (c ++ t)) (from (stands u) f left c ∷ hs) a
    frame_at_once f hs a e i =
        let r = whole-reach h limit (u ++ c) f e in
        let on : length u ≤ f.total = rw r.1 at (reach-on h limit u c g k.lacks) in
        let in_all : f.total ≤ length u + length c = omega (arith, reach-within h limit (u ++ c), length-append u c) in
        let room : f.total ≤ length buffer = omega (arith, reach_limit h limit (u ++ c), k.room) in
        let n : length u + (f.total - length u) ≡ f.total = omega arith in
        let rest : drop f.total (u ++ (c ++ t)) ≡ drop (f.total - length u) c ++ t =
        ap (λ (m : ℕ). drop m (u ++ (c ++ t))) (sym n)
        ∙ drop-append-add u (c ++ t) (f.total - length u)
        ∙ drop-append-le (f.total - length u) c t (omega arith)
        in
        let all : read h limit (u ++ (c ++ t)) ≡ accepted f =
        ap (read h limit) (sym (append_assoc u c t)) ∙ unchanged_behind h limit (u ++ c) t g (judged h limit (u ++ c) r.0) ∙ e
        in
        let w = walk-frame h limit (u ++ (c ++ t)) f all in
        let hd = right u c t buffer f (held_front h limit g buffer held c k) room k.lacks e in
        record { frames = rw (hd, w, rest, ← i.frames); last = rw (w, rest) i.last }

  -- told that it has ended
  end_at_once : (buffer : List ℕ) (held : ℕ) → Holding h limit buffer held → AtOnce h limit (take held buffer ++ []) [] (answer_again (wanting h limit (take held buffer)) (state over held))
  end_at_once buffer held k = by held refl where
    by : (n : ℕ) → held ≡ n → AtOnce h limit (take held buffer ++ []) [] (answer_again (wanting h limit (take held buffer)) (state over held))
    by zero q =
        let z : take held buffer ++ [] ≡ [] = append-nil (take held buffer) ∙ ap (λ (n : ℕ). take n buffer) q in
        record { frames = rw (z, walk_none h limit); last = again_end _ held q ∙ rw (z, walk_none h limit) }
    by (suc n) q =
        let i : 0 < length (take held buffer) = omega (arith, length_held h limit g buffer held [] k) in
        let r = walk-refusal h limit (take held buffer) too_short _ i (missing h limit (take held buffer) k.lacks) in
        record { frames = rw (append-nil (take held buffer), r); last = again_left _ held (λ y. omega arith) ∙ rw (append-nil (take held buffer), r) }

  -- ---- a host's calls

  module _ {Push : PushCall} {End : EndCall} (x : Answers h limit Push End) where
    -- once the stream stopped, nothing more is handed out, and the last answer is that refusal
    over_at_once :
        {waits : Bool} {st : Stream} {buffer : List ℕ} {cs : List (List ℕ)} {hs : List Handed} {a : Answer Said} {n : ℕ} → Plays waits Push End st buffer cs hs a →
        Stopping n → st ≡ state n 0 → longest h limit ≤ length buffer → (hs ≡ []) × (a ≡ refused n [])
    over_at_once {st} {buffer} {n = n} (push {c = c} t left p rest) z e b =
        let q = x.push_as p in
        let s = (is_stopped h limit buffer (state n 0) z refl refl b).pushes c in
        let y : t ≡ stay (refused n []) (state n 0) = q.0 ∙ rw e s.0 in
        let l : left ≡ buffer = q.1 ∙ rw e s.1 in
        let i = over_at_once rest z (ap (λ (m : Told). m.next) y) (rw l b) in
        (rw y i.0, i.1)
    over_at_once (next rest) z e b = over_at_once rest z e b
    over_at_once (wait w rest) z e b = over_at_once rest z e b
    over_at_once {st} {buffer} {n = n} (finish t p) z e b =
        let y : t ≡ stay (refused n []) (state n 0) = x.end_as p ∙ rw e (is_stopped h limit buffer (state n 0) z refl refl b).ends in
        (refl, ap (λ (m : Told). m.said) y)
    over_at_once {st} {buffer} {n = n} (give_up {c = c} t left m vs p f) z e b =
        let y : t ≡ stay (refused n []) (state n 0) = (x.push_as p).0 ∙ rw e ((is_stopped h limit buffer (state n 0) z refl refl b).pushes c).0 in
        (refl, ap (λ (m : Told). m.said) y)

    -- what is told of a stream that goes on, and the buffer then
    step :
        {st : Stream} {buffer c : List ℕ} {t : Told} {left : List ℕ} → Holding h limit buffer st.held → st.mark ≡ going → Push st buffer c t left →
        (t ≡ read_on h limit (unfinished st buffer) c) × (left ≡ kept_on h limit (unfinished st buffer) c buffer)
    step {st} {buffer} {c} k m p =
        let q = push-on h limit buffer st c (led-going h limit buffer st k m) m in
        ((x.push_as p).0 ∙ q.0, (x.push_as p).1 ∙ q.1)

    module _ (st : Stream) (buffer c : List ℕ) (t : Told) (left : List ℕ) (k : Holding h limit buffer st.held) (m : st.mark ≡ going) (p : Push st buffer c t left) where
      abbrev front : List ℕ
      front = unfinished st buffer

      -- a call, and the calls behind it
      one-push :
          (cs : List (List ℕ)) (hs : List Handed) (a : Answer Said) →
          (Holding h limit left t.next.held → t.next.mark ≡ going → AtOnce h limit (unfinished t.next left ++ (drop t.took c ++ whole cs)) hs a) →
          ((n : ℕ) → Stopping n → t.next ≡ state n 0 → longest h limit ≤ length left → (hs ≡ []) × (a ≡ refused n [])) →
          (r : Answer Frame) → read h limit (front ++ c) ≡ r → Read h limit (front ++ c) r →
          AtOnce h limit (front ++ (c ++ whole cs)) (given t.said left c ++ hs) a
      one-push cs hs a go off _ e (a_frame f) =
          let s = step k m p in
          let y = s.0 ∙ on-frame h limit front c f e in
          let b = left-room h limit g buffer st.held c k in
          let z : t.next ≡ new_stream = ap (λ (w : Told). w.next) y in
          let i : AtOnce h limit (drop (f.total - length front) c ++ whole cs) hs a =
          rw (y) at (go (rw (z, s.1) (holds-none h limit g (kept_on h limit front c buffer) b)) (ap (λ (w : Stream). w.mark) z))
          in
          rw (y, s.1) (frame_at_once buffer st.held c (whole cs) k f hs a e i)
      one-push cs hs a go off _ e (lacking z) =
          let s = step k m p in
          let y = s.0 ∙ on_lacking h limit front c z in
          let n : t.next ≡ state going (length (front ++ c)) = ap (λ (w : Told). w.next) y in
          let i = go (rw (n, s.1) (holds_more h limit g buffer st.held c k z)) (ap (λ (w : Stream). w.mark) n) in
          let all : unfinished t.next left ≡ front ++ c = rw (n, s.1) (more_front h limit g buffer st.held c k z) in
          let rest : unfinished t.next left ++ (drop t.took c ++ whole cs) ≡ front ++ (c ++ whole cs) = rw (all, y, drop-length c, append_assoc front c (whole cs)) in
          rw y (rw rest at i)
      one-push cs hs a go off _ e (stopped {n} z) =
          let s = step k m p in
          let y = s.0 ∙ on-stopping h limit front c n [] e (not_short z) in
          let o = off n z (ap (λ (w : Told). w.next) y) (rw s.1 (left-room h limit g buffer st.held c k)) in
          rw (y, o.0, o.1) (stop_at_once front c (whole cs) e z)

      -- a call whose refusal is the last answer
      one-refusal :
          (cs : List (List ℕ)) (n : ℕ) (vs : List ℕ) → t.said ≡ refused n vs → (r : Answer Frame) → read h limit (front ++ c) ≡ r → Read h limit (front ++ c) r →
          AtOnce h limit (front ++ (c ++ whole cs)) [] t.said
      one-refusal cs n vs f _ e (a_frame w) =
          let y = (step k m p).0 ∙ on-frame h limit front c w e in
          absurd (not-both (ap (λ (w : Told). w.said) y) f)
      one-refusal cs n vs f _ e (lacking z) =
          let y = (step k m p).0 ∙ on_lacking h limit front c z in
          absurd (not-both (ap (λ (w : Told). w.said) y) f)
      one-refusal cs m' vs f _ e (stopped {n} z) =
          let y = (step k m p).0 ∙ on-stopping h limit front c n [] e (not_short z) in
          rw y (stop_at_once front c (whole cs) e z)

    going_at_once :
        {waits : Bool} {st : Stream} {buffer : List ℕ} {cs : List (List ℕ)} {hs : List Handed} {a : Answer Said} → Plays waits Push End st buffer cs hs a →
        Holding h limit buffer st.held → st.mark ≡ going → AtOnce h limit (unfinished st buffer ++ whole cs) hs a
    going_at_once {st} {buffer} (push {c = c} {cs} {hs} {a} t left p rest) k m =
        one-push st buffer c t left k m p cs hs a (λ i j. going_at_once rest i j) (λ n z e b. over_at_once rest z e b)
        (read h limit (unfinished st buffer ++ c)) refl (reads h limit (unfinished st buffer ++ c))
    going_at_once (next rest) k m = going_at_once rest k m
    going_at_once {st} {buffer} (wait {c = c} {d} {cs} w rest) k m = rw (append_assoc c d (whole cs)) at (going_at_once rest k m)
    going_at_once {st} {buffer} (finish t p) k m =
        let e = x.end_as p ∙ end_on h limit buffer st (led-going h limit buffer st k m) m in
        rw e (end_at_once buffer st.held k)
    going_at_once {st} {buffer} (give_up {c = c} {cs} t left n vs p f) k m =
        one-refusal st buffer c t left k m p cs n vs f (read h limit (unfinished st buffer ++ c)) refl (reads h limit (unfinished st buffer ++ c))

    pub cutting : Cutting h limit Push End
    cutting waits buffer cs hs a b plays = going_at_once plays (holds-none h limit g buffer b) refl

    -- ---- every cutting is played

    -- one call, and what is left of the cut
    by_read :
        (fuel : ℕ) (st : Stream) (buffer c : List ℕ) (cs : List (List ℕ)) → 0 < length c → length c ≤ suc fuel → Holding h limit buffer st.held →
        st.mark ≡ going →
        ((st : Stream) (buffer c : List ℕ) → length c ≤ fuel → Holding h limit buffer st.held → st.mark ≡ going → Played Push End st buffer (c ∷ cs)) →
        (r : Answer Frame) → read h limit (unfinished st buffer ++ c) ≡ r → Read h limit (unfinished st buffer ++ c) r → Played Push End st buffer (c ∷ cs)
    by_read fuel st buffer c cs s l k m on _ e (a_frame f) =
        let p = x.push_can st buffer c in
        let u = unfinished st buffer in
        let q = step k m p in
        let y = q.0 ∙ on-frame h limit u c f e in
        let w = whole-reach h limit (u ++ c) f e in
        let past : length u < f.total = rw w.1 at (reach_past h limit u c g k.lacks s) in
        let some : 0 < (pushed h limit st buffer c).took = rw y (omega arith) in
        let z = ap (λ (w : Told). w.next) y in
        let r =
        on (pushed h limit st buffer c).next (buffer_left h limit st buffer c) (drop (pushed h limit st buffer c).took c)
        (omega (arith, length-drop (pushed h limit st buffer c).took c))
        (rw (z, q.1) (holds-none h limit g (kept_on h limit u c buffer) (left-room h limit g buffer st.held c k))) (ap (λ (w : Stream). w.mark) z)
        in
        record { frames = given (pushed h limit st buffer c).said (buffer_left h limit st buffer c) c ++ r.frames; last = r.last; plays = push {hs = r.frames} {a = r.last} _ _ p r.plays }
    by_read fuel st buffer c cs s l k m on _ e (lacking z) =
        let p = x.push_can st buffer c in
        let u = unfinished st buffer in
        let q = step k m p in
        let y = q.0 ∙ on_lacking h limit u c z in
        let n = ap (λ (w : Told). w.next) y in
        let all : length (drop (pushed h limit st buffer c).took c) ≤ fuel = rw (y, drop-length c) (omega arith) in
        let r =
        on (pushed h limit st buffer c).next (buffer_left h limit st buffer c) (drop (pushed h limit st buffer c).took c) all
        (rw (n, q.1) (holds_more h limit g buffer st.held c k z)) (ap (λ (w : Stream). w.mark) n)
        in
        record { frames = given (pushed h limit st buffer c).said (buffer_left h limit st buffer c) c ++ r.frames; last = r.last; plays = push {hs = r.frames} {a = r.last} _ _ p r.plays }
    by_read fuel st buffer c cs s l k m on _ e (stopped {n} z) =
        let p = x.push_can st buffer c in
        let y = (step k m p).0 ∙ on-stopping h limit (unfinished st buffer) c n [] e (not_short z) in
        record { frames = []; last = (pushed h limit st buffer c).said; plays = give_up _ _ n [] p (ap (λ (w : Told). w.said) y) }

    -- nothing is left of a cut
    play_none : (st : Stream) (buffer : List ℕ) (cs : List (List ℕ)) → Played Push End st buffer cs → Played Push End st buffer ([] ∷ cs)
    play_none st buffer cs r = record { frames = r.frames; last = r.last; plays = next r.plays }

    play_some :
        (fuel : ℕ) (st : Stream) (buffer c : List ℕ) (cs : List (List ℕ)) → length c ≤ suc fuel → Holding h limit buffer st.held → st.mark ≡ going →
        Played Push End st buffer cs →
        ((st : Stream) (buffer c : List ℕ) → length c ≤ fuel → Holding h limit buffer st.held → st.mark ≡ going → Played Push End st buffer (c ∷ cs)) →
        Played Push End st buffer (c ∷ cs)
    play_some fuel st buffer [] cs l k m go on = play_none st buffer cs go
    play_some fuel st buffer (y ∷ c) cs l k m go on =
        by_read fuel st buffer (y ∷ c) cs (omega arith) l k m on (read h limit (unfinished st buffer ++ (y ∷ c))) refl (reads h limit (unfinished st buffer ++ (y ∷ c)))

    -- one cut: each call takes some of it
    play_cut :
        (fuel : ℕ) (cs : List (List ℕ)) →
        ((st : Stream) (buffer : List ℕ) → Holding h limit buffer st.held → st.mark ≡ going → Played Push End st buffer cs) →
        (st : Stream) (buffer c : List ℕ) → length c ≤ fuel → Holding h limit buffer st.held → st.mark ≡ going → Played Push End st buffer (c ∷ cs)
    play_cut zero cs go st buffer [] l k m = play_none st buffer cs (go st buffer k m)
    play_cut zero cs go st buffer (y ∷ c) l k m = absurd (omega arith)
    play_cut (suc fuel) cs go st buffer c l k m =
        play_some fuel st buffer c cs l k m (go st buffer k m) (λ st buffer c l k m. play_cut fuel cs go st buffer c l k m)

    play_all : (cs : List (List ℕ)) (st : Stream) (buffer : List ℕ) → Holding h limit buffer st.held → st.mark ≡ going → Played Push End st buffer cs
    play_all [] st buffer k m =
        record { frames = []; last = (ended h limit st buffer).said; plays = finish _ (x.end_can st buffer) }
    play_all (c ∷ cs) st buffer k m = play_cut (length c) cs (λ st buffer k m. play_all cs st buffer k m) st buffer c (omega arith) k m

    pub every_cutting : EveryCutting h limit Push End
    every_cutting buffer cs b = play_all cs new_stream buffer (holds-none h limit g buffer b) refl
