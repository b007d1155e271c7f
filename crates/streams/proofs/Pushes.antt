-- What one call does behind the bytes u of an unfinished frame, by what is read; over the header's width and the body limit.
-- Assumes nothing.
use Prim.Native.Nat.{ℕ, zero, suc, ◌+◌, ◌-◌, ◌≤◌, ◌<◌}
use mathlib.Core.Path.{◌≡◌, refl, ap, sym, ◌∙◌}
use mathlib.Core.Bool.{Bool, true, false, cond, ◌&&◌}
use mathlib.Core.List.{List, [], ◌∷◌, ◌++◌, append_assoc}
use native.Mathlib.Omega.{arith}
use borrow.Author.Tests.{eq-eqb, ne_eqb}
use lib.Dec.{eqb}
use lib.ListN.{length, take, drop, length-append, length-drop, length-take, take-append-drop}
use lib.Seq.{length-take-le, take_all, take-add, take-append-add}
use Rattle.wire.specs.Answer.{Answer, accepted, refused, RefusedBy, with_values}
use Rattle.wire.specs.Bytes.{splice}
use Rattle.wire.specs.Refusal.{too_short, malformed}
use Rattle.wire.proofs.PutAt.{length-splice, splice-more}
use Rattle.frame.specs.Framing.{read, longest}
use Rattle.frame.specs.Wanting.{wanting, reach}
use Rattle.frame.specs.declared.Frame.{Frame}
use Rattle.frame.proofs.Far.{in_header, wants, missing, judged, reach-within, reach_limit, short_reach, whole-reach, done, still, onward_to, header-there, end-there, stops, stop-wants}
use Rattle.streams.specs.declared.Stream.{Stream}
use Rattle.streams.specs.Stream.{going, state, new_stream, Said, frame, more, in_cut, stands, next_of, taken, read_on, kept_on, stay, answer_again, lacked_by, unfinished, led, pushed}
use Rattle.streams.specs.Steps.{Holding, Lacking, Brought, Judgeable, more_told, judged as judged_as}
use Rattle.streams.proofs.States.{fits, take-splice, not-one}

module _ (h limit : ℕ) where
  pub on-frame :
      (u c : List ℕ) (f : Frame) → read h limit (u ++ c) ≡ accepted f →
      read_on h limit u c ≡ record { said = accepted (frame (stands u) f); took = f.total - length u; next = new_stream }
  unfolding read_on
  on-frame u c f e = let r = whole-reach h limit (u ++ c) f e in rw (e, r.1)

  pub on_lacking :
      (u c : List ℕ) → 0 < wanting h limit (u ++ c) →
      read_on h limit u c ≡ record { said = accepted (more (wanting h limit (u ++ c) ∷ [])); took = length c; next = state going (length (u ++ c)) }
  unfolding read_on
  on_lacking u c z =
      let k : taken h limit u c ≡ length c = omega (arith, short_reach h limit (u ++ c) z, length-append u c) in
      rw (missing h limit (u ++ c) z, k)

  pub on-stopping :
      (u c : List ℕ) (n : ℕ) (vs : List ℕ) → read h limit (u ++ c) ≡ refused n vs → (n ≡ too_short → ⊥) →
      read_on h limit u c ≡ record { said = refused n vs; took = taken h limit u c; next = state n 0 }
  unfolding read_on
  on-stopping u c n vs e k = rw (e, ne_eqb n too_short k)

  -- what the cut alone is enough to judge stays in the cut
  pub kept_none : (c buffer : List ℕ) → wanting h limit c ≡ 0 → kept_on h limit [] c buffer ≡ buffer
  unfolding kept_on
  kept_none c buffer w = rw (eq-eqb (wanting h limit c) 0 w)

  -- else the bytes taken go behind those held
  not_yet : (v c : List ℕ) → (length v ≡ 0 → wanting h limit c ≡ 0 → ⊥) → eqb (length v) 0 && eqb (wanting h limit c) 0 ≡ false
  not_yet [] c y = rw (ne_eqb (wanting h limit c) 0 (y refl))
  not_yet (x ∷ v) c y = let n : suc (length v) ≡ 0 → ⊥ = λ e. omega arith in rw (ne_eqb (suc (length v)) 0 n)

  pub kept_behind :
      (u c buffer : List ℕ) → (length u ≡ 0 → wanting h limit c ≡ 0 → ⊥) →
      kept_on h limit u c buffer ≡ splice buffer (length u) (take (taken h limit u c) c)
  unfolding kept_on
  kept_behind u c buffer y = rw (not_yet u c y)

  lacks_alone : (u c : List ℕ) → 0 < wanting h limit (u ++ c) → length u ≡ 0 → wanting h limit c ≡ 0 → ⊥
  lacks_alone [] c z e w = omega arith
  lacks_alone (x ∷ u) c z e w = omega arith

  -- where bytes are still missing, all go there, and the buffer begins with all that came
  pub kept_all : (u c buffer : List ℕ) → 0 < wanting h limit (u ++ c) → kept_on h limit u c buffer ≡ splice buffer (length u) c
  kept_all u c buffer z =
      let all : taken h limit u c ≡ length c = omega (arith, short_reach h limit (u ++ c) z, length-append u c) in
      let k : take (length c) c ≡ c = take_all (length c) c (omega arith) in
      kept_behind u c buffer (lacks_alone u c z) ∙ rw (all, k)

  pub kept_front :
      (u c buffer : List ℕ) → u ≡ take (length u) buffer → longest h limit ≤ length buffer → 0 < wanting h limit (u ++ c) →
      take (length (u ++ c)) (kept_on h limit u c buffer) ≡ u ++ c
  kept_front u c buffer p b z =
      let l : length u + length c ≤ length buffer = omega (arith, fits h limit (u ++ c) z, length-append u c) in
      rw (kept_all u c buffer z, length-append u c, take-splice buffer (length u) c l, ← p)

  -- the lent buffer keeps its length
  by_size :
      (u c buffer : List ℕ) → length u ≤ length buffer → longest h limit ≤ length buffer → (x : Bool) →
      length (cond x buffer (splice buffer (length u) (take (taken h limit u c) c))) ≡ length buffer
  by_size u c buffer i b true = refl
  by_size u c buffer i b false =
      let bs = take (taken h limit u c) c in
      let l : length u + length bs ≤ length buffer = omega (arith, length-take (taken h limit u c) c, reach_limit h limit (u ++ c)) in
      length-splice buffer (length u) bs l

  pub kept_length : (u c buffer : List ℕ) → length u ≤ length buffer → longest h limit ≤ length buffer → length (kept_on h limit u c buffer) ≡ length buffer
  unfolding kept_on
  kept_length u c buffer i b = by_size u c buffer i b (eqb (length u) 0 && eqb (wanting h limit c) 0)

  -- ---- where no bytes are held

  pub begin_frame :
      (c buffer : List ℕ) (f : Frame) → read h limit c ≡ accepted f →
      (record { said = accepted (frame in_cut f); took = f.total; next = new_stream } ≡ read_on h limit [] c) × (buffer ≡ kept_on h limit [] c buffer)
  begin_frame c buffer f e =
      let z : f.total - 0 ≡ f.total = omega arith in
      (sym (on-frame [] c f e ∙ rw z), sym (kept_none c buffer (whole-reach h limit c f e).0))

  pub begin_stop :
      (c buffer : List ℕ) (n : ℕ) (vs : List ℕ) → wanting h limit c ≡ 0 → read h limit c ≡ refused n vs →
      (record { said = refused n vs; took = reach h limit c; next = state n 0 } ≡ read_on h limit [] c) × (buffer ≡ kept_on h limit [] c buffer)
  begin_stop c buffer n vs w e =
      let z : reach h limit c - 0 ≡ reach h limit c = omega arith in
      (sym (on-stopping [] c n vs e (not-one h limit c w e) ∙ rw z), sym (kept_none c buffer w))

same_next : (a : Answer Frame) (n m : ℕ) → (RefusedBy too_short a → ⊥) → next_of a n ≡ next_of a m
same_next (accepted f) n m z = refl
same_next (refused k vs) n m z = let y : k ≡ too_short → ⊥ = λ e. z (rw e (with_values vs)) in rw (ne_eqb k too_short y)

-- ---- where some are held, at the front of the buffer

module _ (h limit : ℕ) (buffer : List ℕ) (held : ℕ) (c : List ℕ) where
  -- bytes are still missing: all of the cut goes behind those held
  pub keep_all :
      {w : ℕ} → Lacking h limit buffer held c w →
      (held + length c ≤ length buffer)
      × (more_told (length c) (held + length c) w ≡ read_on h limit (take held buffer) c)
      × (splice buffer held c ≡ kept_on h limit (take held buffer) c buffer)
  keep_all k =
      let u = take held buffer in
      let l : length u ≡ held = length-take-le held buffer k.within in
      let n : length (u ++ c) ≡ held + length c = omega (arith, length-append u c, l) in
      let z : 0 < wanting h limit (u ++ c) = omega (arith, k.wants, k.lacks) in
      let f = fits h limit (u ++ c) z in (
        omega (arith, f, n, k.room),
        sym (on_lacking h limit u c z ∙ rw (n, ← k.wants)),
        sym (kept_all h limit u c buffer z ∙ rw l),
      )

  -- the cut has fewer bytes than are missing
  pub few_lacking :
      {w : ℕ} → 4 ≤ h → Holding h limit buffer held → w ≡ wanting h limit (take held buffer) → length c < w →
      Lacking h limit buffer held c (w - length c)
  few_lacking {w} g k e i =
      let n = (still h limit (take held buffer) c g (omega arith)).0 in
      record { room = k.room; within = k.within; wants = omega arith; lacks = omega arith }

-- no bytes are held, and the cut lacks some
pub none_lacking :
    (h limit : ℕ) (buffer c : List ℕ) {w : ℕ} → longest h limit ≤ length buffer → w ≡ wanting h limit c → 0 < w → Lacking h limit buffer 0 c w
none_lacking h limit buffer c b e z = record { room = b; within = omega arith; wants = e; lacks = z }

-- so many bytes of the cut are judged with those held, and no more are: where they go, and what the call tells then
pub record Ends (h limit : ℕ) (buffer : List ℕ) (held : ℕ) (c : List ℕ) (n : ℕ) : Type 0 where
  pub room : held + n ≤ length buffer
  pub fits : held + length (take n c) ≤ length buffer
  pub size : length (splice buffer held (take n c)) ≡ length buffer
  pub enough : Judgeable h limit (take (held + n) (splice buffer held (take n c))) held
  pub told : judged_as h limit (take (held + n) (splice buffer held (take n c))) held ≡ read_on h limit (take held buffer) c
  pub kept : splice buffer held (take n c) ≡ kept_on h limit (take held buffer) c buffer

module _ (h limit : ℕ) (buffer : List ℕ) (held lacks : ℕ) (c : List ℕ) (g : 4 ≤ h) (q : Brought h limit buffer held lacks c) where
  abbrev u : List ℕ
  u = take held buffer

  abbrev k : Holding h limit buffer held
  k = q.holding

  length_u : length u ≡ held
  length_u = length-take-le held buffer k.within

  -- where the header is not there, its bytes are missing first
  pub lead_brought : held < h → Brought h limit buffer held (h - held) c
  lead_brought l =
      let w : wanting h limit u ≡ h - length u = wants (in_header (omega (arith, length_u))) in
      let e : h - held ≡ wanting h limit u = sym (w ∙ rw length_u) in
      record { holding = k; some = q.some; wants = e; comes = omega (arith, e, q.wants, q.comes) }

  -- ---- so many bytes of the cut are judged with those held, and no more are

  module _ (n : ℕ) (i : n ≤ length c) (w : wanting h limit (u ++ c) ≡ 0) (r : reach h limit (u ++ c) ≡ held + n) where
    abbrev full : List ℕ
    full = splice buffer held (take n c)

    length_taken : length (take n c) ≡ n
    length_taken = length-take-le n c i

    full-room : held + n ≤ length buffer
    full-room = omega (arith, r, reach_limit h limit (u ++ c), k.room)

    full_fits : held + length (take n c) ≤ length buffer
    full_fits = omega (arith, length_taken, full-room)

    full-length : length full ≡ length buffer
    full-length = length-splice buffer held (take n c) full_fits

    -- the buffer begins with them
    full_front : take (held + n) full ≡ take (reach h limit (u ++ c)) (u ++ c)
    full_front =
        let e : held + n ≡ held + length (take n c) = omega (arith, length_taken) in
        let m : reach h limit (u ++ c) ≡ length u + n = omega (arith, r, length_u) in
        let x : take (held + n) full ≡ u ++ take n c = rw e (take-splice buffer held (take n c) full_fits) in
        let y : take (reach h limit (u ++ c)) (u ++ c) ≡ u ++ take n c = rw m (take-append-add u c n) in
        x ∙ sym y

    full_size : length (take (held + n) full) ≡ held + n
    full_size = length-take-le (held + n) full (omega (arith, full-length, full-room))

    -- they can be judged
    full_judgeable : Judgeable h limit (take (held + n) full) held
    full_judgeable = record { enough = rw full_front (stop-wants h limit (u ++ c) g w); some = omega (arith, full_size) }

    full-judged : judged_as h limit (take (held + n) full) held ≡ read_on h limit u c
    unfolding read_on
    full-judged =
        let e : read h limit (take (held + n) full) ≡ read h limit (u ++ c) = rw full_front (stops h limit (u ++ c) g w) in
        let m = same_next (read h limit (u ++ c)) 0 (length (u ++ c)) (judged h limit (u ++ c) w) in
        let one : length u ≡ 0 → ⊥ = λ y. omega (arith, length_u, q.some) in
        rw (e, full_size, m, ne_eqb (length u) 0 one, r, length_u)

    full_keeps : full ≡ kept_on h limit u c buffer
    full_keeps =
        let m : taken h limit u c ≡ n = omega (arith, r, length_u) in
        sym (kept_behind h limit u c buffer (λ e z. omega (arith, length_u, q.some)) ∙ rw (m, length_u))

    ends : Ends h limit buffer held c n
    ends = record { room = full-room; fits = full_fits; size = full-length; enough = full_judgeable; told = full-judged; kept = full_keeps }

  -- ---- what was missing comes

  abbrev some : List ℕ
  some = take lacks c

  abbrev front : List ℕ
  front = u ++ some

  abbrev first : List ℕ
  first = splice buffer held some

  length_some : length some ≡ lacks
  length_some = length-take-le lacks c q.comes

  length_front : length front ≡ held + lacks
  length_front = omega (arith, length-append u some, length_u, length_some)

  all : front ++ drop lacks c ≡ u ++ c
  all = append_assoc u some (drop lacks c) ∙ ap (λ (x : List ℕ). u ++ x) (take-append-drop lacks c)

  left : length (drop lacks c) ≡ length c - lacks
  left = length-drop lacks c

  -- all of it is judged
  front_reached : reach h limit front ≡ held + lacks
  front_reached =
      omega (arith, onward_to h limit u some g k.lacks (omega (arith, length_some, q.wants)), reach-within h limit front, length_front, length_u, q.wants)

  first-room : held + lacks ≤ length buffer
  first-room = omega (arith, front_reached, reach_limit h limit front, k.room)

  first_fits : held + length some ≤ length buffer
  first_fits = omega (arith, length_some, first-room)

  first-length : length first ≡ length buffer
  first-length = length-splice buffer held some first_fits

  -- the buffer begins with it
  pub first_front : take (held + lacks) first ≡ front
  first_front =
      let n : held + lacks ≡ held + length some = omega (arith, length_some) in
      rw n (take-splice buffer held some first_fits)

  -- where nothing is missing then, no more of the cut is judged
  front_ends : wanting h limit front ≡ 0 → (wanting h limit (u ++ c) ≡ 0) × (reach h limit (u ++ c) ≡ held + lacks)
  front_ends e = let d = rw all at (done h limit front (drop lacks c) g e) in (d.0, d.1 ∙ front_reached)

  -- where the header was there, that is the frame's end
  pub end-comes : h ≤ held → Ends h limit buffer held c lacks
  end-comes b =
      let e = front_ends (end-there h limit u some g (omega (arith, length_u)) k.lacks (length_some ∙ q.wants)) in
      ends lacks q.comes e.0 e.1

  -- less comes than is missing then
  less_lacking : length (drop lacks c) < wanting h limit front → Lacking h limit buffer held c (wanting h limit front - length (drop lacks c))
  less_lacking j =
      let w = rw all at (still h limit front (drop lacks c) g j).0 in
      record { room = k.room; within = k.within; wants = omega (arith, w); lacks = omega arith }

  pub go_less :
      length (drop lacks c) < wanting h limit front →
      (held + lacks + length (drop lacks c) ≤ length first)
      × (more_told (length c) (held + length c) (wanting h limit front - length (drop lacks c)) ≡ read_on h limit u c)
      × (splice first (held + lacks) (drop lacks c) ≡ kept_on h limit u c buffer)
  go_less j =
      let s = keep_all h limit buffer held c (less_lacking j) in
      let o : held + lacks ≡ held + length some = omega (arith, length_some) in
      let m = splice-more buffer held some (drop lacks c) (omega (arith, s.0, left, length_some)) in
      (omega (arith, left, first-length, s.0), s.1, rw o (m ∙ rw (take-append-drop lacks c) s.2))

  -- ---- or as much

  module _ (j : wanting h limit front ≤ length (drop lacks c)) where
    abbrev rest : ℕ
    rest = wanting h limit front

    abbrev next : List ℕ
    next = take rest (drop lacks c)

    length-next : length next ≡ rest
    length-next = length-take-le rest (drop lacks c) j

    -- the reading goes just so far
    by_rest : (n : ℕ) → rest ≡ n → (wanting h limit (u ++ c) ≡ 0) × (reach h limit (u ++ c) ≡ held + (lacks + rest))
    by_rest zero e = let d = front_ends e in (d.0, d.1 ∙ omega arith)
    by_rest (suc n) e =
        let z : 0 < rest = omega arith in
        let there : h ≤ length front = omega (arith, header-there h limit u k.lacks, length_front, length_u, q.wants) in
        let w = end-there h limit front next g there z length-next in
        let r : reach h limit (front ++ next) ≡ held + (lacks + rest) =
        omega (arith, onward_to h limit front next g z (omega (arith, length-next)), reach-within h limit (front ++ next), length-append front next, length_front, length-next)
        in
        let o : (front ++ next) ++ drop rest (drop lacks c) ≡ u ++ c =
        append_assoc front next (drop rest (drop lacks c)) ∙ ap (λ (x : List ℕ). front ++ x) (take-append-drop rest (drop lacks c)) ∙ all
        in
        let d = rw o at (done h limit (front ++ next) (drop rest (drop lacks c)) g w) in
        (d.0, d.1 ∙ r)

    rest_goes : (wanting h limit (u ++ c) ≡ 0) × (reach h limit (u ++ c) ≡ held + (lacks + rest))
    rest_goes = by_rest rest refl

    pub rest_comes : Ends h limit buffer held c (lacks + rest)
    rest_comes = ends (lacks + rest) (omega (arith, left)) rest_goes.0 rest_goes.1

    rest_room : held + lacks + rest ≤ length buffer
    rest_room = omega (arith, rest_goes.1, reach_limit h limit (u ++ c), k.room)

    pub rest_fits : held + lacks + length next ≤ length first
    rest_fits = omega (arith, length-next, first-length, rest_room)

    pub rest_bytes : splice first (held + lacks) next ≡ splice buffer held (take (lacks + rest) c)
    rest_bytes =
        let o : held + lacks ≡ held + length some = omega (arith, length_some) in
        rw o (splice-more buffer held some next (omega (arith, rest_room, length-next, length_some)) ∙ rw (take-add lacks rest c))

-- ---- no call takes more than the cut has

module _ (h limit : ℕ) (st : Stream) (buffer : List ℕ) where
  within_by :
      (c : List ℕ) (x : Answer Said) (a b : Bool) →
      (cond a (cond b (read_on h limit (unfinished st buffer) c) (stay x st)) (stay (refused malformed []) st)).took ≤ length c
  unfolding read_on
  within_by c x true true = omega (arith, reach-within h limit (unfinished st buffer ++ c), length-append (unfinished st buffer) c)
  within_by c x true false = omega arith
  within_by c x false b = omega arith

  pub push-within : (c : List ℕ) → (pushed h limit st buffer c).took ≤ length c
  unfolding pushed
  push-within c = within_by c (answer_again (lacked_by h limit st buffer) st) (led h limit st buffer) (eqb st.mark going)
