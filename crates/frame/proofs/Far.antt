-- How much is missing, and how far a reading goes: case by case, and with bytes behind.
-- Assumes nothing.
use Prim.Native.Nat.{ℕ, zero, suc, ◌+◌, ◌-◌, ◌≤◌, ◌<◌}
use mathlib.Core.Path.{◌≡◌, refl, ap, sym, ◌∙◌}
use mathlib.Core.Bool.{Bool, true, false}
use mathlib.Core.Logic.{⊎_elim}
use mathlib.Core.List.{List, [], ◌∷◌, ◌++◌}
use native.Mathlib.Omega.{arith}
use borrow.Author.Tests.{le-ltb, lt-ltb, ltb-true, ltb-false}
use lib.Dec.{ltb}
use lib.ListN.{length, take, drop, length-append, take-append-drop}
use lib.Seq.{length-take-le}
use Rattle.wire.specs.Answer.{Answer, accepted, refused, RefusedBy, with_values}
use Rattle.wire.specs.Refusal.{too_short}
use Rattle.wire.proofs.Be.{be_at-behind}
use Rattle.frame.specs.Framing.{sum_width, length_of, read, missing_by}
use Rattle.frame.specs.Wanting.{end_of, missing_in, wanting, reach}
use Rattle.frame.specs.declared.Frame.{Frame}
use Rattle.frame.proofs.Framing.{known_of, Reading, no_header, is_too_long, cut, is_wrong_sum, whole, view, read_as_lem, under, unchanged_behind}

-- ---- the cases

-- what is missing, and how far the reading goes, at some bytes
pub data Far (h limit : ℕ) (s : List ℕ) : ℕ → ℕ → Type 0 where
  in_header : length s < h → Far h limit s (h - length s) (length s)
  above : h ≤ length s → limit < length_of h s → Far h limit s 0 h
  in_body : h ≤ length s → length_of h s ≤ limit → length s < end_of h s → Far h limit s (end_of h s - length s) (length s)
  at-end : h ≤ length s → length_of h s ≤ limit → end_of h s ≤ length s → Far h limit s 0 (end_of h s)

-- a frame that is there has no 1
there : {h limit : ℕ} {s : List ℕ} {x : Answer Frame} → Reading h limit s x → h ≤ length s → end_of h s ≤ length s → missing_in x ≡ 0
there (no_header i) a d = absurd (omega arith)
there (is_too_long i p j) a d = refl
there (cut i p j k) a d = absurd (omega arith)
there (is_wrong_sum i p j k w) a d = refl
there (whole f) a d = refl

module _ {h limit : ℕ} {s : List ℕ} where
  pub wants : {w r : ℕ} → Far h limit s w r → wanting h limit s ≡ w
  unfolding wanting
  wants (in_header a) = ap missing_in (read_as_lem (no_header a))
  wants (above a b) = ap missing_in (read_as_lem (is_too_long a refl b))
  wants (in_body a b d) = ap missing_in (read_as_lem (cut a refl b d))
  wants (at-end a b d) = there (view h limit s) a d

  pub reaches : {w r : ℕ} → Far h limit s w r → reach h limit s ≡ r
  unfolding reach
  reaches (in_header a) = rw (lt-ltb (length s) h a)
  reaches (above a b) = rw (le-ltb (length s) h a, lt-ltb limit (length_of h s) b)
  reaches (in_body a b d) = rw (le-ltb (length s) h a, le-ltb limit (length_of h s) b, lt-ltb (length s) (end_of h s) d)
  reaches (at-end a b d) = rw (le-ltb (length s) h a, le-ltb limit (length_of h s) b, le-ltb (length s) (end_of h s) d)

-- a refusal says what is missing
pub wanting-of : (h limit : ℕ) (s : List ℕ) {n : ℕ} {vs : List ℕ} → read h limit s ≡ refused n vs → wanting h limit s ≡ missing_by vs
unfolding wanting
wanting-of h limit s e = ap missing_in e

-- whatever the bytes are, one of the cases holds
by_tests :
    (h limit : ℕ) (s : List ℕ) (a b d : Bool) → ltb (length s) h ≡ a → ltb limit (length_of h s) ≡ b → ltb (length s) (end_of h s) ≡ d →
    Far h limit s (wanting h limit s) (reach h limit s)
by_tests h limit s true b d p q r = seen (in_header (ltb-true (length s) h p)) where
  seen : {w n : ℕ} → Far h limit s w n → Far h limit s (wanting h limit s) (reach h limit s)
  seen f = rw (wants f, reaches f) f
by_tests h limit s false true d p q r = seen (above (ltb-false (length s) h p) (ltb-true limit (length_of h s) q)) where
  seen : {w n : ℕ} → Far h limit s w n → Far h limit s (wanting h limit s) (reach h limit s)
  seen f = rw (wants f, reaches f) f
by_tests h limit s false false true p q r =
    seen (in_body (ltb-false (length s) h p) (ltb-false limit (length_of h s) q) (ltb-true (length s) (end_of h s) r)) where
      seen : {w n : ℕ} → Far h limit s w n → Far h limit s (wanting h limit s) (reach h limit s)
      seen f = rw (wants f, reaches f) f
by_tests h limit s false false false p q r =
    seen (at-end (ltb-false (length s) h p) (ltb-false limit (length_of h s) q) (ltb-false (length s) (end_of h s) r)) where
      seen : {w n : ℕ} → Far h limit s w n → Far h limit s (wanting h limit s) (reach h limit s)
      seen f = rw (wants f, reaches f) f

pub far : (h limit : ℕ) (s : List ℕ) → Far h limit s (wanting h limit s) (reach h limit s)
far h limit s = by_tests h limit s (ltb (length s) h) (ltb limit (length_of h s)) (ltb (length s) (end_of h s)) refl refl refl

-- ---- beside the reading

within : {h limit : ℕ} {s : List ℕ} {w r : ℕ} → Far h limit s w r → r ≤ length s
within (in_header a) = omega arith
within (above a b) = a
within (in_body a b d) = omega arith
within (at-end a b d) = d

pub reach-within : (h limit : ℕ) (s : List ℕ) → reach h limit s ≤ length s
reach-within h limit s = within (far h limit s)

-- something is missing exactly where refusal 1 is given, with so many bytes
short_far : {h limit : ℕ} {s : List ℕ} {w r : ℕ} → Far h limit s w r → 0 < w → Reading h limit s (refused too_short (w ∷ []))
short_far (in_header a) l = no_header a
short_far (above a b) l = absurd (omega arith)
short_far (in_body a b d) l = cut a refl b d
short_far (at-end a b d) l = absurd (omega arith)

pub missing : (h limit : ℕ) (s : List ℕ) → 0 < wanting h limit s → read h limit s ≡ refused too_short (wanting h limit s ∷ [])
missing h limit s l = read_as_lem (short_far (far h limit s) l)

pub not_short : {n : ℕ} {a : Answer Frame} {vs : List ℕ} → a ≡ refused n vs → (n ≡ too_short → ⊥) → RefusedBy too_short a → ⊥
not_short e z (with_values us) = z (cc)

pub not-refused : {a : Answer Frame} {f : Frame} → a ≡ accepted f → RefusedBy too_short a → ⊥
not-refused e (with_values us) = let z : ◌≡◌ {A = ℕ} 0 1 = cc in omega arith

judged_far : {h limit : ℕ} {s : List ℕ} {w r : ℕ} → Far h limit s w r → w ≡ 0 → RefusedBy too_short (read h limit s) → ⊥
judged_far (in_header a) e = absurd (omega arith)
judged_far {h} {limit} {s} (above a b) e = not_short (read_as_lem (is_too_long a refl b)) (λ z. omega arith)
judged_far (in_body a b d) e = absurd (omega arith)
judged_far {h} {limit} {s} (at-end a b d) e = by_reading (view h limit s) where
  by_reading : {x : Answer Frame} → Reading h limit s x → RefusedBy too_short x → ⊥
  by_reading (no_header i) z = omega arith
  by_reading (is_too_long i p j) z = not_short refl (λ y. omega arith) z
  by_reading (cut i p j k) z = omega arith
  by_reading (is_wrong_sum i p j k w) z = not_short refl (λ y. omega arith) z
  by_reading (whole f) z = not-refused refl z

pub judged : (h limit : ℕ) (s : List ℕ) → wanting h limit s ≡ 0 → RefusedBy too_short (read h limit s) → ⊥
judged h limit s e = judged_far (far h limit s) e

pub lacks : (h limit : ℕ) (s : List ℕ) → RefusedBy too_short (read h limit s) → 0 < wanting h limit s
lacks h limit s r = by (wanting h limit s) refl where
  by : (w : ℕ) → wanting h limit s ≡ w → 0 < wanting h limit s
  by zero e = absurd (judged h limit s e r)
  by (suc w) e = omega arith

-- ---- with bytes behind

module _ (h limit : ℕ) (v t : List ℕ) (g : 4 ≤ h) where
  len_behind : h ≤ length v → length_of h (v ++ t) ≡ length_of h v
  len_behind i = be_at-behind v t (h - 4) 4 (omega arith)

  total-length : length (v ++ t) ≡ length v + length t
  total-length = length-append v t

  -- where all is there that is judged, bytes behind are not reached
  done_far : {w r : ℕ} → Far h limit v w r → w ≡ 0 → Far h limit (v ++ t) 0 r
  done_far (in_header a) e = absurd (omega arith)
  done_far (above a b) e = above (omega (arith, total-length)) (rw (len_behind a) b)
  done_far (in_body a b d) e = absurd (omega arith)
  done_far (at-end a b d) e =
      let p : Far h limit (v ++ t) 0 (end_of h (v ++ t)) =
      at-end (omega (arith, total-length)) (rw (len_behind a) b) (rw (len_behind a) (omega (arith, total-length)))
      in
      rw (len_behind a) at p

  pub done : wanting h limit v ≡ 0 → (wanting h limit (v ++ t) ≡ 0) × (reach h limit (v ++ t) ≡ reach h limit v)
  done e = let f = done_far (far h limit v) e in (wants f, reaches f)

  -- fewer bytes than are missing: all are reached, and the others are still missing
  short_of_lem : {w r : ℕ} → Far h limit v w r → length t < w → (wanting h limit (v ++ t) ≡ w - length t) × (reach h limit (v ++ t) ≡ length (v ++ t))
  short_of_lem (in_header a) l =
      let f : Far h limit (v ++ t) (h - length (v ++ t)) (length (v ++ t)) = in_header (omega (arith, total-length)) in
      (wants f ∙ (omega (arith, total-length)), reaches f)
  short_of_lem (above a b) l = absurd (omega arith)
  short_of_lem (in_body a b d) l =
      let e = len_behind a in
      let f : Far h limit (v ++ t) (end_of h (v ++ t) - length (v ++ t)) (length (v ++ t)) =
      in_body (omega (arith, total-length)) (rw e b) (rw e (omega (arith, total-length)))
      in
      (wants f ∙ rw e (omega (arith, total-length)), reaches f)
  short_of_lem (at-end a b d) l = absurd (omega arith)

  pub still : length t < wanting h limit v → (wanting h limit (v ++ t) ≡ wanting h limit v - length t) × (reach h limit (v ++ t) ≡ length (v ++ t))
  still l = short_of_lem (far h limit v) l

  -- as many bytes as are missing are reached
  on_far : {w r x y : ℕ} → Far h limit v w r → Far h limit (v ++ t) x y → 0 < w → w ≤ length t → length v + w ≤ y
  on_far (in_header a) (in_header i) z l = omega (arith, total-length)
  on_far (in_header a) (above i j) z l = omega arith
  on_far (in_header a) (in_body i j k) z l = omega (arith, total-length)
  on_far (in_header a) (at-end i j k) z l = omega arith
  on_far (above a b) f z l = absurd (omega arith)
  on_far (in_body a b d) (in_header i) z l = absurd (omega (arith, total-length))
  on_far (in_body a b d) (above i j) z l = absurd (omega (arith, rw (len_behind a) at j))
  on_far (in_body a b d) (in_body i j k) z l = absurd (omega (arith, total-length, rw (len_behind a) at k))
  on_far (in_body a b d) (at-end i j k) z l = rw (len_behind a) (omega arith)
  on_far (at-end a b d) f z l = absurd (omega arith)

  pub onward_to : 0 < wanting h limit v → wanting h limit v ≤ length t → length v + wanting h limit v ≤ reach h limit (v ++ t)
  onward_to z l = on_far (far h limit v) (far h limit (v ++ t)) z l

-- the bytes up to where a reading goes read the same
module _ (h limit : ℕ) (s : List ℕ) (g : 4 ≤ h) where
  front : (n : ℕ) → h ≤ n → n ≤ length s → length_of h (take n s) ≡ length_of h s
  front n i l =
      let e : length (take n s) ≡ n = length-take-le n s l in
      rw (take-append-drop n s) at (sym (be_at-behind (take n s) (drop n s) (h - 4) 4 (omega arith)))

  stops_far : {w r : ℕ} → Far h limit s w r → w ≡ 0 → Far h limit (take r s) 0 r
  stops_far (in_header a) e = absurd (omega arith)
  stops_far (above a b) e =
      let l : length (take h s) ≡ h = length-take-le h s a in
      above (omega arith) (rw (front h (omega arith) a) b)
  stops_far (in_body a b d) e = absurd (omega arith)
  stops_far (at-end a b d) e =
      let n = end_of h s in
      let l : length (take n s) ≡ n = length-take-le n s d in
      let q = front n (omega arith) d in
      let p : Far h limit (take n s) 0 (end_of h (take n s)) = at-end (omega arith) (rw q b) (rw q (omega arith)) in
      rw q at p

  pub stop-wants : wanting h limit s ≡ 0 → wanting h limit (take (reach h limit s) s) ≡ 0
  stop-wants e = wants (stops_far (far h limit s) e)

  pub stops : wanting h limit s ≡ 0 → read h limit (take (reach h limit s) s) ≡ read h limit s
  stops e =
      let n = reach h limit s in
      let f = stops_far (far h limit s) e in
      let u = unchanged_behind h limit (take n s) (drop n s) g (judged h limit (take n s) (wants f)) in
      sym (rw (take-append-drop n s) at u)

-- ---- how far each answer's reading goes

pub whole-reach : (h limit : ℕ) (s : List ℕ) (f : Frame) → read h limit s ≡ accepted f → (wanting h limit s ≡ 0) × (reach h limit s ≡ f.total)
whole-reach h limit s f e =
    let a = known_of h limit s f e in
    let l : length_of h s ≡ f.len = sym a.len in
    let p : Far h limit s 0 (end_of h s) = at-end a.header (omega arith) (omega arith) in
    (wants p, reaches p ∙ omega arith)

-- bytes that lack some are all reached, whatever comes behind; and where some come, so are some of these
pub reach-on : (h limit : ℕ) (u c : List ℕ) → 4 ≤ h → 0 < wanting h limit u → length u ≤ reach h limit (u ++ c)
reach-on h limit u c g z =
    ⊎_elim (λ l. rw (still h limit u c g l).1 (omega (arith, length-append u c)))
    (λ l. omega (arith, onward_to h limit u c g z l)) (under (length c) (wanting h limit u))

pub reach_past : (h limit : ℕ) (u c : List ℕ) → 4 ≤ h → 0 < wanting h limit u → 0 < length c → length u < reach h limit (u ++ c)
reach_past h limit u c g z s =
    ⊎_elim (λ l. rw (still h limit u c g l).1 (omega (arith, length-append u c)))
    (λ l. omega (arith, onward_to h limit u c g z l)) (under (length c) (wanting h limit u))

-- what bytes lack first brings the header, and what they lack then the frame's end
header_far : {h limit : ℕ} {s : List ℕ} {w r : ℕ} → Far h limit s w r → 0 < w → h ≤ length s + w
header_far (in_header a) z = omega arith
header_far (above a b) z = absurd (omega arith)
header_far (in_body a b d) z = omega arith
header_far (at-end a b d) z = absurd (omega arith)

pub header-there : (h limit : ℕ) (s : List ℕ) → 0 < wanting h limit s → h ≤ length s + wanting h limit s
header-there h limit s z = header_far (far h limit s) z

end_far :
    {h limit : ℕ} {v : List ℕ} {w r : ℕ} (t : List ℕ) → Far h limit v w r → 4 ≤ h → h ≤ length v → 0 < w → length t ≡ w → wanting h limit (v ++ t) ≡ 0
end_far t (in_header a) g i z n = absurd (omega arith)
end_far t (above a b) g i z n = absurd (omega arith)
end_far {h} {limit} {v} t (in_body a b d) g i z n =
    let e = len_behind h limit v t g a in
    let l = length-append v t in
    wants (at-end (omega arith) (rw e b) (rw e (omega arith)))
end_far t (at-end a b d) g i z n = absurd (omega arith)

pub end-there : (h limit : ℕ) (v t : List ℕ) → 4 ≤ h → h ≤ length v → 0 < wanting h limit v → length t ≡ wanting h limit v → wanting h limit (v ++ t) ≡ 0
end-there h limit v t g i z n = end_far t (far h limit v) g i z n

all_far : {h limit : ℕ} {s : List ℕ} {w r : ℕ} → Far h limit s w r → 0 < w → r ≡ length s
all_far (in_header a) z = refl
all_far (above a b) z = absurd (omega arith)
all_far (in_body a b d) z = refl
all_far (at-end a b d) z = absurd (omega arith)

pub short_reach : (h limit : ℕ) (s : List ℕ) → 0 < wanting h limit s → reach h limit s ≡ length s
short_reach h limit s z = all_far (far h limit s) z

-- no reading goes further than the longest frame
limit_far : {h limit : ℕ} {s : List ℕ} {w r : ℕ} → Far h limit s w r → r ≤ h + limit + sum_width
limit_far (in_header a) = omega arith
limit_far (above a b) = omega arith
limit_far (in_body a b d) = omega arith
limit_far (at-end a b d) = omega arith

pub reach_limit : (h limit : ℕ) (s : List ℕ) → reach h limit s ≤ h + limit + sum_width
reach_limit h limit s = limit_far (far h limit s)
