-- What 1 says is missing, and what comes of just so many bytes more.
-- Assumes nothing.
use Prim.Native.Nat.{ℕ, ◌+◌, ◌-◌, ◌≤◌, ◌<◌}
use mathlib.Core.Path.{◌≡◌, refl, ap, sym, ◌∙◌}
use mathlib.Core.List.{List, [], ◌∷◌, ◌++◌}
use native.Mathlib.Omega.{arith}
use lib.ListN.{length, length-append}
use Rattle.wire.specs.Answer.{Answer, refused, RefusedBy, with_values}
use Rattle.wire.specs.Refusal.{too_short}
use Rattle.wire.proofs.Be.{be_at-behind}
use Rattle.frame.specs.Framing.{sum_width, length_of, read, missing_by}
use Rattle.frame.specs.Wanting.{end_of, wanting}
use Rattle.frame.specs.Lacking.{ReadCall, AtHeader, too_much, frame_left, AtEnd, differs, whole, HostReads, so_far, brings, ShortSays}
use Rattle.frame.specs.declared.Frame.{Frame}
use Rattle.frame.proofs.Framing as framing
use Rattle.frame.proofs.Framing.{Reading, view}
use Rattle.frame.proofs.Far.{Far, in_header, above, in_body, at-end, wants, far, missing, not_short, not-refused, lacks, still, header-there}

-- 1 comes with what is missing
one_value : {a : Answer Frame} {n m : ℕ} {us vs : List ℕ} → a ≡ refused n us → a ≡ refused m vs → us ≡ vs
one_value e f = cc

pub told : (h limit : ℕ) (s vs : List ℕ) → read h limit s ≡ refused too_short vs → (vs ≡ wanting h limit s ∷ []) × (0 < wanting h limit s)
told h limit s vs e =
    let z = lacks h limit s (rw e (with_values vs)) in
    (one_value e (missing h limit s z), z)

-- ---- the header is just whole

at-header : {h limit : ℕ} {s : List ℕ} {a : Answer Frame} → length s ≡ h → Reading h limit s a → AtHeader h limit s a
at-header l (framing.no_header i) = absurd (omega arith)
at-header {h} {limit} {s} l (framing.is_too_long {n} i e j) = too_much (rw e at j)
at-header {h} {limit} {s} l (framing.cut {n} i e j k) =
    let m : h + n + sum_width - length s ≡ length_of h s + sum_width = omega arith in
    rw m (frame_left (rw e at j))
at-header l (framing.is_wrong_sum i e j k w) = absurd (omega arith)
at-header l (framing.whole f) = absurd (omega (arith, f.total, f.there))

-- ---- the frame is just whole

at_end_of : {h limit : ℕ} {s : List ℕ} {a : Answer Frame} → h ≤ length s → length_of h s ≤ limit → length s ≡ end_of h s → Reading h limit s a → AtEnd s a
at_end_of i j l (framing.no_header k) = absurd (omega arith)
at_end_of i j l (framing.is_too_long k e m) = absurd (omega arith)
at_end_of i j l (framing.cut k e m p) = absurd (omega arith)
at_end_of i j l (framing.is_wrong_sum k e m p w) = differs
at_end_of i j l (framing.whole {f} k) = whole f (omega (arith, k.total, k.len))

no_one : {s : List ℕ} {a : Answer Frame} → AtEnd s a → RefusedBy too_short a → ⊥
no_one differs z = not_short refl (λ e. omega arith) z
no_one (whole f e) z = not-refused refl z

-- a header that is there, and a frame that is not
in_frame : {h limit : ℕ} {s : List ℕ} {w r : ℕ} → Far h limit s w r → 0 < w → h ≤ length s → (length_of h s ≤ limit) × (end_of h s ≡ length s + w)
in_frame (in_header a) z i = absurd (omega arith)
in_frame (above a b) z i = absurd (omega arith)
in_frame (in_body a b d) z i = (b, omega arith)
in_frame (at-end a b d) z i = absurd (omega arith)

-- behind just so many bytes a frame whose header was there is not short again
module _ (h limit : ℕ) (g : 4 ≤ h) (s t : List ℕ) (n : ℕ) (i : h ≤ length s) (e : read h limit s ≡ refused too_short (n ∷ [])) (l : length t ≡ n) where
  pub ends : AtEnd (s ++ t) (read h limit (s ++ t))
  ends =
      let p = told h limit s (n ∷ []) e in
      let w : n ≡ wanting h limit s = ap missing_by p.0 in
      let f = in_frame (far h limit s) p.1 i in
      let k : length_of h (s ++ t) ≡ length_of h s = be_at-behind s t (h - 4) 4 (omega arith) in
      let m = length-append s t in
      at_end_of (omega arith) (omega arith) (omega arith) (view h limit (s ++ t))

  pub not_twice : (vs : List ℕ) → read h limit (s ++ t) ≡ refused too_short vs → ⊥
  not_twice vs d = no_one ends (rw d (with_values vs))

-- ---- whatever answers the call as is defined

module _ (h limit : ℕ) (g : 4 ≤ h) {Read : ReadCall} (every : (s : List ℕ) → Read s (read h limit s))
    (defined : (s : List ℕ) (a : Answer Frame) → Read s a → a ≡ read h limit s) where
  number : (s : List ℕ) (n : ℕ) → Read s (refused too_short (n ∷ [])) → (n ≡ wanting h limit s) × (0 < wanting h limit s)
  number s n r = let p = told h limit s (n ∷ []) (sym (defined s _ r)) in (ap missing_by p.0, p.1)

  some : (s vs : List ℕ) → Read s (refused too_short vs) → (vs ≡ missing_by vs ∷ []) × (1 ≤ missing_by vs)
  some s vs r = let p = told h limit s vs (sym (defined s _ r)) in (rw p.0, rw p.0 (omega (arith, p.1)))

  fewer :
      (s t : List ℕ) (n : ℕ) (a : Answer Frame) → Read s (refused too_short (n ∷ [])) → length t < n → Read (s ++ t) a →
      a ≡ refused too_short ((n - length t) ∷ [])
  fewer s t n a r l q =
      let p = number s n r in
      let w : wanting h limit (s ++ t) ≡ n - length t = omega (arith, (still h limit s t g (omega arith)).0) in
      defined (s ++ t) a q ∙ missing h limit (s ++ t) (omega arith) ∙ ap (λ (m : ℕ). refused too_short (m ∷ [])) w

  header :
      (s t : List ℕ) (n : ℕ) (a : Answer Frame) → Read s (refused too_short (n ∷ [])) → length t ≡ n → length s < h → Read (s ++ t) a →
      AtHeader h limit (s ++ t) a
  header s t n a r e l q =
      let p = number s n r in
      let w : wanting h limit s ≡ h - length s = wants (in_header l) in
      rw (defined (s ++ t) a q) (at-header (omega (arith, length-append s t)) (view h limit (s ++ t)))

  end :
      (s t : List ℕ) (n : ℕ) (a : Answer Frame) → Read s (refused too_short (n ∷ [])) → length t ≡ n → h ≤ length s → Read (s ++ t) a →
      AtEnd (s ++ t) a
  end s t n a r e i q = rw (defined (s ++ t) a q) (ends h limit g s t n i (sym (defined s _ r)) e)

  last-read : {s : List ℕ} {k : ℕ} → h ≤ length s → HostReads Read s k → k ≤ 1
  last-read i so_far = omega arith
  last-read i (brings n t r e so_far) = omega arith
  last-read {s} i (brings n t r e (brings m u q d more)) = absurd (no_one (end s t n _ r e i q) (with_values _))

  from_nothing : {s : List ℕ} {k : ℕ} → s ≡ [] → HostReads Read s k → k ≤ 2
  from_nothing o so_far = omega arith
  from_nothing {s} o (brings n t r e more) =
      let p = number s n r in
      let b = last-read (omega (arith, length-append s t, header-there h limit s p.1)) more in
      omega arith

  pub lacking : ShortSays h limit Read
  lacking = record { every = every; some = some; fewer = fewer; header = header; end = end; two_reads = λ k r. from_nothing refl r }
