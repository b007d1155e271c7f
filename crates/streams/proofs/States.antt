-- The states that calls lead to, and what one call does in each.
-- Assumes nothing.
use Prim.Native.Nat.{ℕ, ◌+◌, ◌≤◌, ◌<◌}
use mathlib.Core.Path.{◌≡◌, refl, ap, sym, ◌∙◌}
use mathlib.Core.Bool.{Bool, true, false, cond, ◌&&◌, ◌||◌}
use mathlib.Core.Logic.{◌⊎◌, inl, inr}
use mathlib.Core.List.{List, [], ◌++◌}
use native.Mathlib.Omega.{arith}
use borrow.Author.Tests.{le-leb, lt-ltb, eq-eqb, ne_eqb, ltb-true, leb-true, leb-false, eqb-true, eqb-false}
use lib.Dec.{leb, ltb, eqb}
use lib.ListN.{length, take}
use lib.Seq.{take-length, take-paste}
use Rattle.std.proofs.lemmas.Bool.{and_parts, or_cases}
use Rattle.wire.specs.Answer.{Answer, refused, with_values}
use Rattle.wire.specs.Bytes.{splice}
use Rattle.wire.specs.Refusal.{too_short, too_long, wrong_sum, malformed}
use Rattle.wire.proofs.PutAt.{paste_all}
use Rattle.frame.specs.Framing.{read, longest}
use Rattle.frame.specs.Wanting.{wanting}
use Rattle.frame.proofs.Far.{Far, in_header, above, in_body, at-end, far, judged}
use Rattle.streams.specs.declared.Stream.{Stream}
use Rattle.streams.specs.Stream.{going, over, stopping, state, Said, unfinished, led, read_on, kept_on, stay, answer_again, lacked_by, pushed, buffer_left, ended}
use Rattle.streams.specs.Steps.{Holding, Standing}

-- bytes that lack some are fewer than the longest frame has
fits_far : {h limit : ℕ} {s : List ℕ} {w r : ℕ} → Far h limit s w r → 0 < w → length s < longest h limit
fits_far (in_header a) z = omega arith
fits_far (above a b) z = absurd (omega arith)
fits_far (in_body a b d) z = omega arith
fits_far (at-end a b d) z = absurd (omega arith)

pub fits : (h limit : ℕ) (s : List ℕ) → 0 < wanting h limit s → length s < longest h limit
fits h limit s z = fits_far (far h limit s) z

-- no bytes lack some
pub none-lacks : (h limit : ℕ) → 4 ≤ h → 0 < wanting h limit []
none-lacks h limit g = by (far h limit []) where
  by : {w r : ℕ} → Far h limit [] w r → 0 < w
  by (in_header a) = omega arith
  by (above a b) = absurd (omega arith)
  by (in_body a b d) = omega arith
  by (at-end a b d) = absurd (omega arith)

-- where nothing is missing, a refusal is not 1
pub not-one : (h limit : ℕ) (s : List ℕ) {n : ℕ} {vs : List ℕ} → wanting h limit s ≡ 0 → read h limit s ≡ refused n vs → n ≡ too_short → ⊥
not-one h limit s {n} {vs} w e z = judged h limit s w (rw (e ∙ ap (λ (m : ℕ). refused m vs) z) (with_values vs))

-- bytes placed behind the first ones
pub take-splice : (out : List ℕ) (n : ℕ) (bs : List ℕ) → n + length bs ≤ length out → take (n + length bs) (splice out n bs) ≡ take n out ++ bs
take-splice out n bs h =
    ap (take (n + length bs)) (sym (paste_all out n bs))
    ∙ take-paste out n bs (length bs) (omega arith) (omega arith)
    ∙ ap (λ (x : List ℕ). take n out ++ x) (take-length bs)

-- ---- a state that calls lead to

-- all that is known of one: it goes on or was told to have ended, with an unfinished frame; or it stopped
pub data Led (h limit : ℕ) (buffer : List ℕ) : ℕ → ℕ → Type 0 where
  goes : {held : ℕ} → Holding h limit buffer held → Led h limit buffer going held
  told : {held : ℕ} → Holding h limit buffer held → Led h limit buffer over held
  stop2 : longest h limit ≤ length buffer → Led h limit buffer too_long 0
  stop3 : longest h limit ≤ length buffer → Led h limit buffer wrong_sum 0

module _ (h limit : ℕ) (buffer : List ℕ) where
  -- the tests, one by one

  pub led_young :
      (st : Stream) → longest h limit ≤ length buffer → st.held ≤ length buffer → eqb st.mark going || eqb st.mark over ≡ true →
      ltb 0 (wanting h limit (unfinished st buffer)) ≡ led h limit st buffer
  unfolding led
  led_young st b l m = rw (le-leb (longest h limit) (length buffer) b, le-leb st.held (length buffer) l, m)

  pub led_old :
      (st : Stream) → longest h limit ≤ length buffer → st.held ≤ length buffer → eqb st.mark going || eqb st.mark over ≡ false →
      stopping st.mark && eqb st.held 0 ≡ led h limit st buffer
  unfolding led
  led_old st b l m = rw (le-leb (longest h limit) (length buffer) b, le-leb st.held (length buffer) l, m)

  -- what the test says, and back

  pub led_as : {mark held : ℕ} → Led h limit buffer mark held → led h limit (state mark held) buffer ≡ true
  led_as (goes {held} k) = sym (led_young (state going held) k.room k.within refl) ∙ lt-ltb 0 _ k.lacks
  led_as (told {held} k) = sym (led_young (state over held) k.room k.within refl) ∙ lt-ltb 0 _ k.lacks
  led_as (stop2 b) = sym (led_old (state too_long 0) b (omega arith) refl)
  led_as (stop3 b) = sym (led_old (state wrong_sum 0) b (omega arith) refl)

  pub led-going : (st : Stream) → Holding h limit buffer st.held → st.mark ≡ going → led h limit st buffer ≡ true
  led-going st k m = led_as (rw m (goes k))

  by_young :
      (mark held : ℕ) → Holding h limit buffer held → (eqb mark going ≡ true) ⊎ (eqb mark over ≡ true) → Led h limit buffer mark held
  by_young mark held k (inl e) = rw (eqb-true mark going e) (goes k)
  by_young mark held k (inr e) = rw (eqb-true mark over e) (told k)

  by_old :
      (mark held : ℕ) → longest h limit ≤ length buffer → held ≡ 0 → (eqb mark too_long ≡ true) ⊎ (eqb mark wrong_sum ≡ true) →
      Led h limit buffer mark held
  by_old mark held b z (inl e) = rw (eqb-true mark too_long e, z) (stop2 b)
  by_old mark held b z (inr e) = rw (eqb-true mark wrong_sum e, z) (stop3 b)

  by_mark :
      (mark held : ℕ) (t : Bool) → eqb mark going || eqb mark over ≡ t → longest h limit ≤ length buffer → held ≤ length buffer →
      cond t (ltb 0 (wanting h limit (take held buffer))) (stopping mark && eqb held 0) ≡ true → Led h limit buffer mark held
  by_mark mark held true e b l p =
      by_young mark held (record { room = b; within = l; lacks = ltb-true 0 (wanting h limit (take held buffer)) p }) (or_cases _ _ e)
  by_mark mark held false e b l p =
      let q = and_parts _ _ p in
      by_old mark held b (eqb-true held 0 q.1) (or_cases _ _ q.0)

  pub led-known : (st : Stream) → led h limit st buffer ≡ true → Led h limit buffer st.mark st.held
  unfolding led
  led-known st e =
      let p = and_parts _ _ e in
      let q = and_parts _ _ p.1 in
      by_mark st.mark st.held _ refl (leb-true (longest h limit) (length buffer) p.0) (leb-true st.held (length buffer) q.0) q.1

  -- ---- the calls

  -- a stream that goes on reads held bytes and cut as one
  pub push-on :
      (st : Stream) (c : List ℕ) → led h limit st buffer ≡ true → st.mark ≡ going →
      (pushed h limit st buffer c ≡ read_on h limit (unfinished st buffer) c)
      × (buffer_left h limit st buffer c ≡ kept_on h limit (unfinished st buffer) c buffer)
  unfolding pushed buffer_left
  push-on st c e m = (rw (e, eq-eqb st.mark going m), rw (e, eq-eqb st.mark going m))

  -- one that is over takes nothing and repeats its answer
  pub push-over :
      (st : Stream) (c : List ℕ) → led h limit st buffer ≡ true → (st.mark ≡ going → ⊥) →
      (pushed h limit st buffer c ≡ stay (answer_again (lacked_by h limit st buffer) st) st) × (buffer_left h limit st buffer c ≡ buffer)
  unfolding pushed buffer_left
  push-over st c e m = (rw (e, ne_eqb st.mark going m), rw (e, ne_eqb st.mark going m))

  pub push-malformed :
      (st : Stream) (c : List ℕ) → led h limit st buffer ≡ false →
      (pushed h limit st buffer c ≡ stay (refused malformed []) st) × (buffer_left h limit st buffer c ≡ buffer)
  unfolding pushed buffer_left
  push-malformed st c e = (rw e, rw e)

  pub end_on :
      (st : Stream) → led h limit st buffer ≡ true → st.mark ≡ going →
      ended h limit st buffer ≡ stay (answer_again (lacked_by h limit st buffer) (state over st.held)) (state over st.held)
  unfolding ended
  end_on st e m = rw (e, eq-eqb st.mark going m)

  pub end-over :
      (st : Stream) → led h limit st buffer ≡ true → (st.mark ≡ going → ⊥) → ended h limit st buffer ≡ stay (answer_again (lacked_by h limit st buffer) st) st
  unfolding ended
  end-over st e m = rw (e, ne_eqb st.mark going m)

  pub end-malformed : (st : Stream) → led h limit st buffer ≡ false → ended h limit st buffer ≡ stay (refused malformed []) st
  unfolding ended
  end-malformed st e = rw e

  -- one that goes on holds an unfinished frame
  by_open : {mark held : ℕ} → Led h limit buffer mark held → mark ≡ going → Holding h limit buffer held
  by_open (goes k) m = k
  by_open (told k) m = k
  by_open (stop2 b) m = absurd (omega arith)
  by_open (stop3 b) m = absurd (omega arith)

  pub held_of : (st : Stream) → led h limit st buffer ≡ true → st.mark ≡ going → Holding h limit buffer st.held
  held_of st e m = by_open (led-known st e) m

  -- ---- a state in which every call answers the same

  -- what is so of a state that calls lead to
  pub record Numbers (mark held : ℕ) : Type 0 where
    pub room : longest h limit ≤ length buffer
    pub within : held ≤ length buffer
    pub marks : mark ≤ 3
    pub goes : mark ≡ going → 0 < wanting h limit (take held buffer)
    pub told : mark ≡ over → 0 < wanting h limit (take held buffer)
    pub stopped : 2 ≤ mark → held ≡ 0

  numbers : {mark held : ℕ} → Led h limit buffer mark held → Numbers mark held
  numbers (goes k) = record { room = k.room; within = k.within; marks = omega arith; goes = λ m. k.lacks; told = λ m. k.lacks; stopped = λ m. absurd (omega arith) }
  numbers (told k) = record { room = k.room; within = k.within; marks = omega arith; goes = λ m. k.lacks; told = λ m. k.lacks; stopped = λ m. absurd (omega arith) }
  numbers (stop2 b) = record { room = b; within = omega arith; marks = omega arith; goes = λ m. absurd (omega arith); told = λ m. absurd (omega arith); stopped = λ m. refl }
  numbers (stop3 b) = record { room = b; within = omega arith; marks = omega arith; goes = λ m. absurd (omega arith); told = λ m. absurd (omega arith); stopped = λ m. refl }

  -- one to which no calls lead, and one that is over
  pub malformed_stands : (st : Stream) → led h limit st buffer ≡ false → Standing h limit st buffer (refused malformed [])
  malformed_stands st e = record { pushes = λ c. push-malformed st c e; ends = end-malformed st e }

  pub over_stands :
      (st : Stream) → led h limit st buffer ≡ true → (st.mark ≡ going → ⊥) → Standing h limit st buffer (answer_again (lacked_by h limit st buffer) st)
  over_stands st e m = record { pushes = λ c. push-over st c e m; ends = end-over st e m }

  pub no_calls : (st : Stream) → (Numbers st.mark st.held → ⊥) → Standing h limit st buffer (refused malformed [])
  no_calls st n = by (led h limit st buffer) refl where
    by : (t : Bool) → led h limit st buffer ≡ t → Standing h limit st buffer (refused malformed [])
    by false e = malformed_stands st e
    by true e = absurd (n (numbers (led-known st e)))

  pub is_told :
      (st : Stream) {a : Answer Said} {w : ℕ} → Holding h limit buffer st.held → st.mark ≡ over → w ≡ lacked_by h limit st buffer →
      a ≡ answer_again w (state over st.held) → Standing h limit st buffer a
  is_told st {a} k m e z =
      let l : Led h limit buffer st.mark st.held = rw m (told k) in
      let f : a ≡ answer_again (lacked_by h limit st buffer) st = z ∙ rw (e, m) in
      rw f (over_stands st (led_as l) (λ n. omega (arith, m, n)))

  -- what does not go on, or has too small a buffer, is answered as at its end
  as_at_end : (st : Stream) (c : List ℕ) {a : Answer Said} → Standing h limit st buffer a → (pushed h limit st buffer c ≡ ended h limit st buffer) × (buffer_left h limit st buffer c ≡ buffer)
  as_at_end st c s = let m = s.pushes c in (m.0 ∙ sym s.ends, m.1)

  by_tests :
      (st : Stream) (c : List ℕ) (a b l : Bool) → eqb st.mark going ≡ a → leb (longest h limit) (length buffer) ≡ b → led h limit st buffer ≡ l →
      a && b ≡ false → (pushed h limit st buffer c ≡ ended h limit st buffer) × (buffer_left h limit st buffer c ≡ buffer)
  by_tests st c a b false p q e z = as_at_end st c (malformed_stands st e)
  by_tests st c false b true p q e z = as_at_end st c (over_stands st e (eqb-false st.mark going p))
  by_tests st c true true true p q e z = let y : ◌≡◌ {A = ℕ} 0 1 = cc in absurd (omega arith)
  by_tests st c true false true p q e z = absurd (omega (arith, (numbers (led-known st e)).room, leb-false (longest h limit) (length buffer) q))

  pub push-ends :
      (st : Stream) (c : List ℕ) → eqb st.mark going && leb (longest h limit) (length buffer) ≡ false →
      (pushed h limit st buffer c ≡ ended h limit st buffer) × (buffer_left h limit st buffer c ≡ buffer)
  push-ends st c z = by_tests st c _ _ _ refl refl refl z
