-- Where the numbers behind the highest go, in each of the cases.
use Prim.Native.Nat.{ℕ, ◌+◌, ◌*◌, ◌-◌, ◌≤◌, ◌<◌}
use native.Mathlib.Omega.{arith}
use mathlib.Core.Path.{◌≡◌, refl, ap, ◌∙◌}
use mathlib.Core.List.{List, [], ◌∷◌, ◌++◌}
use mathlib.Core.Bool.{Bool, true, false, cond}
use Rattle.std.specs.Prelude.{Option}
use lib.ListN.{get_or, length-append}
use lib.Dec.{ltb, eqb}
use borrow.Author.Tests.{le-leb, ltb-true, ltb-false, eqb-true, eqb-false}
use Rattle.gaps.specs.Limits.{most_number}
use Rattle.gaps.specs.Gaps.{run, grow}
use Rattle.gaps.proofs.Grow.{grow-apart, grow_touch}
use Rattle.rows.specs.declared.Gap.{Gap}
use Rattle.rows.specs.Gap.{full, placed, room}
use Rattle.rows.proofs.Row.{span_last, yes_there}
use Rattle.seats.specs.Places.{span}
use Rattle.tracker.proofs.Told.{Grows}
use Rattle.tracker.proofs.Row.{span-length, span-take}

module _ (f l : List ℕ) (b held h : ℕ) where
  pub room-first : held ≡ 0 → Grows f l b held h (placed 0 (h + 1))
  unfolding span grow
  room-first e = (record { within = omega arith; low = omega arith; high = omega arith; grown = λ m. rw e })

  module _ (p : 1 ≤ held) where
    span-end : span f l b held ≡ span f l b (held - 1) ++ (run (get_or f (b + (held - 1)) 0) (get_or l (b + (held - 1)) 0) ∷ [])
    span-end = let e : held ≡ held - 1 + 1 = omega arith in ap (span f l b) e ∙ span_last f l b (held - 1)

    pub room_joined : held ≤ 32 → get_or l (b + (held - 1)) 0 ≡ h → Grows f l b held h (placed (held - 1) (get_or f (b + (held - 1)) 0))
    room_joined s e =
        (record {
          within = omega arith;
          low = omega arith;
          high = omega arith;
          grown = λ m. (rw (span-take f l b (held - 1) held (omega arith), span-end) (grow_touch (span f l b (held - 1)) (run (get_or f (b + (held - 1)) 0) (get_or l (b + (held - 1)) 0)) h m e));
        })

    apart : (get_or l (b + (held - 1)) 0 ≡ h → ⊥) → (m : ℕ) → grow (span f l b held) h m ≡ span f l b held ++ (run (h + 1) m ∷ [])
    apart e m = rw span-end (grow-apart (span f l b (held - 1)) (run (get_or f (b + (held - 1)) 0) (get_or l (b + (held - 1)) 0)) h m e)

    pub room-none : held ≡ 32 → (get_or l (b + (held - 1)) 0 ≡ h → ⊥) → Grows f l b held h full
    room-none s e = λ m. rw (apart e m, length-append (span f l b held) (run (h + 1) m ∷ []), span-length f l b held) (omega arith)

    pub room_next : held < 32 → (get_or l (b + (held - 1)) 0 ≡ h → ⊥) → Grows f l b held h (placed held (h + 1))
    room_next s e =
        (record { within = s; low = omega arith; high = omega arith; grown = λ m. rw (span-take f l b held held (omega arith)) (apart e m) })

-- in a row within the rules
pub room_grows : (f l : List ℕ) (i n h : ℕ) → i < 8 → n ≤ 32 → h ≤ most_number → (g : Option Gap) → g ≡ room f l i n h → Grows f l (i * 32) n h g
unfolding room
room_grows f l i n h p q r g e = rw (e, yes_there i n p q, le-leb h most_number r) (go (eqb n 0) refl (eqb (get_or l (i * 32 + (n - 1)) 0) h) refl (ltb n 32) refl)
  where
    go : (x : Bool) → eqb n 0 ≡ x → (y : Bool) → eqb (get_or l (i * 32 + (n - 1)) 0) h ≡ y → (z : Bool) → ltb n 32 ≡ z →
        Grows f l (i * 32) n h (cond x (placed 0 (h + 1)) (cond y (placed (n - 1) (get_or f (i * 32 + (n - 1)) 0)) (cond z (placed n (h + 1)) full)))
    go true a y b z c = room-first f l (i * 32) n h (eqb-true n 0 a)
    go false a true b z c = room_joined f l (i * 32) n h (omega (arith, eqb-false n 0 a)) q (eqb-true (get_or l (i * 32 + (n - 1)) 0) h b)
    go false a false b true c = room_next f l (i * 32) n h (omega (arith, eqb-false n 0 a)) (ltb-true n 32 c) (eqb-false (get_or l (i * 32 + (n - 1)) 0) h b)
    go false a false b false c = room-none f l (i * 32) n h (omega (arith, eqb-false n 0 a)) (omega (arith, q, ltb-false n 32 c)) (eqb-false (get_or l (i * 32 + (n - 1)) 0) h b)
