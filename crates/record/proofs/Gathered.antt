-- Texts that stand one behind the other in a body are gathered as one part of it.
-- Assumes nothing.
use Prim.Native.Nat.{ℕ, zero, suc, ◌+◌, ◌-◌, ◌≤◌}
use mathlib.Core.Path.{◌≡◌, refl, ap, sym, ◌∙◌}
use mathlib.Core.List.{List, ◌++◌, append_assoc, append-nil}
use native.Mathlib.Omega.{arith}
use lib.ListN.{length, take, drop}
use lib.Seq.{take-add, drop-drop}
use Rattle.wire.specs.Bytes.{part, splice, put_at}
use Rattle.wire.proofs.PutAt.{put_fits, length-splice, splice-more}
use Rattle.layout.specs.Layout.{fields, common_part, texts, resend, security_status, order, trade, streams}
use Rattle.record.specs.Asked.{zeros, filled}

-- what was gathered, as other texts that are the same
pub found_as : {b t u : List ℕ} {n : ℕ} → (b ≡ filled t) × (n ≡ length t) → t ≡ u → (b ≡ filled u) × (n ≡ length u)
found_as h e = (h.0 ∙ ap filled e, h.1 ∙ ap (length {A = ℕ}) e)

module _ (s : List ℕ) where
  two : (a b at : ℕ) → take (a + b) (drop at s) ≡ take a (drop at s) ++ take b (drop (at + a) s)
  two a b at = take-add a b (drop at s) ∙ ap (λ (l : List ℕ). take a (drop at s) ++ take b l) (drop-drop a at s)

  three : (a b c at : ℕ) → take (a + (b + c)) (drop at s) ≡ take a (drop at s) ++ (take b (drop (at + a) s) ++ take c (drop (at + a + b) s))
  three a b c at = two a (b + c) at ∙ ap (λ (l : List ℕ). take a (drop at s) ++ l) (two b c (at + a))

  four : (a b c d at : ℕ) → take (a + (b + (c + d))) (drop at s) ≡ take a (drop at s) ++ (take b (drop (at + a) s) ++ (take c (drop (at + a + b) s) ++ take d (drop (at + a + b + c) s)))
  four a b c d at = two a (b + (c + d)) at ∙ ap (λ (l : List ℕ). take a (drop at s) ++ l) (three b c d (at + a))

  pub order-texts : part 10 25 s ++ part 0 0 s ≡ texts (fields order) s 0
  unfolding texts
  order-texts = rw (three 3 8 4 10) (simp append_assoc)

  pub trade-texts : part 10 13 s ++ part 29 41 s ≡ texts (fields trade) s 0
  unfolding texts
  trade-texts =
      rw (two 8 4 29)
      (ap (λ (l : List ℕ). part 10 13 s ++ (take 8 (drop 29 s) ++ l)) (sym (append-nil (take 4 (drop 37 s)))))

  pub resend-texts : part 19 27 s ++ part 28 44 s ≡ texts (fields resend) s 0
  unfolding texts
  resend-texts = simp append-nil

  pub status-texts : part 10 30 s ++ part 0 0 s ≡ texts (fields security_status) s 0
  unfolding texts
  status-texts = rw (three 8 4 8 10) (simp append_assoc)

  pub common-texts : part 10 33 s ++ part 0 0 s ≡ texts common_part s 0
  unfolding texts
  common-texts = rw (four 3 8 4 8 10) (simp append_assoc)

  pub stream-texts : (at : ℕ) → part at (at + 3) s ++ part (at + 7) (at + 7 + 8) s ≡ texts streams.fields s at
  unfolding texts
  stream-texts at =
      let a : at + 3 - at ≡ 3 = omega arith in
      let b : at + 7 + 8 - (at + 7) ≡ 8 = omega arith in
      let e : at + 3 + 4 ≡ at + 7 = omega arith in
      rw (a, b, e) (ap (λ (l : List ℕ). take 3 (drop at s) ++ l) (sym (append-nil (take 8 (drop (at + 7) s)))))

-- ---- put in zeros

drop-zeros : (n k : ℕ) → drop n (zeros k) ≡ zeros (k - n)
drop-zeros zero k = let e : k - 0 ≡ k = omega arith in rw e
drop-zeros (suc n) zero = let e : 0 - suc n ≡ 0 = omega arith in rw e
drop-zeros (suc n) (suc k) = let e : suc k - suc n ≡ k - n = omega arith in rw e (drop-zeros n k)

length-zeros : (k : ℕ) → length (zeros k) ≡ k
length-zeros zero = refl
length-zeros (suc k) = ap suc (length-zeros k)

-- a text at the start of zeros
pub filled_as : (t : List ℕ) → splice (zeros 24) 0 t ≡ filled t
unfolding splice
filled_as t =
    let e : 0 + length t ≡ length t = omega arith in
    rw e (ap (λ (l : List ℕ). t ++ l) (drop-zeros (length t) 24))

-- two texts, one behind the other
pub both-put : (a b : List ℕ) → length a + length b ≤ 24 → put_at (put_at (zeros 24) 0 a) (length a) b ≡ filled (a ++ b)
both-put a b h =
    let z : length (zeros 24) ≡ 24 = length-zeros 24 in
    let e : length a ≡ 0 + length a = omega arith in
    let l : length (splice (zeros 24) 0 a) ≡ 24 = length-splice (zeros 24) 0 a (omega arith) ∙ z in
    rw (put_fits (zeros 24) 0 a (omega arith))
    (put_fits (splice (zeros 24) 0 a) (length a) b (omega arith)
    ∙ ap (λ (n : ℕ). splice (splice (zeros 24) 0 a) n b) e
    ∙ splice-more (zeros 24) 0 a b (omega arith)
    ∙ filled_as (a ++ b))
