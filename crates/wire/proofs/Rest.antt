-- The bytes from an offset on, and as many as a number wants: with zeros before them where they are fewer.
-- Assumes nothing.
use Rattle.std.proofs.Common.{◌≡◌, ℕ, zero, suc, ◌+◌, ◌-◌, ◌<◌, ◌≤◌, ◌⊎◌, inl, inr, List, [], ◌++◌, length, take, drop, refl, sym, ◌∙◌, Bor, arith}
use Rattle.std.proofs.Common.{Some, None}
use Rattle.std.proofs.lemmas.List.{drop_all, take_rest, append-nil, length-replicate}
use Rattle.std.specs.Prelude.{Option, MatchOption, replicate}
use Rattle.std.specs.Option.{unwrap_or}
use Rattle.std.specs.List.{slice_range}
use Rattle.wire.specs.Bytes.{be, splice}
use Rattle.wire.proofs.Be.{be_from-append}

-- the bytes from an offset on, or none
pub rest_of :
    (s : List ℕ) (at : ℕ) (o : Option (Bor (List ℕ))) (e : Bor (List ℕ)) → e.now ≡ [] →
    MatchOption o ((length s < at) ⊎ (length s < length s)) (λ x. (at ≤ length s) × (length s ≤ length s) × (x.now ≡ slice_range s at (length s)) × (length x.now + at ≡ length s)) →
    (unwrap_or o e).now ≡ drop at s
rest_of s at None e n (inl l) = n ∙ sym (drop_all at s (omega arith))
rest_of s at None e n (inr l) = absurd (omega arith)
rest_of s at (Some x) e n h = h.2 ∙ take_rest s at

zeros : (a n : ℕ) → be (take a (replicate n 0)) ≡ 0
zeros zero n = refl
zeros (suc a) zero = refl
zeros (suc a) (suc n) = zeros a n

-- zeros before the bytes of a number don't change it
pub padded : (n : ℕ) (r : List ℕ) → length r ≤ n → be (splice (replicate n 0) (n - length r) r) ≡ be r
unfolding splice
padded n r h =
    be_from-append 0 (take (n - length r) (replicate n 0)) (r ++ drop (n - length r + length r) (replicate n 0))
    ∙ rw (zeros (n - length r) n, drop_all {X = ℕ} (n - length r + length r) (replicate n 0) (rw length-replicate (omega arith)), append-nil)
