-- Numbers moved by one place are a part copied within the list.
-- Assumes nothing.
use Prim.Native.Nat.{ℕ, zero, suc, ◌+◌, ◌-◌, ◌<◌, ◌≤◌}
use native.Mathlib.Omega.{arith}
use native.Mathlib.Numerals.{add-one}
use mathlib.Core.Path.{◌≡◌, ap, sym, ◌∙◌}
use mathlib.Core.List.{List, ◌∷◌, ◌++◌, append_assoc}
use lib.ListN.{length, take, drop, get_or, set, length-append, length-drop, length-set}
use lib.Seq.{set_at, take-suc, take-suc-set, drop-cons, drop-set-lt, length-take-le}
use Rattle.std.proofs.Common.{take-append-drop}
use Rattle.std.specs.List.{copy_within}
use Rattle.rows.specs.Shift.{closing, opening}

-- one number laid in its place
laid : (f : List ℕ) (p v : ℕ) → p < length f → set f p v ≡ take p f ++ (v ∷ drop (suc p) f)
laid f p v h =
    let e : f ≡ take p f ++ (get_or f p 0 ∷ drop (suc p) f) = sym (take-append-drop p f) ∙ ap (λ (t : List ℕ). take p f ++ t) (drop-cons f p 0 h) in
    ap (λ (t : List ℕ). set t p v) e ∙ set_at (take p f) (get_or f p 0) (drop (suc p) f) v p (length-take-le p f (omega arith))

-- ---- down

closing_parts : (f : List ℕ) (p n : ℕ) → p + n < length f → closing f p n ≡ take p f ++ (take n (drop (suc p) f) ++ (0 ∷ drop (suc (p + n)) f))
unfolding closing
closing_parts f p zero h = let e : p + 0 ≡ p = omega arith in rw e (laid f p 0 (omega arith))
closing_parts f p (suc n) h =
    let x = get_or f (suc p) 0 in
    let m : suc p < length f = omega arith in
    let i : p < length f = omega arith in
    let e : p + suc n ≡ suc p + n = omega arith in
    closing_parts (set f p x) (suc p) n (omega (arith, length-set f p x))
    ∙ rw (take-suc-set f p x i, drop-set-lt (suc (suc p)) f p x (omega arith), drop-set-lt (suc (suc p + n)) f p x (omega arith), append_assoc, drop-cons f (suc p) 0 m, e)

pub closing_copied : (f : List ℕ) (p q : ℕ) → p ≤ q → q < length f → set (copy_within f (p + 1) (q + 1) p) q 0 ≡ closing f p (q - p)
closing_copied f p q h g =
    let n = q - p in
    let a = take p f in
    let b = take n (drop (suc p) f) in
    let e : q + 1 - (p + 1) ≡ n = omega arith in
    let d : p + n ≡ q = omega arith in
    let m : n ≤ length (drop (suc p) f) = omega (arith, length-drop (suc p) f) in
    let l : length (a ++ b) ≡ q = length-append a b ∙ rw (length-take-le p f (omega arith), length-take-le n (drop (suc p) f) m) d in
    rw (e, d, add-one p, drop-cons f q 0 g, set_at (a ++ b) (get_or f q 0) (drop (suc q) f) 0 q l, append_assoc)
    (sym (closing_parts f p n (omega arith) ∙ rw d))

-- ---- up

opening_parts : (f : List ℕ) (p v n : ℕ) → p + n < length f → opening f p v n ≡ take p f ++ (v ∷ (take n (drop p f) ++ drop (suc (p + n)) f))
unfolding opening
opening_parts f p v zero h = let e : p + 0 ≡ p = omega arith in rw e (laid f p v (omega arith))
opening_parts f p v (suc n) h =
    let i : p < length f = omega arith in
    let e : p + suc n ≡ suc p + n = omega arith in
    opening_parts (set f p v) (suc p) (get_or f p 0) n (omega (arith, length-set f p v))
    ∙ rw (take-suc-set f p v i, drop-set-lt (suc p) f p v (omega arith), drop-set-lt (suc (suc p + n)) f p v (omega arith), append_assoc, drop-cons f p 0 i, e)

pub opening_copied : (f : List ℕ) (p q v : ℕ) → p ≤ q → q < length f → set (copy_within f p q (p + 1)) p v ≡ opening f p v (q - p)
opening_copied f p q v h g =
    let n = q - p in
    let d : p + n ≡ q = omega arith in
    let e : p + 1 + n ≡ suc (p + n) = omega arith in
    let i : p < length f = omega arith in
    rw (e, add-one p, take-suc f p 0 i, append_assoc, append_assoc)
    (set_at (take p f) (get_or f p 0) (take n (drop p f) ++ drop (suc (p + n)) f) v p (length-take-le p f (omega arith))
    ∙ sym (opening_parts f p v n (omega arith)))
