-- Numbers in consecutive places: read, padded and laid back.
use Prim.Native.Nat.{ℕ, zero, suc, ◌+◌, ◌-◌, ◌≤◌, ◌<◌}
use native.Mathlib.Omega.{arith}
use native.Mathlib.Numerals.{add-one}
use mathlib.Core.Path.{◌≡◌, refl, ap, sym, ◌∙◌}
use mathlib.Core.List.{List, [], ◌∷◌, ◌++◌, append_assoc}
use mathlib.Core.Bool.{true}
use lib.Dec.{eqb}
use lib.ListN.{length, take, get_or, set, replicate, length-append, length-set}
use lib.Seq.{sets, set-get_or, set_at, set-append_left, get_or-set_other}
use borrow.Author.Tests.{eqb-true}
use Rattle.gaps.specs.declared.Run.{Run}
use Rattle.gaps.specs.Gaps.{run}
use Rattle.gaps.specs.Built.{firsts, lasts, padded}
use Rattle.gaps.proofs.Numbers.{and_split}
use Rattle.seats.specs.Places.{span}
use Rattle.seats.specs.Rules.{all_zero}

-- the n numbers from place b on
abbrev pub cells : List ℕ → ℕ → ℕ → List ℕ
cells f b zero = []
cells f b (suc n) = get_or f b 0 ∷ cells f (suc b) n

pub cells_length : (f : List ℕ) (b n : ℕ) → length (cells f b n) ≡ n
cells_length f b zero = refl
cells_length f b (suc n) = ap suc (cells_length f (suc b) n)

pub cells_add : (f : List ℕ) (b n m : ℕ) → cells f b (n + m) ≡ cells f b n ++ cells f (b + n) m
cells_add f b zero m = let e : b + 0 ≡ b = omega arith in let d : 0 + m ≡ m = omega arith in rw (e, d)
cells_add f b (suc n) m =
    let e : b + suc n ≡ suc b + n = omega arith in
    let d : suc n + m ≡ suc (n + m) = omega arith in
    rw (e, d, cells_add f (suc b) n m)

-- ---- laid back

pub sets_same : (f : List ℕ) (b n : ℕ) → sets f b (cells f b n) ≡ f
sets_same f b zero = refl
sets_same f b (suc n) = ap (λ (x : List ℕ). sets x (suc b) (cells f (suc b) n)) (set-get_or f b 0) ∙ sets_same f (suc b) n

pub cells_before : (f : List ℕ) (a v b n : ℕ) → a < b → cells (set f a v) b n ≡ cells f b n
cells_before f a v b zero h = refl
cells_before f a v b (suc n) h = rw (get_or-set_other f a b v 0 (λ e. omega (arith, e)), cells_before f a v (suc b) n (omega arith))

pub sets_set : (f : List ℕ) (b n j v : ℕ) → j < n → sets f b (set (cells f b n) j v) ≡ set f (b + j) v
sets_set f b zero j v h = absurd (omega arith)
sets_set f b (suc n) zero v h =
    let e : b + 0 ≡ b = omega arith in
    rw e (ap (sets (set f b v) (suc b)) (sym (cells_before f b v (suc b) n (omega arith))) ∙ sets_same (set f b v) (suc b) n)
sets_set f b (suc n) (suc j) v h =
    let e : b + suc j ≡ suc b + j = omega arith in
    rw e (ap (λ (x : List ℕ). sets x (suc b) (set (cells f (suc b) n) j v)) (set-get_or f b 0) ∙ sets_set f (suc b) n j v (omega arith))

-- ---- padded

-- zero behind the first n, so that they are the row
pub pad_row : (f : List ℕ) (b n k : ℕ) → n ≤ k → cells f (b + n) (k - n) ≡ replicate (k - n) 0 → padded k (cells f b n) ≡ cells f b k
pad_row f b n k h z =
    let e : n + (k - n) ≡ k = omega arith in
    rw (cells_length f b n, ← z) (sym (cells_add f b n (k - n)) ∙ ap (cells f b) e)

-- the first j, and then another number at place j
pub pad_push : (f : List ℕ) (b j k v : ℕ) → j < k → cells f (b + (j + 1)) (k - (j + 1)) ≡ replicate (k - (j + 1)) 0 →
    padded k (cells f b j ++ (v ∷ [])) ≡ set (cells f b k) j v
pad_push f b j k v h z =
    let d : k ≡ j + suc (k - (j + 1)) = omega arith in
    let e : b + (j + 1) ≡ suc (b + j) = omega arith in
    let w : cells f b k ≡ cells f b j ++ (get_or f (b + j) 0 ∷ cells f (b + (j + 1)) (k - (j + 1))) =
    ap (cells f b) d ∙ cells_add f b j (suc (k - (j + 1))) ∙ rw e in
    rw (length-append (cells f b j) (v ∷ []), cells_length f b j, ← z, w, append_assoc)
    (sym (set_at (cells f b j) (get_or f (b + j) 0) (cells f (b + (j + 1)) (k - (j + 1))) v j (cells_length f b j)))

-- another number at a place j below n
pub pad_set : (f : List ℕ) (b n k j v : ℕ) → n ≤ k → j < n → cells f (b + n) (k - n) ≡ replicate (k - n) 0 →
    padded k (set (cells f b n) j v) ≡ set (cells f b k) j v
pad_set f b n k j v h m z =
    rw (← pad_row f b n k h z, set-append_left (cells f b n) (replicate (k - length (cells f b n)) 0) j v (rw (cells_length f b n) m), length-set (cells f b n) j v)

-- ---- runs in two lists of places

pub span-firsts : (f l : List ℕ) (b n : ℕ) → firsts (span f l b n) ≡ cells f b n
unfolding span
span-firsts f l b zero = refl
span-firsts f l b (suc n) = rw (span-firsts f l (suc b) n)

pub span-lasts : (f l : List ℕ) (b n : ℕ) → lasts (span f l b n) ≡ cells l b n
unfolding span
span-lasts f l b zero = refl
span-lasts f l b (suc n) = rw (span-lasts f l (suc b) n)

pub span-length : (f l : List ℕ) (b n : ℕ) → length (span f l b n) ≡ n
unfolding span
span-length f l b zero = refl
span-length f l b (suc n) = ap suc (span-length f l (suc b) n)

pub span-take : (f l : List ℕ) (b n m : ℕ) → n ≤ m → take n (span f l b m) ≡ span f l b n
unfolding span
span-take f l b zero m h = refl
span-take f l b (suc n) zero h = absurd (omega arith)
span-take f l b (suc n) (suc m) h = rw (span-take f l (suc b) n m (omega arith))

pub span-at : (f l : List ℕ) (b m j : ℕ) → j < m → get_or (span f l b m) j (run 0 0) ≡ run (get_or f (b + j) 0) (get_or l (b + j) 0)
unfolding span
span-at f l b zero j h = absurd (omega arith)
span-at f l b (suc m) zero h = let e : b + 0 ≡ b = omega arith in rw e
span-at f l b (suc m) (suc j) h = let e : b + suc j ≡ suc b + j = omega arith in rw e (span-at f l (suc b) m j (omega arith))

pub span_last : (f l : List ℕ) (b i : ℕ) → span f l b (i + 1) ≡ span f l b i ++ (run (get_or f (b + i) 0) (get_or l (b + i) 0) ∷ [])
unfolding span
span_last f l b i = rw add-one (go b i)
  where
    go : (b i : ℕ) → span f l b (suc i) ≡ span f l b i ++ (run (get_or f (b + i) 0) (get_or l (b + i) 0) ∷ [])
    go b zero = let e : b + 0 ≡ b = omega arith in rw e
    go b (suc i) = let e : b + suc i ≡ suc b + i = omega arith in rw e (ap (λ (t : List Run). run (get_or f b 0) (get_or l b 0) ∷ t) (go (suc b) i))

pub zero_places : (f l : List ℕ) (b n : ℕ) → all_zero (span f l b n) ≡ true → (cells f b n ≡ replicate n 0) × (cells l b n ≡ replicate n 0)
unfolding span all_zero
zero_places f l b zero e = (refl, refl)
zero_places f l b (suc n) e =
    let p = and_split (eqb (get_or f b 0) 0) _ e in
    let q = and_split (eqb (get_or l b 0) 0) _ p.1 in
    let r = zero_places f l (suc b) n q.1 in
    let x = eqb-true (get_or f b 0) 0 p.0 in
    let y = eqb-true (get_or l b 0) 0 q.0 in
    (rw (x, r.0), rw (y, r.1))
