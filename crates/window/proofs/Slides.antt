-- Bytes that move to the front, one by one; what is kept of the gathered bytes and what is written; and where what is read stands.
-- Assumes nothing.
use Prim.Native.Nat.{ℕ, ◌+◌, ◌-◌, ◌≤◌, ◌<◌}
use mathlib.Core.Path.{◌≡◌, refl, ap, ◌∙◌}
use mathlib.Core.List.{List, [], ◌++◌}
use native.Mathlib.Omega.{arith}
use borrow.Author.Tests.{le-leb, lt-leb, leb-true}
use mathlib.Core.Bool.{Bool, true, false, cond, ◌&&◌}
use lib.Dec.{leb}
use lib.ListN.{length, take, drop, length-append, length-drop}
use lib.Seq.{length-take-le, drop_at}
use Rattle.std.proofs.Common.{Option, None, Some, Result, Ok, Err, OnErr, sym, append-nil, zero-add, subst, append_assoc, take-take, take-append-drop, take-add}
use Rattle.std.proofs.lemmas.List.{drop-take, take-append-le}
use lib.Seq.{take-append_seam}
use Rattle.std.specs.List.{copy_within}
use Rattle.std.specs.Io.KnownBytes.{Appends, Consumes}
use Rattle.window.specs.Window.{slid, moved, still_held, written, LeftOf}

-- the bytes from an offset up to another, written over the front
pub pasted : (s : List ℕ) (from to : ℕ) → to ≤ length s → from ≤ to → (copy_within s from to 0 ≡ slid s from to) × (to - from ≡ moved s from to)
unfolding slid moved
pasted s from to h k = (rw (zero-add (to - from), le-leb to (length s) h, le-leb from to k), rw (le-leb to (length s) h, le-leb from to k))

pub slid_beyond : (s : List ℕ) (from to : ℕ) → length s < to → (s ≡ slid s from to) × (0 ≡ moved s from to)
unfolding slid moved
slid_beyond s from to h = (rw (lt-leb to (length s) h), rw (lt-leb to (length s) h))

pub slid-none : (s : List ℕ) (from to : ℕ) → to ≤ length s → to < from → (s ≡ slid s from to) × (0 ≡ moved s from to)
unfolding slid moved
slid-none s from to h k = (rw (le-leb to (length s) h, lt-leb from to k), rw (le-leb to (length s) h, lt-leb from to k))

moved_by : (s : List ℕ) (from to : ℕ) (t u : Bool) → leb to (length s) ≡ t → leb from to ≡ u → cond (t && u) (to - from) 0 ≤ length s
moved_by s from to true true e f = let h : to ≤ length s = leb-true to (length s) e in omega arith
moved_by s from to true false e f = omega arith
moved_by s from to false u e f = omega arith

-- no more bytes move than there are
pub moved-within : (s : List ℕ) (from to : ℕ) → moved s from to ≤ length s
unfolding moved
moved-within s from to = moved_by s from to (leb to (length s)) (leb from to) refl refl

pub kept_all : (s : List ℕ) (gathered room : ℕ) → gathered + room ≤ length s → gathered ≡ still_held s gathered room
unfolding still_held
kept_all s gathered room h = rw (le-leb (gathered + room) (length s) h)

pub kept_none : (s : List ℕ) (gathered room : ℕ) → length s < gathered + room → 0 ≡ still_held s gathered room
unfolding still_held
kept_none s gathered room h = rw (lt-leb (gathered + room) (length s) h)

-- none are written where there is room behind them, or where there are not so many
pub none-to-write : (s : List ℕ) (gathered room : ℕ) → gathered + room ≤ length s → written s gathered room ≡ []
unfolding written
none-to-write s gathered room h = rw (le-leb (gathered + room) (length s) h)

pub none-there : (s : List ℕ) (gathered room : ℕ) → length s < gathered → written s gathered room ≡ []
unfolding written
none-there s gathered room h =
    let k : length s < gathered + room = omega arith in
    rw (lt-leb (gathered + room) (length s) k, lt-leb gathered (length s) h)

pub all-written : (s : List ℕ) (gathered room : ℕ) → gathered ≤ length s → length s < gathered + room → written s gathered room ≡ take gathered s
unfolding written
all-written s gathered room h k = rw (lt-leb (gathered + room) (length s) k, le-leb gathered (length s) h)

-- what was read into the part behind a front stands there
pub read-there :
    (front part rest : List ℕ) (at n : ℕ) → length front ≡ at → n ≤ length part →
    drop at (take (at + n) (front ++ (part ++ rest))) ≡ take n part
read-there front part rest at n long fits =
    drop-take at n (front ++ (part ++ rest))
    ∙ ap (take n) (drop_at front (part ++ rest) at long)
    ∙ take-append-le n part rest fits

-- nothing is appended where nothing is written
pub appends-none : (known : Option (List ℕ)) → Appends known known []
appends-none None = tt
appends-none (Some xs) = sym (append-nil xs)

pub on-error : {T E : Type 0} (r : Result T E) (P : Type 0) → P → OnErr r P
on-error (Ok x) P h = tt
on-error (Err e) P h = h

consumes-both : (a b c : Option (List ℕ)) (xs ys : List ℕ) → Consumes a b xs → Consumes b c ys → Consumes a c (xs ++ ys)
consumes-both None b c xs ys h k = tt
consumes-both (Some x) None c xs ys h k = absurd h
consumes-both (Some x) (Some y) None xs ys h k = absurd k
consumes-both (Some x) (Some y) (Some z) xs ys h k = h ∙ ap (λ (t : List ℕ). xs ++ t) k ∙ sym (append_assoc xs ys z)

consumes-none : (a : Option (List ℕ)) → Consumes a a []
consumes-none None = tt
consumes-none (Some x) = refl

-- at first nothing was read, and nothing is left
pub left-first : (a : Option (List ℕ)) (s : List ℕ) → LeftOf a a 0 s
left-first a s = (omega arith, ([], consumes-none a))

-- what a read brought is left too
pub left-filled :
    (a b c : Option (List ℕ)) (held n : ℕ) (s t : List ℕ) →
    LeftOf a b held s → held ≤ n → n ≤ length t → take held t ≡ take held s → Consumes b c (drop held (take n t)) → LeftOf a c n t
left-filled a b c held n s t (h, (before, k)) m l e r =
    let g : take held s ++ drop held (take n t) ≡ take n t =
    ap (λ (x : List ℕ). x ++ drop held (take n t)) (sym e ∙ sym (take-take held n t m)) ∙ take-append-drop held (take n t)
    in (
      l,
      (
        before,
        subst
            (Consumes a c)
            (append_assoc before (take held s) (drop held (take n t)) ∙ ap (λ (x : List ℕ). before ++ x) g)
            (consumes-both a b c (before ++ take held s) (drop held (take n t)) k r),
      ),
    )

-- and less what was taken of it
pub left-slid :
    (a b : Option (List ℕ)) (from n : ℕ) (s : List ℕ) →
    LeftOf a b n s → from ≤ n → LeftOf a b (moved s from n) (slid s from n)
unfolding slid moved
left-slid a b from n s (h, (before, k)) m =
    let part : List ℕ = take (n - from) (drop from s) in
    let long : length part ≡ n - from = length-take-le (n - from) (drop from s) (omega (arith, length-drop from s)) in
    let there : take (n - from) (part ++ drop (n - from) s) ≡ part = ap (λ (i : ℕ). take i (part ++ drop (n - from) s)) (sym long) ∙ take-append_seam part (drop (n - from) s) in
    let back : from + (n - from) ≡ n = omega arith in
    let whole : take n s ≡ take from s ++ part = ap (λ (i : ℕ). take i s) (sym back) ∙ take-add from (n - from) s in
    let fits : n - from ≤ length (part ++ drop (n - from) s) = omega (arith, long, length-append part (drop (n - from) s)) in
    let kept : Consumes a b ((before ++ take from s) ++ take (n - from) (part ++ drop (n - from) s)) =
    subst (Consumes a b) (ap (λ (x : List ℕ). before ++ x) whole ∙ sym (append_assoc before (take from s) part) ∙ ap (λ (x : List ℕ). (before ++ take from s) ++ x) (sym there)) k
    in
    rw (le-leb n (length s) h, le-leb from n m) (fits, (before ++ take from s, kept))

-- of a turn: a read, steps, a slide
pub left-turn :
    (a b c : Option (List ℕ)) (held n from m : ℕ) (s t u : List ℕ) →
    LeftOf a b held s → take held t ≡ take held s → (u ≡ slid t from n) × (m ≡ moved t from n) →
    held ≤ n → n ≤ length t → from ≤ n → Consumes b c (drop held (take n t)) → LeftOf a c m u
left-turn a b c held n from m s t u h stay (e, f) fits there took r =
    rw (e, f) (left-slid a c from n t (left-filled a b c held n s t h fits there stay r) took)
