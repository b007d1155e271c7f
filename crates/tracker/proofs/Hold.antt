-- What the search of a row within the rules finds.
use Prim.Native.Nat.{ℕ, zero, suc, ◌+◌, ◌*◌, ◌≤◌, ◌<◌}
use native.Mathlib.Omega.{arith}
use mathlib.Core.Path.{◌≡◌, refl}
use mathlib.Core.Logic.{⊎_elim}
use mathlib.Core.List.{List, ◌∷◌}
use mathlib.Core.Bool.{Bool, true, false, cond, ◌&&◌, and-false, or-true}
use lib.Dec.{leb}
use lib.ListN.{get_or}
use borrow.Author.Tests.{le-leb, lt-leb, lt-ltb, leb-true, leb-false}
use Rattle.gaps.specs.declared.Run.{Run}
use Rattle.gaps.specs.Gaps.{run, has, canon}
use Rattle.gaps.proofs.Numbers.{lt_or_le}
use Rattle.gaps.proofs.Sets.{canon_yes, yes_canon, low, has_in}
use Rattle.seats.specs.Places.{span}
use Rattle.std.specs.Prelude.{Option}
use Rattle.rows.specs.declared.Held.{Held}
use Rattle.rows.specs.Held.{left_at, sought, search}
use Rattle.rows.proofs.Row.{yes_there}
use Rattle.rows.proofs.Found.{held_row}
use Rattle.tracker.proofs.Told.{Finds, finds_no, finds_run}

-- a number below every run is in none
has-below : (lo h : ℕ) (l : List Run) (n : ℕ) → canon lo h l ≡ true → n < lo → has l n ≡ false
has-below lo h l n c p = go (has l n) refl
  where
    go : (b : Bool) → has l n ≡ b → has l n ≡ false
    go true e = absurd (omega (arith, low lo h l n (canon_yes lo h l c) (has_in l n e)))
    go false e = e

pub held_at : (f l : List ℕ) (b count j n : ℕ) → j < count → get_or f (b + j) 0 ≤ n → n ≤ get_or l (b + j) 0 → has (span f l b count) n ≡ true
unfolding has span
held_at f l b zero j n m p q = absurd (omega arith)
held_at f l b (suc count) zero n m p q =
    let e : b + 0 ≡ b = omega arith in
    rw (le-leb (get_or f b 0) n (rw e at p), le-leb n (get_or l b 0) (rw e at q))
held_at f l b (suc count) (suc j) n m p q =
    let e : b + suc j ≡ suc b + j = omega arith in
    rw (held_at f l (suc b) count j n (omega arith) (rw e at p) (rw e at q), or-true (leb (get_or f b 0) n && leb n (get_or l b 0)))

-- ---- what the search found

module _ (f l : List ℕ) (b count n : ℕ) where
  -- the first run ends below n
  later : (s : Option Held) → get_or l b 0 < n → Finds f l (suc b) count n s → Finds f l b (suc count) n s
  unfolding has span
  later s h (finds_no a) = finds_no (rw (lt-leb n (get_or l b 0) h, and-false (leb (get_or f b 0) n), a))
  later s h (finds_run j m p q) =
      let e : suc b + j ≡ b + suc j = omega arith in
      let y : Finds f l b (suc count) n (left_at (b + suc j) (run (get_or f (b + suc j) 0) (get_or l (b + suc j) 0)) n) = finds_run (suc j) (omega arith) (rw (← e) p) (rw (← e) q) in
      rw (← e) at y

  -- the first run does not
  module _ (lo h : ℕ) (o : canon lo h (span f l b (suc count)) ≡ true) (q : n ≤ get_or l b 0) where
    below : n < get_or f b 0 → has (span f l b (suc count)) n ≡ false
    unfolding span
    below p =
        let c = canon_yes lo h (run (get_or f b 0) (get_or l b 0) ∷ span f l (suc b) count) o in
        has-below (get_or f b 0) h (run (get_or f b 0) (get_or l b 0) ∷ span f l (suc b) count) n (yes_canon (get_or f b 0) h (run (get_or f b 0) (get_or l b 0) ∷ span f l (suc b) count) (omega arith, c.1, c.2, c.3)) p

    here-none : n < get_or f b 0 → Finds f l b (suc count) n (left_at b (run (get_or f b 0) (get_or l b 0)) n)
    unfolding left_at
    here-none p = rw (lt-ltb n (get_or f b 0) p) (finds_no (below p))

    here-run : get_or f b 0 ≤ n → Finds f l b (suc count) n (left_at b (run (get_or f b 0) (get_or l b 0)) n)
    here-run p =
        let e : b + 0 ≡ b = omega arith in
        let y : Finds f l b (suc count) n (left_at (b + 0) (run (get_or f (b + 0) 0) (get_or l (b + 0) 0)) n) = finds_run 0 (omega arith) (rw e p) (rw e q) in
        rw e at y

    here : Finds f l b (suc count) n (left_at b (run (get_or f b 0) (get_or l b 0)) n)
    here = ⊎_elim here-none here-run (lt_or_le n (get_or f b 0))

finds_in : (f l : List ℕ) (lo h b count n : ℕ) → canon lo h (span f l b count) ≡ true → Finds f l b count n (sought b (span f l b count) n)
unfolding sought span has
finds_in f l lo h b zero n o = finds_no refl
finds_in f l lo h b (suc count) n o =
    let c = canon_yes lo h (run (get_or f b 0) (get_or l b 0) ∷ span f l (suc b) count) o in
    go (finds_in f l (get_or l b 0 + 2) h (suc b) count n (yes_canon (get_or l b 0 + 2) h (span f l (suc b) count) c.3)) (leb n (get_or l b 0)) refl
  where
    go : Finds f l (suc b) count n (sought (suc b) (span f l (suc b) count) n) → (x : Bool) → leb n (get_or l b 0) ≡ x →
        Finds f l b (suc count) n (cond x (left_at b (run (get_or f b 0) (get_or l b 0)) n) (sought (suc b) (span f l (suc b) count) n))
    go d true e = here f l b count n lo h o (leb-true n (get_or l b 0) e)
    go d false e = later f l b count n (sought (suc b) (span f l (suc b) count) n) (leb-false n (get_or l b 0) e) d

-- the search of a row within the rules
pub search_finds : (f l : List ℕ) (i count lo h n : ℕ) → i < 8 → count ≤ 32 → canon lo h (span f l (i * 32) count) ≡ true →
    (s : Option Held) → s ≡ search f l i count n → Finds f l (i * 32) count n s
search_finds f l i count lo h n p q o s e = rw (e, held_row f l i count n (yes_there i count p q)) (finds_in f l lo h (i * 32) count n o)
