-- How many runs two records have, joined: no more than both have, and one behind the highest of each.
use Prim.Native.Nat.{ℕ, zero, suc, ◌+◌, ◌*◌, ◌≤◌}
use native.Mathlib.Omega.{arith}
use mathlib.Core.List.{List, [], ◌∷◌, ◌++◌}
use mathlib.Core.Bool.{Bool, true, false, cond}
use lib.Dec.{leb, eqb}
use lib.ListN.{length, get_or, length-append}
use Rattle.gaps.specs.declared.Run.{Run}
use Rattle.gaps.specs.Gaps.{run, larger, grow, fill}
use Rattle.seats.specs.Places.{span}
use Rattle.seats.proofs.Cells.{span-length}
use Rattle.seats.specs.Arrays.{Arrays}
use Rattle.joins.specs.Meet.{smaller, shared, meet, met_in, met_runs}

shared-few : (r s : Run) → length (shared r s) ≤ 1
unfolding shared
shared-few r s = go (leb (larger r.first s.first) (smaller r.last s.last))
  where
    x : Run
    x = run (larger r.first s.first) (smaller r.last s.last)

    go : (b : Bool) → length (cond b (x ∷ []) []) ≤ 1
    go true = omega arith
    go false = omega arith

meet-few : (n : ℕ) (l k : List Run) → length (meet n l k) ≤ n
unfolding meet
meet-few zero l k = omega arith
meet-few (suc n) [] k = omega arith
meet-few (suc n) (r ∷ l) [] = omega arith
meet-few (suc n) (r ∷ l) (s ∷ k) = go (leb r.last s.last) (meet-few n l (s ∷ k)) (meet-few n (r ∷ l) k)
  where
    go : (b : Bool) → length (meet n l (s ∷ k)) ≤ n → length (meet n (r ∷ l) k) ≤ n → length (shared r s ++ cond b (meet n l (s ∷ k)) (meet n (r ∷ l) k)) ≤ suc n
    go true p q = omega (arith, length-append (shared r s) (meet n l (s ∷ k)), shared-few r s)
    go false p q = omega (arith, length-append (shared r s) (meet n (r ∷ l) k), shared-few r s)

grow-few : (l : List Run) (h m : ℕ) → length (grow l h m) ≤ length l + 1
unfolding grow
grow-few [] h m = omega arith
grow-few (r ∷ []) h m = go (eqb r.last h)
  where
    go : (b : Bool) → length (cond b (run r.first m ∷ []) (r ∷ run (h + 1) m ∷ [])) ≤ 2
    go true = omega arith
    go false = omega arith
grow-few (r ∷ (s ∷ l)) h m = omega (arith, grow-few (s ∷ l) h m)

fill-few : (l : List Run) (h m : ℕ) → length (fill l h m) ≤ length l + 1
unfolding fill
fill-few l h m = go (leb m h)
  where
    go : (b : Bool) → length (cond b l (grow l h m)) ≤ length l + 1
    go true = omega arith
    go false = grow-few l h m

pub few-met : (a b : Arrays) (i : ℕ) → get_or a.counts i 0 + get_or b.counts i 0 + 2 ≤ 32 → length (met_runs a b i) ≤ 32
unfolding met_in
few-met a b i p =
    let top = larger (get_or a.highest i 0) (get_or b.highest i 0) in
    let x = fill (span a.first a.last (i * 32) (get_or a.counts i 0)) (get_or a.highest i 0) top in
    let y = fill (span b.first b.last (i * 32) (get_or b.counts i 0)) (get_or b.highest i 0) top in
    omega (
      arith,
      meet-few (length x + length y) x y,
      fill-few (span a.first a.last (i * 32) (get_or a.counts i 0)) (get_or a.highest i 0) top,
      fill-few (span b.first b.last (i * 32) (get_or b.counts i 0)) (get_or b.highest i 0) top,
      span-length a.first a.last (i * 32) (get_or a.counts i 0),
      span-length b.first b.last (i * 32) (get_or b.counts i 0),
    )
