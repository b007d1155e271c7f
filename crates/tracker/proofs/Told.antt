-- What the row's helpers tell of a channel's runs: which run holds a number, and where new missing numbers go.
-- Assumes nothing.
use Prim.Native.Nat.{ℕ, ◌+◌, ◌≤◌, ◌<◌}
use mathlib.Core.Path.{◌≡◌}
use mathlib.Core.List.{List, [], ◌∷◌, ◌++◌}
use mathlib.Core.Bool.{false}
use Rattle.std.specs.Prelude.{Option, Some, None}
use lib.ListN.{length, take, get_or}
use Rattle.gaps.specs.Gaps.{run, has, grow}
use Rattle.gaps.specs.Limits.{run_limit}
use Rattle.rows.specs.declared.Gap.{Gap}
use Rattle.rows.specs.declared.Held.{Held}
use Rattle.rows.specs.Held.{left_at}
use Rattle.seats.specs.Places.{span}

-- no run holds n; or the run at place j does, and this is what is left of it
pub data Finds (f l : List ℕ) (b count n : ℕ) : Option Held → Type 0 where
  finds_no : has (span f l b count) n ≡ false → Finds f l b count n None
  finds_run : (j : ℕ) → j < count → get_or f (b + j) 0 ≤ n → n ≤ get_or l (b + j) 0 →
      Finds f l b count n (left_at (b + j) (run (get_or f (b + j) 0) (get_or l (b + j) 0)) n)

-- where the numbers behind the highest h go: a place of the row, and the first number of the run there
pub record Room (f l : List ℕ) (b held h : ℕ) (g : Gap) : Type 0 where
  pub within : g.at < run_limit
  pub low : g.at ≤ held
  pub high : held ≤ g.at + 1
  pub grown : (m : ℕ) → grow (span f l b held) h m ≡ take g.at (span f l b held) ++ (run g.first m ∷ [])

-- or there is none, and the runs would be too many
abbrev pub Grows : (f l : List ℕ) (b held h : ℕ) → Option Gap → Type 0
Grows f l b held h (Some g) = Room f l b held h g
Grows f l b held h None = (m : ℕ) → run_limit < length (grow (span f l b held) h m)
