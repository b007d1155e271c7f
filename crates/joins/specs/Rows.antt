-- A channel's row in a tracker's arrays: what the walk over it asks for, and what it reads.
use Rattle.std.specs.Prelude.{ℕ, ◌+◌, ◌*◌, ◌≤◌, List, get_or}
use Rattle.gaps.specs.declared.Run.{Run}
use Rattle.gaps.specs.Gaps.{fill}
use Rattle.gaps.specs.Limits.{run_limit}
use Rattle.seats.specs.declared.Fields.{Fields}
use Rattle.seats.specs.Places.{place_count, span}
use Rattle.joins.specs.declared.walk.Row.{Row}

-- its places are there, and its runs have room in them
abbrev pub RowThere : Row → Type 0
RowThere r = (r.begin + run_limit ≤ place_count) × (r.count ≤ run_limit)

-- its runs, and the numbers behind the highest up to m
abbrev pub reached : Row → ℕ → List Run
reached r m = fill (span r.first.now r.last.now r.begin r.count) r.highest m

-- that of the channel at place i
abbrev pub row_in : Fields → ℕ → Row
row_in f i =
    record { first = f.first; last = f.last; begin = i * run_limit; count = get_or f.counts.now i 0; highest = get_or f.highest.now i 0 }
