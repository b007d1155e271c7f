-- The numbers that a request asks for lie in the run that it was made for.
-- Assumes nothing.
use Prim.Native.Nat.{◌+◌, ◌-◌, ◌≤◌, ◌<◌}
use mathlib.Core.Path.{◌≡◌, refl}
use mathlib.Core.Bool.{Bool, true, false}
use native.Mathlib.Omega.{arith}
use borrow.Author.Tests.{ltb-true, ltb-false, lt-ltb, le-ltb}
use lib.Dec.{ltb}
use Rattle.gaps.specs.declared.Run.{Run}
use Rattle.gaps.specs.Gaps.{run}
use Rattle.tracker.specs.Request.{batch, asked}

module _ (r : Run) where
  pub asked_all : r.last < r.first + batch → asked r ≡ r
  unfolding asked
  asked_all h = rw (lt-ltb r.last (r.first + batch) h)

  pub asked-batch : r.first + batch ≤ r.last → asked r ≡ run r.first (r.first + batch - 1)
  unfolding asked
  asked-batch h = rw (le-ltb r.last (r.first + batch) h)

-- from the first number of the run on, not behind its last one, at most a batch of them
pub record Within (r s : Run) : Type 0 where
  pub low : s.first ≡ r.first
  pub high : s.last ≤ r.last
  pub few : s.last < s.first + batch

within_by : (r : Run) (b : Bool) → ltb r.last (r.first + batch) ≡ b → Within r (asked r)
within_by r true e =
    let h : r.last < r.first + batch = ltb-true _ _ e in
    rw (asked_all r h) (record { low = refl; high = omega arith; few = h })
within_by r false e =
    let h : r.first + batch ≤ r.last = ltb-false _ _ e in
    rw (asked-batch r h) (record { low = refl; high = omega arith; few = omega arith })

pub asked-within : (r : Run) → Within r (asked r)
asked-within r = within_by r (ltb r.last (r.first + batch)) refl
