use Rattle.joins.specs.Meet.{laid_one}
use mathlib.Core.Path.{refl}
use Prim.Native.Nat.{◌+◌}
use mathlib.Core.Bool.{Bool, true, false, cond}
use mathlib.Core.List.{[]}
use mathlib.Core.Path.{◌≡◌}
use Prim.Native.Nat.{ℕ}
use lib.Dec.{ltb}
use Rattle.joins.specs.Meet.{laid}
use Rattle.joins.proofs.walk.CountedSink.put.Goals as goal

-- no row has no places
none : (b : Bool) (k : ℕ) → laid k [] [] ≡ laid k (cond b [] []) (cond b [] [])
none true k = refl
none false k = refl

pub returns : goal.returns
unfolding laid_one
returns c = let s = c.args in none (ltb s.self.now.count 32) (s.self.now.count + 1)
