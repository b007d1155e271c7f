use Prim.Native.Nat.{◌≤◌, ◌<◌, ◌+◌, ◌*◌, ◌-◌}
use mathlib.Core.Path.{◌≡◌}
use Rattle.seats.specs.Places.{span}
use Rattle.rows.specs.Held.{sought}
use Rattle.rows.proofs.search.Given as goal

abbrev pub invariant-loop-j : goal.invariant-loop-j
invariant-loop-j l = (l.j ≤ l.count) × (l.count ≤ 32) × (l.at < 8) × (l.b ≡ l.at * 32) × (sought (l.at * 32) (span l.first l.last (l.at * 32) l.count) l.n ≡ sought (l.b + l.j) (span l.first l.last (l.b + l.j) (l.count - l.j)) l.n)
