use Prim.Native.Nat.{◌-◌, ◌≤◌}
use mathlib.Core.Path.{◌≡◌}
use lib.ListN.{length, drop}
use Rattle.frame.specs.Framing.{header_width, body_limit}
use Rattle.frame.specs.Walk.{walk, walk_count}
use Rattle.frame.proofs.Frames.{ahead}
use Rattle.frame.proofs.walking.walk.Given as goal

-- `frame::walking::walk` meets its contract: what is told of all bytes is what is told of those that are left, behind the bytes and frames passed.
-- Assumes nothing.
abbrev pub invariant-loop-at : goal.invariant-loop-at
invariant-loop-at l = (l.at ≤ length l.s)
    × (l.frames ≤ l.at)
    × (ahead l.at l.frames (walk_count (walk header_width body_limit (drop l.at l.s))) ≡ walk_count (walk header_width body_limit l.s))

abbrev pub decreases-loop-at : goal.decreases-loop-at
decreases-loop-at l = length l.s - l.at
