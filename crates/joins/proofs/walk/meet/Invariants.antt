use Prim.Native.Nat.{◌+◌, ◌-◌}
use Rattle.gaps.specs.Gaps.{larger}
use Rattle.joins.specs.Meet.{met_in, run_at, laid_all}
use Rattle.joins.specs.Rows.{reached}
use Rattle.joins.proofs.Steps.{Standing}
use Rattle.joins.proofs.walk.meet.Given as goal

abbrev pub invariant-loop-i : goal.invariant-loop-i
invariant-loop-i g l = Standing (reached l.mine l.top) (reached l.other l.top) l.n l.m
    (run_at l.mine.first.now l.mine.last.now l.mine.begin l.x l.top) (run_at l.other.first.now l.other.last.now l.other.begin l.y l.top) l.i l.j (g.S.Sink.holds l.out)
    (laid_all (g.S.Sink.holds l.initial.out) (met_in (reached l.mine (larger l.mine.highest l.other.highest)) (reached l.other (larger l.mine.highest l.other.highest)))) l.r l.s

abbrev pub decreases-loop-i : goal.decreases-loop-i
decreases-loop-i g l = l.n - l.i + (l.m - l.j)
