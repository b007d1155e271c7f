use Rattle.std.proofs.Common.{arith}
use Rattle.cuts.proofs.Taken.{taken}
use Rattle.cuts.proofs.list_in_cuts.Goals as goal

pub overflow_add-from : goal.overflow_add-from
overflow_add-from c =
    let e = c.cut_end-to.ensures in
    let t = taken _ _ _ _ _ _ _ c.push-pushed.result e.0 e.1 c.push-pushed.ensures.result_value in
    omega arith

pub loop-from-preserved : goal.loop-from-preserved
loop-from-preserved c =
    let e = c.cut_end-to.ensures in
    let t = taken _ _ _ _ _ _ _ c.push-pushed.result e.0 e.1 c.push-pushed.ensures.result_value in
    omega arith
