use Rattle.std.proofs.Common.{arith}
use Rattle.wire.proofs.Be.{total-more}
use Rattle.wire.proofs.sum.checksum.Goals as goal

pub loop-b-preserved : goal.loop-b-preserved
loop-b-preserved c = omega (arith, total-more c.args.s.now c.loop-b.b-index (omega arith))
