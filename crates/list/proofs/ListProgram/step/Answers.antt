use Rattle.std.proofs.Common.{arith}
use Rattle.frame.specs.Framing.{header_width, body_limit}
use Rattle.frame.proofs.Framing.{told}
use Rattle.list.proofs.ListProgram.step.Goals as goal

pub returns-in_ok-line-in-Ok : goal.returns-in_ok-line-in-Ok
returns-in_ok-line-in-Ok c =
    let t = told header_width body_limit c.args.bytes.now _ _ c.read.ensures c.in-Ok.is in
    (omega arith, omega arith)
