use Rattle.std.proofs.Common.{arith}
use Rattle.frame.specs.Framing.{header_width, body_limit}
use Rattle.frame.proofs.Framing.{told}
use Rattle.show.proofs.ShowingProgram.step.Goals as goal

pub returns-in_ok-frame-in-Ok : goal.returns-in_ok-frame-in-Ok
returns-in_ok-frame-in-Ok c =
    let a = told header_width body_limit _ _ _ c.read.ensures c.in-Ok.is in
    (omega arith, omega arith)
