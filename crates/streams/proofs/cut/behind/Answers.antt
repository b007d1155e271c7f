use Rattle.std.proofs.Common.{arith}
use lib.Dec.{lit≤}
use Rattle.frame.specs.Framing.{header_width, body_limit}
use Rattle.streams.specs.Steps.{Brought}
use Rattle.streams.proofs.Pushes.{few_lacking, lead_brought}
use Rattle.streams.proofs.cut.behind.Goals as goal

pub keep_all-requires : goal.keep_all-requires
keep_all-requires c =
    let a = c.args in
    few_lacking header_width body_limit a.buffer.now a.held a.cut.now (lit≤ tt) c.requires.0 c.requires.2 c.if-cut-lacks.true

pub lead-requires : goal.lead-requires
lead-requires c =
    let a = c.args in
    let b : Brought header_width body_limit a.buffer.now a.held a.lacks a.cut.now = record { holding = c.requires.0; some = c.requires.1; wants = c.requires.2; comes = c.if-cut-lacks.false } in
    (lead_brought header_width body_limit a.buffer.now a.held a.lacks a.cut.now (lit≤ tt) b c.if-held-ge-HEADER.false, omega arith)
