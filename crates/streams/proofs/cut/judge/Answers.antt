use Rattle.std.proofs.Common.{ap, sym, ◌∙◌}
use borrow.Author.Tests.{ne_eqb}
use Rattle.wire.specs.Refusal.{too_short}
use Rattle.frame.specs.Framing.{header_width, body_limit, frame_refusal, means_framed}
use Rattle.streams.proofs.States.{not-one}
use Rattle.streams.proofs.cut.judge.Goals as goal

pub returns-in-Err : goal.returns-in-Err
returns-in-Err c =
    let e = sym c.read.ensures ∙ ap means_framed c.in-Err.is in
    let z = not-one header_width body_limit c.args.bytes.now c.requires.enough e in
    c.stopped.ensures ∙ rw (e, ne_eqb (frame_refusal c.in-Err.why) too_short z)
