use Rattle.std.proofs.Common.{◌∙◌}
use Rattle.frame.specs.Framing.{header_width, body_limit}
use Rattle.streams.proofs.Pushes.{keep_all}
use Rattle.streams.proofs.cut.keep_all.Goals as goal

pub keep-requires : goal.keep-requires
keep-requires c = (keep_all header_width body_limit c.args.buffer.now c.args.held c.args.cut.now c.requires).0

pub returns : goal.returns
returns c =
    let k = keep_all header_width body_limit c.args.buffer.now c.args.held c.args.cut.now c.requires in
    record { result_value = c.more.ensures ∙ k.1; buffer_after = c.keep.ensures ∙ k.2 }
