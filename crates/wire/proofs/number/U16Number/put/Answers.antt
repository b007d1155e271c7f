use Rattle.std.proofs.Common.{◌∙◌}
use Rattle.wire.proofs.Digits.{high_first}
use Rattle.wire.proofs.number.U16Number.put.Goals as goal

pub returns : goal.returns
returns c = c.copy.ensures ∙ rw (c.to_be_bytes.ensures, high_first)
