use Rattle.std.proofs.Common.{◌∙◌, rules}
use Rattle.wire.proofs.Digits.{be_8}
use Rattle.wire.proofs.number.U64Number.at.Goals as goal

pub returns : goal.returns
returns c = c.from_be_bytes.ensures ∙ be_8 c.bytes.result (search rules) (λ i. search rules) ∙ c.bytes.ensures
