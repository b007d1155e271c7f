use Rattle.std.proofs.Common.{◌∙◌, arith}
use lib.Dec.{lit≤}
use Rattle.layout.specs.Layout.{common_part, size}
use Rattle.record.proofs.Had.{values-part}
use Rattle.record.proofs.common.Common.fields.Goals as goal

pub returns : goal.returns
unfolding size
returns c = c.read-2.ensures ∙ values-part common_part c.args.body.now 0 65 0 (lit≤ tt)
