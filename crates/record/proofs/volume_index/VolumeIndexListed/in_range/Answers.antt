use Rattle.std.proofs.Common.{◌∙◌}
use Rattle.layout.specs.Kind.{stock_number}
use Rattle.layout.proofs.Free.{free_stock_number}
use Rattle.record.proofs.Tell.{common_and}
use Rattle.record.proofs.volume_index.VolumeIndexListed.in_range.Goals as goal

pub returns : goal.returns
returns c = c.in_range.ensures ∙ common_and stock_number free_stock_number c.args.body.now
