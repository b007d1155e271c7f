use Rattle.std.proofs.Common.{◌∙◌}
use Rattle.layout.specs.Kind.{group_count}
use Rattle.layout.proofs.Free.{free-group-count}
use Rattle.record.proofs.Tell.{common_and}
use Rattle.record.proofs.index.IndexListed.in_range.Goals as goal

pub returns : goal.returns
returns c = c.in_range.ensures ∙ common_and group_count free-group-count c.args.body.now
