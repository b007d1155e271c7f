use Rattle.std.proofs.Common.{ap, ◌∙◌}
use Rattle.std.specs.Option.{unwrap_or}
use Rattle.layout.specs.Paper.{means_groups}
use Rattle.layout.proofs.Walk.{from}
use Rattle.layout.proofs.group.offset_from.Goals as goal

pub returns : goal.returns
returns c = c.unwrap_or.ensures ∙ ap (λ o. unwrap_or o c.args.at) c.end_of.ensures ∙ from (means_groups c.args.g) c.args.s.now c.args.at c.args.i
