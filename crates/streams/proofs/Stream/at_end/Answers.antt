use Rattle.std.proofs.Common.{rules}
use Rattle.streams.specs.Stream.{answer_again}
use Rattle.streams.proofs.Stream.at_end.Goals as goal

pub returns-in-0 : goal.returns-in-0
unfolding answer_again
returns-in-0 c = search rules

pub returns-in_default : goal.returns-in_default
unfolding answer_again
returns-in_default c = search rules
