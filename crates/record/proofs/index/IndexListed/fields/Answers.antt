use Rattle.std.proofs.Common.{[], ◌∷◌, ◌++◌, pos}
use Rattle.layout.specs.Layout.{index, values}
use Rattle.record.specs.Record.{known}
use Rattle.record.proofs.index.IndexListed.fields.Goals as goal

pub returns : goal.returns
unfolding values
returns c = λ i. known index (c.fields.ensures i ++ (pos (c.at.ensures i) ∷ []))
