use Rattle.text.proofs.Pieces.{one, more}
use Rattle.text.proofs.followed.Goals as goal

pub returns : goal.returns
returns c = more _ _ _ _ (one _ _ _ c.decimal-behind.ensures) (one _ _ _ c.word.ensures)
