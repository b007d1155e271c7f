use Rattle.text.proofs.Pieces.{more}
use Rattle.text.proofs.frame_line.Goals as goal

pub returns : goal.returns
returns c = rw c.from.ensures at (more _ _ _ _ (more _ _ _ _ c.followed-a.ensures c.followed-b.ensures) c.followed.ensures)
