use Rattle.orizhgum.specs.Written.{write_answer}
use Rattle.orizhgum.proofs.written.WriteAnswerFromResultUsizeRefusal.from.Goals as goal

pub returns-in-Ok : goal.returns-in-Ok
unfolding write_answer
returns-in-Ok c = rw c.in-Ok.is

pub returns-in-Err : goal.returns-in-Err
unfolding write_answer
returns-in-Err c = rw (c.from.ensures, c.in-Err.is)
