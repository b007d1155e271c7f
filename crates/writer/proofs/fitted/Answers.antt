use Rattle.std.proofs.Common.{◌+◌, arith}
use Rattle.writer.proofs.Judging.{fit_long, fit_short, fit-whole}
use Rattle.writer.proofs.fitted.Goals as goal

pub returns-then-size-groups : goal.returns-then-size-groups
returns-then-size-groups c = let a = c.args in fit_long (a.size + a.groups) a.room (omega arith)

pub returns-then-room-total : goal.returns-then-room-total
returns-then-room-total c = let a = c.args in fit_short (a.size + a.groups) a.room (omega arith) (omega arith)

pub returns : goal.returns
returns c = let a = c.args in fit-whole (a.size + a.groups) a.room (omega arith) (omega arith)
