use mathlib.Core.Path.{sym}
use Rattle.tracker.proofs.Batch.{asked_all, asked-batch}
use Rattle.tracker.proofs.request.asked.Goals as goal

pub returns-then-run : goal.returns-then-run
returns-then-run c = sym (asked_all c.args.run c.if-run.true)

pub returns : goal.returns
returns c = sym (asked-batch c.args.run c.if-run.false)
