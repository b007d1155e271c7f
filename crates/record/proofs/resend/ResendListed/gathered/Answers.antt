use Rattle.record.proofs.Gathered.{found_as, resend-texts}
use Rattle.record.proofs.resend.ResendListed.gathered.Goals as goal

pub returns : goal.returns
returns c = found_as c.gather.ensures (resend-texts c.args.body.now)
