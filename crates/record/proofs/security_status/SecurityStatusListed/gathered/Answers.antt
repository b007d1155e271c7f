use Rattle.record.proofs.Gathered.{found_as, status-texts}
use Rattle.record.proofs.security_status.SecurityStatusListed.gathered.Goals as goal

pub returns : goal.returns
returns c = found_as c.gather.ensures (status-texts c.args.body.now)
