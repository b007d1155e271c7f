use Rattle.record.proofs.Gathered.{found_as, common-texts}
use Rattle.record.proofs.common.Common.gathered.Goals as goal

pub returns : goal.returns
returns c = found_as c.gather.ensures (common-texts c.args.body.now)
