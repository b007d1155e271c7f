use Rattle.record.proofs.Gathered.{found_as, trade-texts}
use Rattle.record.proofs.trade.TradeListed.gathered.Goals as goal

pub returns : goal.returns
returns c = found_as c.gather.ensures (trade-texts c.args.body.now)
