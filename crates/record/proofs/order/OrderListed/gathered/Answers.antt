use Rattle.record.proofs.Gathered.{found_as, order-texts}
use Rattle.record.proofs.order.OrderListed.gathered.Goals as goal

pub returns : goal.returns
returns c = found_as c.gather.ensures (order-texts c.args.body.now)
