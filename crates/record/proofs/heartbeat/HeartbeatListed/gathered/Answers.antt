use Rattle.layout.specs.Layout.{texts}
use Rattle.record.proofs.heartbeat.HeartbeatListed.gathered.Goals as goal

pub returns : goal.returns
unfolding texts
returns c = c.no_texts.ensures
