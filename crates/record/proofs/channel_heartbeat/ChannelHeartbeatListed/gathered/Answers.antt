use Rattle.layout.specs.Layout.{texts}
use Rattle.record.proofs.channel_heartbeat.ChannelHeartbeatListed.gathered.Goals as goal

pub returns : goal.returns
unfolding texts
returns c = c.no_texts.ensures
