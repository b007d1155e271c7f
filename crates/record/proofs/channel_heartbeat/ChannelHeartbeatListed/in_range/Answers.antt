use mathlib.Core.Bool.{and-true}
use Rattle.layout.specs.Layout.{ranges}
use Rattle.layout.proofs.Free.{free-channel}
use Rattle.record.proofs.channel_heartbeat.ChannelHeartbeatListed.in_range.Goals as goal

pub returns : goal.returns
unfolding ranges
returns c = simp (free-channel, and-true) (cc)
