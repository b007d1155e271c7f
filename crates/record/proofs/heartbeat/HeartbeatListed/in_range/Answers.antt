use Rattle.std.proofs.Common.{refl}
use Rattle.layout.specs.Layout.{ranges}
use Rattle.record.proofs.heartbeat.HeartbeatListed.in_range.Goals as goal

pub returns : goal.returns
unfolding ranges
returns c = refl
