use Rattle.std.proofs.Common.{refl}
use Rattle.layout.specs.Layout.{values}
use Rattle.record.proofs.heartbeat.HeartbeatListed.fields.Goals as goal

pub returns : goal.returns
unfolding values
returns c = refl
