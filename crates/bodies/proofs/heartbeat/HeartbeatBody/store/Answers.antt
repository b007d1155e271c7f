use Rattle.layout.specs.Layout.{heartbeat}
use Rattle.bodies.proofs.Stores.{done, stored}
use Rattle.bodies.proofs.heartbeat.HeartbeatBody.store.Goals as goal

pub returns : goal.returns
returns c t o = stored heartbeat _ _ _ t o done
