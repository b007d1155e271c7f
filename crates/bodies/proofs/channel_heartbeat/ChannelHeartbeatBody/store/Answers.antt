use Rattle.std.proofs.Common.{arith, refl}
use Rattle.layout.specs.Layout.{channel_heartbeat, size}
use Rattle.bodies.specs.Body.{text_size}
use Rattle.bodies.proofs.Stores.{field, signed_field, done, stored}
use Rattle.bodies.proofs.channel_heartbeat.ChannelHeartbeatBody.store.Goals as goal

pub returns : goal.returns
unfolding size text_size
returns c t o =
    stored channel_heartbeat _ _ _ t o
    (field c.put.ensures
    (signed_field refl (omega arith) c.put-2.ensures
    (field c.put-3.ensures
    done)))
