use Rattle.std.proofs.Common.{[], ◌∷◌, pos}
use Rattle.layout.specs.Layout.{channel_heartbeat, values}
use Rattle.record.specs.Record.{known}
use Rattle.record.proofs.Tell.{kept}
use Rattle.record.proofs.channel_heartbeat.ChannelHeartbeatListed.fields.Goals as goal

pub returns : goal.returns
unfolding values
returns c =
    (λ i.
    known channel_heartbeat
    (pos (c.at.ensures i)
    ∷ kept c.at-2.type_inv c.at-2.ensures i
    ∷ pos (c.at-3.ensures i)
    ∷ []))
