use Rattle.std.proofs.Common.{arith, ◌&&◌, sym, ◌∙◌}
use Rattle.layout.specs.Kind.{last_number}
use Rattle.bodies.proofs.Tests.{by_bits, channel_heartbeat_in}
use Rattle.bodies.proofs.channel_heartbeat.ChannelHeartbeatBody.numbers_in_range.Goals as goal

pub returns : goal.returns
returns c =
    let r = c.args.self in
    let t1 = by_bits last_number r.last_number (omega arith) c.unsigned.ensures c.natural_in_range.ensures in
    let t2 = c.yes_no_in_range.ensures in
    (λ i. t1 i && t2 i) ∙ sym (channel_heartbeat_in r)
