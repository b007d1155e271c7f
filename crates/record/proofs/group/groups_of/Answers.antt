use Rattle.std.proofs.Common.{◌∙◌}
use Rattle.record.specs.declared.kind.Kind.TheVariants as kind
use Rattle.record.proofs.Choice.{parts_by, parts_unlisted}
use Rattle.record.proofs.group.groups_of.Goals as goal

pub returns-in-Ok-Heartbeat : goal.returns-in-Ok-Heartbeat
returns-in-Ok-Heartbeat c = c.behind.ensures ∙ parts_by _ _ kind.Heartbeat _ c.in-Ok-Heartbeat.field-0-is c.in-Ok-Heartbeat.ensures

pub returns-in-Ok-ChannelHeartbeat : goal.returns-in-Ok-ChannelHeartbeat
returns-in-Ok-ChannelHeartbeat c = c.behind-in-Ok-ChannelHeartbeat.ensures ∙ parts_by _ _ kind.ChannelHeartbeat _ c.in-Ok-ChannelHeartbeat.field-0-is c.in-Ok-ChannelHeartbeat.ensures

pub returns-in-Ok-Resend : goal.returns-in-Ok-Resend
returns-in-Ok-Resend c = c.behind-in-Ok-Resend.ensures ∙ parts_by _ _ kind.Resend _ c.in-Ok-Resend.field-0-is c.in-Ok-Resend.ensures

pub returns-in-Ok-Statistics : goal.returns-in-Ok-Statistics
returns-in-Ok-Statistics c = c.behind-in-Ok-Statistics.ensures ∙ parts_by _ _ kind.Statistics _ c.in-Ok-Statistics.field-0-is c.in-Ok-Statistics.ensures

pub returns-in-Ok-SecurityStatus : goal.returns-in-Ok-SecurityStatus
returns-in-Ok-SecurityStatus c = c.behind-in-Ok-SecurityStatus.ensures ∙ parts_by _ _ kind.SecurityStatus _ c.in-Ok-SecurityStatus.field-0-is c.in-Ok-SecurityStatus.ensures

pub returns-in-Ok-Snapshot : goal.returns-in-Ok-Snapshot
returns-in-Ok-Snapshot c = c.behind-in-Ok-Snapshot.ensures ∙ parts_by _ _ kind.Snapshot _ c.in-Ok-Snapshot.field-0-is c.in-Ok-Snapshot.ensures

pub returns-in-Ok-Index : goal.returns-in-Ok-Index
returns-in-Ok-Index c = c.behind-in-Ok-Index.ensures ∙ parts_by _ _ kind.Index _ c.in-Ok-Index.field-0-is c.in-Ok-Index.ensures

pub returns-in-Ok-VolumeIndex : goal.returns-in-Ok-VolumeIndex
returns-in-Ok-VolumeIndex c = c.behind-in-Ok-VolumeIndex.ensures ∙ parts_by _ _ kind.VolumeIndex _ c.in-Ok-VolumeIndex.field-0-is c.in-Ok-VolumeIndex.ensures

pub returns-in-Ok-Order : goal.returns-in-Ok-Order
returns-in-Ok-Order c = c.behind-in-Ok-Order.ensures ∙ parts_by _ _ kind.Order _ c.in-Ok-Order.field-0-is c.in-Ok-Order.ensures

pub returns-in-Ok-Trade : goal.returns-in-Ok-Trade
returns-in-Ok-Trade c = c.behind-in-Ok-Trade.ensures ∙ parts_by _ _ kind.Trade _ c.in-Ok-Trade.field-0-is c.in-Ok-Trade.ensures

pub returns-in-Err : goal.returns-in-Err
returns-in-Err c = parts_unlisted _ _ c.in-Err.ensures
