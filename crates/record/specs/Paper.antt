-- The code's answers in the specs' terms: for each case of an enum, its number and values.
-- Assumes nothing.
use Rattle.std.specs.Prelude.{List, [], ◌∷◌, ℤ, pos, Option, Some, None, Result, Ok, Err}
use Rattle.wire.specs.Answer.{accepted, refused}
use Rattle.frame.specs.Framing as framing
use Rattle.layout.specs.Layout.{heartbeat, channel_heartbeat, resend, statistics, security_status, snapshot, index, volume_index, order, trade, Message, Listed, listed, unlisted, Group, Behind, nothing, groups, entries, entry_group, behind}
use Rattle.layout.specs.Paper.{body_refusal, means_groups}
use Rattle.layout.specs.declared.group.Groups.{Groups}
use Rattle.layout.specs.declared.group.Refusal.{Refusal}
use Rattle.record.specs.Asked.{WithTexts, with_texts, Asked, found, no_such_entry}
use Rattle.record.specs.Record as record_of
use Rattle.record.specs.declared.Record.{Record}
use Rattle.record.specs.declared.Record.TheVariants.{Heartbeat, ChannelHeartbeat, Resend, Statistics, SecurityStatus, Snapshot, Index, VolumeIndex, Order, Trade, Unknown}
use Rattle.record.specs.declared.common.Common.{Common}
use Rattle.record.specs.declared.Reading as code_reading
use Rattle.record.specs.declared.kind.Kind.{Kind}
use Rattle.record.specs.declared.kind.Kind.TheVariants as kind
use Rattle.record.specs.declared.kind.Unlisted.{Unlisted}
use Rattle.record.specs.declared.framed.FrameRefusal.{FrameRefusal}
use Rattle.record.specs.declared.framed.FrameRefusal.TheVariants.{Frame, Body}
use Rattle.record.specs.declared.group.Group as code_group
use Rattle.record.specs.declared.group.GroupReading as group_reading

-- ---- records

-- L4: the common part, and what follows it
abbrev pub common_values : Common → List ℤ → List ℤ
common_values c rest =
    c.time ∷ pos c.channel ∷ c.previous_close ∷ c.trade_count ∷ c.volume ∷ c.amount ∷ rest

-- L8: the numbers of each type's struct, in the layout's order
abbrev pub means_record : Record → record_of.Reading
means_record Heartbeat = record_of.known heartbeat []
means_record (ChannelHeartbeat r) =
    record_of.known channel_heartbeat (pos r.channel ∷ r.last_number ∷ pos r.end ∷ [])
means_record (Resend r) =
    record_of.known resend (pos r.resend_type ∷ pos r.channel ∷ r.first_number ∷ r.last_number ∷ pos r.status ∷ [])
means_record (Statistics r) = record_of.known statistics (r.time ∷ pos r.channel ∷ pos r.count ∷ [])
means_record (SecurityStatus r) = record_of.known security_status (r.time ∷ pos r.channel ∷ pos r.count ∷ [])
means_record (Snapshot r) = record_of.known snapshot (common_values r.common (pos r.count ∷ []))
means_record (Index r) = record_of.known index (common_values r.common (pos r.count ∷ []))
means_record (VolumeIndex r) = record_of.known volume_index (common_values r.common (pos r.stock_number ∷ []))
means_record (Order r) =
    record_of.known order
    (pos r.channel ∷ r.number ∷ r.order_price ∷ r.quantity ∷ pos r.side ∷ r.time ∷ pos r.order_type ∷ [])
means_record (Trade r) =
    record_of.known trade
    (pos r.channel ∷ r.number ∷ r.bid_number ∷ r.offer_number ∷ r.trade_price ∷ r.quantity ∷ pos r.execution ∷ r.time ∷ [])
means_record (Unknown t) = record_of.unknown t

-- L6: the layout of each listed type, and what a number chooses
abbrev pub layout_of : Kind → Message
layout_of kind.Heartbeat = heartbeat
layout_of kind.ChannelHeartbeat = channel_heartbeat
layout_of kind.Resend = resend
layout_of kind.Statistics = statistics
layout_of kind.SecurityStatus = security_status
layout_of kind.Snapshot = snapshot
layout_of kind.Index = index
layout_of kind.VolumeIndex = volume_index
layout_of kind.Order = order
layout_of kind.Trade = trade

abbrev pub means_kind : Result Kind Unlisted → Listed
means_kind (Ok k) = listed (layout_of k)
means_kind (Err x) = unlisted

-- L8: an answer with its texts; a refusal has none
abbrev pub Reading : Type 0
Reading = Result code_reading.Reading Refusal

abbrev pub means_reading : Reading → WithTexts record_of.Reading
means_reading (Ok r) = record { answer = accepted (means_record r.record); texts = r.texts.bytes; used = r.texts.length }
means_reading (Err x) = with_texts (refused (body_refusal x) []) []

-- J1: a frame's bytes: 1 to 3 are the frame's refusals, 4 and 5 the body's
abbrev pub FrameReading : Type 0
FrameReading = Result code_reading.Reading FrameRefusal

abbrev pub means_frame_reading : FrameReading → WithTexts record_of.Reading
means_frame_reading (Ok r) =
    record { answer = accepted (means_record r.record); texts = r.texts.bytes; used = r.texts.length }
means_frame_reading (Err (Frame x)) = with_texts (refused (framing.frame_refusal x) (framing.refusal_values x)) []
means_frame_reading (Err (Body x)) = with_texts (refused (body_refusal x) []) []

-- ---- groups

abbrev pub counted_behind : Behind → Option Group
counted_behind nothing = None
counted_behind (groups g) = Some g
counted_behind (entries e) = Some (entry_group e)

-- L5: the group that a layout counts behind its fields, if it has one
abbrev pub counted : Message → Option Group
counted m = counted_behind (behind m)

-- the same as the code names it
abbrev pub means_counted : Option Groups → Option Group
means_counted None = None
means_counted (Some g) = Some (means_groups g)

-- the numbers of a group, in the layout's order
abbrev pub means_group : code_group.Group → List ℤ
means_group (code_group.TheVariants.Stream g) = pos g.stock_number ∷ []
means_group (code_group.TheVariants.Switch g) = pos g.switch_type ∷ pos g.yes_no ∷ []

abbrev pub GroupReading : Type 0
GroupReading = Result (Option group_reading.GroupReading) Refusal

abbrev pub means_group_reading : GroupReading → WithTexts (Asked (List ℤ))
means_group_reading (Ok (Some r)) =
    record { answer = accepted (found (means_group r.group)); texts = r.texts.bytes; used = r.texts.length }
means_group_reading (Ok None) = with_texts (accepted no_such_entry) []
means_group_reading (Err x) = with_texts (refused (body_refusal x) []) []
