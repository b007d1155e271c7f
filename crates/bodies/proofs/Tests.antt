-- Which numbers of a record the code tests: fields whose range is any number are in it.
-- Assumes nothing.
use Prim.Native.Nat.{ℕ, ◌^◌, ◌<◌}
use mathlib.Core.Path.{◌≡◌, ap, ◌∙◌}
use mathlib.Core.Bool.{Bool, ◌&&◌, and-true}
use mathlib.Core.List.{[]}
use lib.IntN.{ℤ}
use lib.Signed.{mag}
use mir.Syntax.{w64}
use mir.Val.{to_z, of_z}
use Rattle.layout.specs.Kind.{Kind, number, last_number, order_price, quantity, amount, time, side, order_type, execution, yes_no, resend_type, status, ranged}
use Rattle.layout.specs.Layout.{fields, common_part}
use Rattle.layout.specs.Layout as of
use Rattle.layout.proofs.Free.{free-channel, free-group-count, free_stock_number, free-text, first_number_as, bid_number_as, offer_number_as, trade_count_as, trade_price_as, previous_close_as}
use Rattle.record.specs.Paper.{common_values}
use Rattle.record.specs.declared.Record.TheVariants.{ChannelHeartbeat, Resend, Statistics, SecurityStatus, Snapshot, Index, VolumeIndex, Order, Trade}
use Rattle.record.specs.declared.channel_heartbeat.ChannelHeartbeat as channel_heartbeat_call
use Rattle.record.specs.declared.resend.Resend as resend
use Rattle.record.specs.declared.statistics.Statistics as statistics
use Rattle.record.specs.declared.security_status.SecurityStatus as security_status_call
use Rattle.record.specs.declared.common.Common as common
use Rattle.record.specs.declared.snapshot.Snapshot as snapshot
use Rattle.record.specs.declared.index.Index as index
use Rattle.record.specs.declared.volume_index.VolumeIndex as volume_index_call
use Rattle.record.specs.declared.order.Order as order
use Rattle.record.specs.declared.trade.Trade as trade
use Rattle.bodies.specs.Body.{bits, numbers_in}
use Rattle.bodies.specs.Parts.{numbers_of}
use Rattle.bodies.proofs.Stores.{kept_bits}

-- a signed number, tested by its bits
pub by_bits : (k : Kind) (z : ℤ) {b : Bool} {v : ℕ} → mag z < 2 ^ 63 → v ≡ of_z w64 (to_z w64 (of_z w64 z)) → b ≡ ranged k v → b ≡ ranged k (bits z)
by_bits k z h e f = f ∙ ap (ranged k) (e ∙ kept_bits z h)

pub channel_heartbeat_in : (r : channel_heartbeat_call.ChannelHeartbeat) → numbers_in (fields of.channel_heartbeat) (numbers_of (ChannelHeartbeat r)) ≡ ranged last_number (bits r.last_number) && ranged yes_no r.end
unfolding numbers_in
channel_heartbeat_in r = simp (free-channel, and-true)

pub resend_in : (r : resend.Resend) → numbers_in (fields of.resend) (numbers_of (Resend r)) ≡ ranged resend_type r.resend_type && (ranged last_number (bits r.first_number) && (ranged last_number (bits r.last_number) && ranged status r.status))
unfolding numbers_in
resend_in r = simp (free-channel, free-text, first_number_as, and-true)

pub statistics_in : (r : statistics.Statistics) → numbers_in (fields of.statistics) (numbers_of (Statistics r)) ≡ ranged time (bits r.time)
unfolding numbers_in
statistics_in r = simp (free-channel, free-group-count, and-true)

pub security_status_in : (r : security_status_call.SecurityStatus) → numbers_in (fields of.security_status) (numbers_of (SecurityStatus r)) ≡ ranged time (bits r.time)
unfolding numbers_in
security_status_in r = simp (free-channel, free-text, free-group-count, and-true)

pub order_in : (r : order.Order) → numbers_in (fields of.order) (numbers_of (Order r)) ≡ ranged number (bits r.number) && (ranged order_price (bits r.order_price) && (ranged quantity (bits r.quantity) && (ranged side r.side && (ranged time (bits r.time) && ranged order_type r.order_type))))
unfolding numbers_in
order_in r = simp (free-channel, free-text, and-true)

pub trade_in : (r : trade.Trade) → numbers_in (fields of.trade) (numbers_of (Trade r)) ≡ ranged number (bits r.number) && (ranged last_number (bits r.bid_number) && (ranged last_number (bits r.offer_number) && (ranged order_price (bits r.trade_price) && (ranged quantity (bits r.quantity) && (ranged execution r.execution && ranged time (bits r.time))))))
unfolding numbers_in
trade_in r = simp (free-channel, free-text, bid_number_as, offer_number_as, trade_price_as, and-true)

pub common_in : (r : common.Common) → numbers_in common_part (common_values r []) ≡ ranged time (bits r.time) && (ranged order_price (bits r.previous_close) && (ranged last_number (bits r.trade_count) && (ranged quantity (bits r.volume) && ranged amount (bits r.amount))))
unfolding numbers_in
common_in r = simp (free-channel, free-text, previous_close_as, trade_count_as, and-true)

-- the number behind the common part is free
pub snapshot_in : (r : snapshot.Snapshot) → numbers_in common_part (common_values r.common []) ≡ numbers_in (fields of.snapshot) (numbers_of (Snapshot r))
unfolding numbers_in
snapshot_in r = simp (free-group-count, and-true)

pub index_in : (r : index.Index) → numbers_in common_part (common_values r.common []) ≡ numbers_in (fields of.index) (numbers_of (Index r))
unfolding numbers_in
index_in r = simp (free-group-count, and-true)

pub volume_index_in : (r : volume_index_call.VolumeIndex) → numbers_in common_part (common_values r.common []) ≡ numbers_in (fields of.volume_index) (numbers_of (VolumeIndex r))
unfolding numbers_in
volume_index_in r = simp (free_stock_number, and-true)
