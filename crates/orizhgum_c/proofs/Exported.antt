-- Each export is its call: the checker's theorems, by name.
-- Assumes nothing.
use Rattle.orizhgum_c.proofs.arrivals.orizhgum_set_up as set_up
use Rattle.orizhgum_c.proofs.arrivals.orizhgum_tick_in as tick_in
use Rattle.orizhgum_c.proofs.arrivals.orizhgum_heard_in as heard_in
use Rattle.orizhgum_c.proofs.entry.orizhgum_entry as entry
use Rattle.orizhgum_c.proofs.entry.orizhgum_entry_price as entry_price
use Rattle.orizhgum_c.proofs.entry.orizhgum_quantity as quantity
use Rattle.orizhgum_c.proofs.entry.orizhgum_cursor as cursor
use Rattle.orizhgum_c.proofs.entry.orizhgum_next as next
use Rattle.orizhgum_c.proofs.entry.orizhgum_step_price as step_price
use Rattle.orizhgum_c.proofs.groups.orizhgum_group as group
use Rattle.orizhgum_c.proofs.joined.orizhgum_join_in as join_in
use Rattle.orizhgum_c.proofs.orizhgum_frame as frame
use Rattle.orizhgum_c.proofs.records.orizhgum_judge as judge
use Rattle.orizhgum_c.proofs.records.orizhgum_order as order
use Rattle.orizhgum_c.proofs.records.orizhgum_trade as trade
use Rattle.orizhgum_c.proofs.records.orizhgum_channel_heartbeat as channel_heartbeat
use Rattle.orizhgum_c.proofs.records.orizhgum_resend as resend
use Rattle.orizhgum_c.proofs.records.orizhgum_snapshot as snapshot
use Rattle.orizhgum_c.proofs.records.orizhgum_index as index
use Rattle.orizhgum_c.proofs.records.orizhgum_volume_index as volume_index
use Rattle.orizhgum_c.proofs.records.orizhgum_statistics as statistics
use Rattle.orizhgum_c.proofs.records.orizhgum_security_status as security_status
use Rattle.orizhgum_c.proofs.requested.orizhgum_request_in as request_in
use Rattle.orizhgum_c.proofs.streamed.orizhgum_stream_new as stream_new
use Rattle.orizhgum_c.proofs.streamed.orizhgum_stream_push as stream_push
use Rattle.orizhgum_c.proofs.streamed.orizhgum_stream_end as stream_end
use Rattle.orizhgum_c.proofs.written.orizhgum_write_order as write_order
use Rattle.orizhgum_c.proofs.written.orizhgum_write_trade as write_trade
use Rattle.orizhgum_c.proofs.written.orizhgum_write_channel_heartbeat as write_channel_heartbeat
use Rattle.orizhgum_c.proofs.written.orizhgum_write_resend as write_resend
use Rattle.orizhgum_c.proofs.written.orizhgum_write_snapshot as write_snapshot
use Rattle.orizhgum_c.proofs.written.orizhgum_write_index as write_index
use Rattle.orizhgum_c.proofs.written.orizhgum_write_volume_index as write_volume_index
use Rattle.orizhgum_c.proofs.written.orizhgum_write_statistics as write_statistics
use Rattle.orizhgum_c.proofs.written.orizhgum_write_security_status as write_security_status
use Rattle.orizhgum_c.proofs.written.orizhgum_write_heartbeat as write_heartbeat
use Rattle.orizhgum_c.proofs.Exports.{Exports}

pub exports : Exports
exports =
    record {
      set_up = record { meets = set_up.Met.met; free = λ κs a. tt; known = set_up.Reads.known; answers = λ κs a z e h. h };
      tick_in = record { meets = tick_in.Met.met; free = λ κs a. tt; known = tick_in.Reads.known; answers = λ κs a z e h. h };
      heard_in = record { meets = heard_in.Met.met; free = λ κs a. tt; known = heard_in.Reads.known; answers = λ κs a z e h. h };
      entry = record { meets = entry.Met.met; free = λ κs a. tt; known = entry.Reads.known; answers = λ κs a z e h. h };
      entry_price = record { meets = entry_price.Met.met; free = λ κs a. tt; known = entry_price.Reads.known; answers = λ κs a z e h. h };
      quantity = record { meets = quantity.Met.met; free = λ κs a. tt; known = quantity.Reads.known; answers = λ κs a z e h. h };
      cursor = record { meets = cursor.Met.met; free = λ κs a. tt; known = cursor.Reads.known; answers = λ κs a z e h. h };
      next = record { meets = next.Met.met; free = λ κs a. tt; known = next.Reads.known; answers = λ κs a z e h. h };
      step_price = record { meets = step_price.Met.met; free = λ κs a. tt; known = step_price.Reads.known; answers = λ κs a z e h. h };
      group = record { meets = group.Met.met; free = λ κs a. tt; known = group.Reads.known; answers = λ κs a z e h. h };
      join_in = record { meets = join_in.Met.met; free = λ κs a. tt; known = join_in.Reads.known; answers = λ κs a z e h. h };
      frame = record { meets = frame.Met.met; free = λ κs a. tt; known = frame.Reads.known; answers = λ κs a z e h. h };
      judge = record { meets = judge.Met.met; free = λ κs a. tt; known = judge.Reads.known; answers = λ κs a z e h. h };
      order = record { meets = order.Met.met; free = λ κs a. tt; known = order.Reads.known; answers = λ κs a z e h. h };
      trade = record { meets = trade.Met.met; free = λ κs a. tt; known = trade.Reads.known; answers = λ κs a z e h. h };
      channel_heartbeat = record { meets = channel_heartbeat.Met.met; free = λ κs a. tt; known = channel_heartbeat.Reads.known; answers = λ κs a z e h. h };
      resend = record { meets = resend.Met.met; free = λ κs a. tt; known = resend.Reads.known; answers = λ κs a z e h. h };
      snapshot = record { meets = snapshot.Met.met; free = λ κs a. tt; known = snapshot.Reads.known; answers = λ κs a z e h. h };
      index = record { meets = index.Met.met; free = λ κs a. tt; known = index.Reads.known; answers = λ κs a z e h. h };
      volume_index = record { meets = volume_index.Met.met; free = λ κs a. tt; known = volume_index.Reads.known; answers = λ κs a z e h. h };
      statistics = record { meets = statistics.Met.met; free = λ κs a. tt; known = statistics.Reads.known; answers = λ κs a z e h. h };
      security_status = record { meets = security_status.Met.met; free = λ κs a. tt; known = security_status.Reads.known; answers = λ κs a z e h. h };
      request_in = record { meets = request_in.Met.met; free = λ κs a. tt; known = request_in.Reads.known; answers = λ κs a z e h. h };
      stream_new = record { meets = stream_new.Met.met; free = λ κs a. tt; known = stream_new.Reads.known; answers = λ κs a z e h. h };
      stream_push = record { meets = stream_push.Met.met; free = λ κs a. tt; known = stream_push.Reads.known; answers = λ κs a z e h. h };
      stream_end = record { meets = stream_end.Met.met; free = λ κs a. tt; known = stream_end.Reads.known; answers = λ κs a z e h. h };
      write_order = record { meets = write_order.Met.met; free = λ κs a. tt; known = write_order.Reads.known; answers = λ κs a z e h. h };
      write_trade = record { meets = write_trade.Met.met; free = λ κs a. tt; known = write_trade.Reads.known; answers = λ κs a z e h. h };
      write_channel_heartbeat = record { meets = write_channel_heartbeat.Met.met; free = λ κs a. tt; known = write_channel_heartbeat.Reads.known; answers = λ κs a z e h. h };
      write_resend = record { meets = write_resend.Met.met; free = λ κs a. tt; known = write_resend.Reads.known; answers = λ κs a z e h. h };
      write_snapshot = record { meets = write_snapshot.Met.met; free = λ κs a. tt; known = write_snapshot.Reads.known; answers = λ κs a z e h. h };
      write_index = record { meets = write_index.Met.met; free = λ κs a. tt; known = write_index.Reads.known; answers = λ κs a z e h. h };
      write_volume_index = record { meets = write_volume_index.Met.met; free = λ κs a. tt; known = write_volume_index.Reads.known; answers = λ κs a z e h. h };
      write_statistics = record { meets = write_statistics.Met.met; free = λ κs a. tt; known = write_statistics.Reads.known; answers = λ κs a z e h. h };
      write_security_status = record { meets = write_security_status.Met.met; free = λ κs a. tt; known = write_security_status.Reads.known; answers = λ κs a z e h. h };
      write_heartbeat = record { meets = write_heartbeat.Met.met; free = λ κs a. tt; known = write_heartbeat.Reads.known; answers = λ κs a z e h. h };
    }
