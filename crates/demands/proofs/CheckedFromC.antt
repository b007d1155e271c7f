-- The code of each call of the C interface: the checker's theorems, by name.
-- Assumes nothing.
use Rattle.orizhgum.proofs.orizhgum_frame as frame
use Rattle.orizhgum.proofs.streamed.orizhgum_stream_new as stream_new
use Rattle.orizhgum.proofs.streamed.orizhgum_stream_push as stream_push
use Rattle.orizhgum.proofs.streamed.orizhgum_stream_end as stream_end
use Rattle.orizhgum.proofs.records.orizhgum_judge as judge
use Rattle.orizhgum.proofs.records.orizhgum_order as order
use Rattle.orizhgum.proofs.records.orizhgum_trade as trade
use Rattle.orizhgum.proofs.records.orizhgum_channel_heartbeat as channel_heartbeat_call
use Rattle.orizhgum.proofs.records.orizhgum_resend as resend
use Rattle.orizhgum.proofs.records.orizhgum_snapshot as snapshot
use Rattle.orizhgum.proofs.records.orizhgum_index as index
use Rattle.orizhgum.proofs.records.orizhgum_volume_index as volume_index_call
use Rattle.orizhgum.proofs.records.orizhgum_statistics as statistics
use Rattle.orizhgum.proofs.records.orizhgum_security_status as security_status_call
use Rattle.orizhgum.proofs.groups.orizhgum_group as group
use Rattle.orizhgum.proofs.entry.orizhgum_entry as entry
use Rattle.orizhgum.proofs.entry.orizhgum_entry_price as entry_price_call
use Rattle.orizhgum.proofs.entry.orizhgum_quantity as quantity
use Rattle.orizhgum.proofs.entry.orizhgum_cursor as cursor
use Rattle.orizhgum.proofs.entry.orizhgum_step_price as step_price
use Rattle.orizhgum.proofs.entry.orizhgum_next as next
use Rattle.orizhgum.proofs.arrivals.orizhgum_set_up as set_up_call
use Rattle.orizhgum.proofs.arrivals.orizhgum_tick_in as tick_in
use Rattle.orizhgum.proofs.arrivals.orizhgum_heard_in as heartbeat_in
use Rattle.orizhgum.proofs.requested.orizhgum_request_in as request_in
use Rattle.orizhgum.proofs.written.orizhgum_write_heartbeat as write_heartbeat
use Rattle.orizhgum.proofs.written.orizhgum_write_order as write_order
use Rattle.orizhgum.proofs.written.orizhgum_write_trade as write_trade
use Rattle.orizhgum.proofs.written.orizhgum_write_channel_heartbeat as write_channel_heartbeat
use Rattle.orizhgum.proofs.written.orizhgum_write_resend as write_resend
use Rattle.orizhgum.proofs.written.orizhgum_write_snapshot as write_snapshot
use Rattle.orizhgum.proofs.written.orizhgum_write_index as write_index
use Rattle.orizhgum.proofs.written.orizhgum_write_volume_index as write_volume_index
use Rattle.orizhgum.proofs.written.orizhgum_write_statistics as write_statistics
use Rattle.orizhgum.proofs.written.orizhgum_write_security_status as write_security_status
use Rattle.demands.specs.CheckedFromC.{CheckedFromC}

pub checked_from_c : CheckedFromC
checked_from_c =
    record {
      frame = record { meets = frame.Met.met; free = λ κs a. tt; known = frame.Reads.known };
      stream_new = record { meets = stream_new.Met.met; free = λ κs a. tt; known = stream_new.Reads.known };
      stream_push = record { meets = stream_push.Met.met; free = λ κs a. tt; known = stream_push.Reads.known };
      stream_end = record { meets = stream_end.Met.met; free = λ κs a. tt; known = stream_end.Reads.known };
      judge = record { meets = judge.Met.met; free = λ κs a. tt; known = judge.Reads.known };
      order = record { meets = order.Met.met; free = λ κs a. tt; known = order.Reads.known };
      trade = record { meets = trade.Met.met; free = λ κs a. tt; known = trade.Reads.known };
      channel_heartbeat_call = record { meets = channel_heartbeat_call.Met.met; free = λ κs a. tt; known = channel_heartbeat_call.Reads.known };
      resend = record { meets = resend.Met.met; free = λ κs a. tt; known = resend.Reads.known };
      snapshot = record { meets = snapshot.Met.met; free = λ κs a. tt; known = snapshot.Reads.known };
      index = record { meets = index.Met.met; free = λ κs a. tt; known = index.Reads.known };
      volume_index_call = record { meets = volume_index_call.Met.met; free = λ κs a. tt; known = volume_index_call.Reads.known };
      statistics = record { meets = statistics.Met.met; free = λ κs a. tt; known = statistics.Reads.known };
      security_status_call = record { meets = security_status_call.Met.met; free = λ κs a. tt; known = security_status_call.Reads.known };
      group = record { meets = group.Met.met; free = λ κs a. tt; known = group.Reads.known };
      entry = record { meets = entry.Met.met; free = λ κs a. tt; known = entry.Reads.known };
      entry_price_call = record { meets = entry_price_call.Met.met; free = λ κs a. tt; known = entry_price_call.Reads.known };
      quantity = record { meets = quantity.Met.met; free = λ κs a. tt; known = quantity.Reads.known };
      cursor = record { meets = cursor.Met.met; free = λ κs a. tt; known = cursor.Reads.known };
      next = record { meets = next.Met.met; free = λ κs a. tt; known = next.Reads.known };
      step_price = record { meets = step_price.Met.met; free = λ κs a. tt; known = step_price.Reads.known };
      set_up_call = record { meets = set_up_call.Met.met; free = λ κs a. tt; known = set_up_call.Reads.known };
      tick_in = record { meets = tick_in.Met.met; free = λ κs a. tt; known = tick_in.Reads.known };
      heartbeat_in = record { meets = heartbeat_in.Met.met; free = λ κs a. tt; known = heartbeat_in.Reads.known };
      request_in = record { meets = request_in.Met.met; free = λ κs a. tt; known = request_in.Reads.known };
      write_heartbeat = record { meets = write_heartbeat.Met.met; free = λ κs a. tt; known = write_heartbeat.Reads.known };
      write_order = record { meets = write_order.Met.met; free = λ κs a. tt; known = write_order.Reads.known };
      write_trade = record { meets = write_trade.Met.met; free = λ κs a. tt; known = write_trade.Reads.known };
      write_channel_heartbeat = record { meets = write_channel_heartbeat.Met.met; free = λ κs a. tt; known = write_channel_heartbeat.Reads.known };
      write_resend = record { meets = write_resend.Met.met; free = λ κs a. tt; known = write_resend.Reads.known };
      write_snapshot = record { meets = write_snapshot.Met.met; free = λ κs a. tt; known = write_snapshot.Reads.known };
      write_index = record { meets = write_index.Met.met; free = λ κs a. tt; known = write_index.Reads.known };
      write_volume_index = record { meets = write_volume_index.Met.met; free = λ κs a. tt; known = write_volume_index.Reads.known };
      write_statistics = record { meets = write_statistics.Met.met; free = λ κs a. tt; known = write_statistics.Reads.known };
      write_security_status = record { meets = write_security_status.Met.met; free = λ κs a. tt; known = write_security_status.Reads.known };
    }
