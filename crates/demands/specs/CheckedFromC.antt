-- What the checker proved of the code of each call of the C interface, for every input: one line a call.
-- Assumes nothing.
use Rattle.demands.specs.Checked.{Proved}
use Rattle.orizhgum.proofs.orizhgum_frame as frame
use Rattle.orizhgum.proofs.streamed.orizhgum_stream_new as stream_new
use Rattle.orizhgum.proofs.streamed.orizhgum_stream_push as stream_push
use Rattle.orizhgum.proofs.streamed.orizhgum_stream_end as stream_end
use Rattle.orizhgum.proofs.records.orizhgum_judge as judge
use Rattle.orizhgum.proofs.records.orizhgum_order as order
use Rattle.orizhgum.proofs.records.orizhgum_trade as trade
use Rattle.orizhgum.proofs.records.orizhgum_channel_heartbeat as channel_heartbeat_call
use Rattle.orizhgum.proofs.records.orizhgum_resend as resend
use Rattle.orizhgum.proofs.records.orizhgum_snapshot as snapshot
use Rattle.orizhgum.proofs.records.orizhgum_index as index
use Rattle.orizhgum.proofs.records.orizhgum_volume_index as volume_index_call
use Rattle.orizhgum.proofs.records.orizhgum_statistics as statistics
use Rattle.orizhgum.proofs.records.orizhgum_security_status as security_status_call
use Rattle.orizhgum.proofs.groups.orizhgum_group as group
use Rattle.orizhgum.proofs.entry.orizhgum_entry as entry
use Rattle.orizhgum.proofs.entry.orizhgum_entry_price as entry_price_call
use Rattle.orizhgum.proofs.entry.orizhgum_quantity as quantity
use Rattle.orizhgum.proofs.entry.orizhgum_cursor as cursor
use Rattle.orizhgum.proofs.entry.orizhgum_step_price as step_price
use Rattle.orizhgum.proofs.entry.orizhgum_next as next
use Rattle.orizhgum.proofs.arrivals.orizhgum_set_up as set_up_call
use Rattle.orizhgum.proofs.arrivals.orizhgum_tick_in as tick_in
use Rattle.orizhgum.proofs.arrivals.orizhgum_heard_in as heartbeat_in
use Rattle.orizhgum.proofs.requested.orizhgum_request_in as request_in
use Rattle.orizhgum.proofs.written.orizhgum_write_heartbeat as write_heartbeat
use Rattle.orizhgum.proofs.written.orizhgum_write_order as write_order
use Rattle.orizhgum.proofs.written.orizhgum_write_trade as write_trade
use Rattle.orizhgum.proofs.written.orizhgum_write_channel_heartbeat as write_channel_heartbeat
use Rattle.orizhgum.proofs.written.orizhgum_write_resend as write_resend
use Rattle.orizhgum.proofs.written.orizhgum_write_snapshot as write_snapshot
use Rattle.orizhgum.proofs.written.orizhgum_write_index as write_index
use Rattle.orizhgum.proofs.written.orizhgum_write_volume_index as write_volume_index
use Rattle.orizhgum.proofs.written.orizhgum_write_statistics as write_statistics
use Rattle.orizhgum.proofs.written.orizhgum_write_security_status as write_security_status

-- D11: the code of each call
pub record CheckedFromC : Type 2 where
  pub frame : Proved frame.Statement.statement 1 frame.Kinds.ps frame.Kinds.r frame.Reads.Ghost frame.Reads.requires frame.Reads.ensures frame.Reads.Asked frame.Reads.Learnt
  pub stream_new : Proved stream_new.Statement.statement 0 stream_new.Kinds.ps stream_new.Kinds.r stream_new.Reads.Ghost stream_new.Reads.requires stream_new.Reads.ensures stream_new.Reads.Asked stream_new.Reads.Learnt
  pub stream_push : Proved stream_push.Statement.statement 2 stream_push.Kinds.ps stream_push.Kinds.r stream_push.Reads.Ghost stream_push.Reads.requires stream_push.Reads.ensures stream_push.Reads.Asked stream_push.Reads.Learnt
  pub stream_end : Proved stream_end.Statement.statement 1 stream_end.Kinds.ps stream_end.Kinds.r stream_end.Reads.Ghost stream_end.Reads.requires stream_end.Reads.ensures stream_end.Reads.Asked stream_end.Reads.Learnt
  pub judge : Proved judge.Statement.statement 1 judge.Kinds.ps judge.Kinds.r judge.Reads.Ghost judge.Reads.requires judge.Reads.ensures judge.Reads.Asked judge.Reads.Learnt
  pub order : Proved order.Statement.statement 1 order.Kinds.ps order.Kinds.r order.Reads.Ghost order.Reads.requires order.Reads.ensures order.Reads.Asked order.Reads.Learnt
  pub trade : Proved trade.Statement.statement 1 trade.Kinds.ps trade.Kinds.r trade.Reads.Ghost trade.Reads.requires trade.Reads.ensures trade.Reads.Asked trade.Reads.Learnt
  pub channel_heartbeat_call : Proved channel_heartbeat_call.Statement.statement 1 channel_heartbeat_call.Kinds.ps channel_heartbeat_call.Kinds.r channel_heartbeat_call.Reads.Ghost channel_heartbeat_call.Reads.requires channel_heartbeat_call.Reads.ensures channel_heartbeat_call.Reads.Asked channel_heartbeat_call.Reads.Learnt
  pub resend : Proved resend.Statement.statement 1 resend.Kinds.ps resend.Kinds.r resend.Reads.Ghost resend.Reads.requires resend.Reads.ensures resend.Reads.Asked resend.Reads.Learnt
  pub snapshot : Proved snapshot.Statement.statement 1 snapshot.Kinds.ps snapshot.Kinds.r snapshot.Reads.Ghost snapshot.Reads.requires snapshot.Reads.ensures snapshot.Reads.Asked snapshot.Reads.Learnt
  pub index : Proved index.Statement.statement 1 index.Kinds.ps index.Kinds.r index.Reads.Ghost index.Reads.requires index.Reads.ensures index.Reads.Asked index.Reads.Learnt
  pub volume_index_call : Proved volume_index_call.Statement.statement 1 volume_index_call.Kinds.ps volume_index_call.Kinds.r volume_index_call.Reads.Ghost volume_index_call.Reads.requires volume_index_call.Reads.ensures volume_index_call.Reads.Asked volume_index_call.Reads.Learnt
  pub statistics : Proved statistics.Statement.statement 1 statistics.Kinds.ps statistics.Kinds.r statistics.Reads.Ghost statistics.Reads.requires statistics.Reads.ensures statistics.Reads.Asked statistics.Reads.Learnt
  pub security_status_call : Proved security_status_call.Statement.statement 1 security_status_call.Kinds.ps security_status_call.Kinds.r security_status_call.Reads.Ghost security_status_call.Reads.requires security_status_call.Reads.ensures security_status_call.Reads.Asked security_status_call.Reads.Learnt
  pub group : Proved group.Statement.statement 1 group.Kinds.ps group.Kinds.r group.Reads.Ghost group.Reads.requires group.Reads.ensures group.Reads.Asked group.Reads.Learnt
  pub entry : Proved entry.Statement.statement 1 entry.Kinds.ps entry.Kinds.r entry.Reads.Ghost entry.Reads.requires entry.Reads.ensures entry.Reads.Asked entry.Reads.Learnt
  pub entry_price_call : Proved entry_price_call.Statement.statement 2 entry_price_call.Kinds.ps entry_price_call.Kinds.r entry_price_call.Reads.Ghost entry_price_call.Reads.requires entry_price_call.Reads.ensures entry_price_call.Reads.Asked entry_price_call.Reads.Learnt
  pub quantity : Proved quantity.Statement.statement 1 quantity.Kinds.ps quantity.Kinds.r quantity.Reads.Ghost quantity.Reads.requires quantity.Reads.ensures quantity.Reads.Asked quantity.Reads.Learnt
  pub cursor : Proved cursor.Statement.statement 1 cursor.Kinds.ps cursor.Kinds.r cursor.Reads.Ghost cursor.Reads.requires cursor.Reads.ensures cursor.Reads.Asked cursor.Reads.Learnt
  pub next : Proved next.Statement.statement 2 next.Kinds.ps next.Kinds.r next.Reads.Ghost next.Reads.requires next.Reads.ensures next.Reads.Asked next.Reads.Learnt
  pub step_price : Proved step_price.Statement.statement 2 step_price.Kinds.ps step_price.Kinds.r step_price.Reads.Ghost step_price.Reads.requires step_price.Reads.ensures step_price.Reads.Asked step_price.Reads.Learnt
  pub set_up_call : Proved set_up_call.Statement.statement 1 set_up_call.Kinds.ps set_up_call.Kinds.r set_up_call.Reads.Ghost set_up_call.Reads.requires set_up_call.Reads.ensures set_up_call.Reads.Asked set_up_call.Reads.Learnt
  pub tick_in : Proved tick_in.Statement.statement 6 tick_in.Kinds.ps tick_in.Kinds.r tick_in.Reads.Ghost tick_in.Reads.requires tick_in.Reads.ensures tick_in.Reads.Asked tick_in.Reads.Learnt
  pub heartbeat_in : Proved heartbeat_in.Statement.statement 6 heartbeat_in.Kinds.ps heartbeat_in.Kinds.r heartbeat_in.Reads.Ghost heartbeat_in.Reads.requires heartbeat_in.Reads.ensures heartbeat_in.Reads.Asked heartbeat_in.Reads.Learnt
  pub request_in : Proved request_in.Statement.statement 2 request_in.Kinds.ps request_in.Kinds.r request_in.Reads.Ghost request_in.Reads.requires request_in.Reads.ensures request_in.Reads.Asked request_in.Reads.Learnt
  pub write_heartbeat : Proved write_heartbeat.Statement.statement 3 write_heartbeat.Kinds.ps write_heartbeat.Kinds.r write_heartbeat.Reads.Ghost write_heartbeat.Reads.requires write_heartbeat.Reads.ensures write_heartbeat.Reads.Asked write_heartbeat.Reads.Learnt
  pub write_order : Proved write_order.Statement.statement 3 write_order.Kinds.ps write_order.Kinds.r write_order.Reads.Ghost write_order.Reads.requires write_order.Reads.ensures write_order.Reads.Asked write_order.Reads.Learnt
  pub write_trade : Proved write_trade.Statement.statement 3 write_trade.Kinds.ps write_trade.Kinds.r write_trade.Reads.Ghost write_trade.Reads.requires write_trade.Reads.ensures write_trade.Reads.Asked write_trade.Reads.Learnt
  pub write_channel_heartbeat : Proved write_channel_heartbeat.Statement.statement 3 write_channel_heartbeat.Kinds.ps write_channel_heartbeat.Kinds.r write_channel_heartbeat.Reads.Ghost write_channel_heartbeat.Reads.requires write_channel_heartbeat.Reads.ensures write_channel_heartbeat.Reads.Asked write_channel_heartbeat.Reads.Learnt
  pub write_resend : Proved write_resend.Statement.statement 3 write_resend.Kinds.ps write_resend.Kinds.r write_resend.Reads.Ghost write_resend.Reads.requires write_resend.Reads.ensures write_resend.Reads.Asked write_resend.Reads.Learnt
  pub write_snapshot : Proved write_snapshot.Statement.statement 3 write_snapshot.Kinds.ps write_snapshot.Kinds.r write_snapshot.Reads.Ghost write_snapshot.Reads.requires write_snapshot.Reads.ensures write_snapshot.Reads.Asked write_snapshot.Reads.Learnt
  pub write_index : Proved write_index.Statement.statement 3 write_index.Kinds.ps write_index.Kinds.r write_index.Reads.Ghost write_index.Reads.requires write_index.Reads.ensures write_index.Reads.Asked write_index.Reads.Learnt
  pub write_volume_index : Proved write_volume_index.Statement.statement 3 write_volume_index.Kinds.ps write_volume_index.Kinds.r write_volume_index.Reads.Ghost write_volume_index.Reads.requires write_volume_index.Reads.ensures write_volume_index.Reads.Asked write_volume_index.Reads.Learnt
  pub write_statistics : Proved write_statistics.Statement.statement 3 write_statistics.Kinds.ps write_statistics.Kinds.r write_statistics.Reads.Ghost write_statistics.Reads.requires write_statistics.Reads.ensures write_statistics.Reads.Asked write_statistics.Reads.Learnt
  pub write_security_status : Proved write_security_status.Statement.statement 3 write_security_status.Kinds.ps write_security_status.Kinds.r write_security_status.Reads.Ghost write_security_status.Reads.requires write_security_status.Reads.ensures write_security_status.Reads.Asked write_security_status.Reads.Learnt
