-- What the archive's exports owe to the calls of `orizhgum`, over which the demands are stated: each is proved, and answers nothing that the
-- contract of its call does not allow. So what holds of every answer of a call holds of every answer of its export.
-- A new export: a `use` of its module and of its call's here, one in proofs/Exported, and a line in each. (A statement of specs may not name the crate's proofs.)
-- Assumes nothing.
use Rattle.std.specs.Prelude.{ℕ, List, []}
use contract.Lifetimes.{Lfts}
use denote.Triple.Clauses.{AtExit}
use borrow.Fn.Kind.{ParamKind, ResultKind}
use borrow.Fn.Kinds.{In, Out, Dens, res_t, ended_of}
use borrow.Fn.Function.{S}
use borrow.Fn.World.{World, Pr, ArgsD, ResD}
use borrow.Fn.Picked.{KnownAs}
use Rattle.orizhgum_c.proofs.arrivals.orizhgum_set_up as set_up
use Rattle.orizhgum_c.proofs.arrivals.orizhgum_tick_in as tick_in
use Rattle.orizhgum_c.proofs.arrivals.orizhgum_heard_in as heard_in
use Rattle.orizhgum_c.proofs.entry.orizhgum_entry as entry
use Rattle.orizhgum_c.proofs.entry.orizhgum_entry_price as entry_price
use Rattle.orizhgum_c.proofs.entry.orizhgum_quantity as quantity
use Rattle.orizhgum_c.proofs.entry.orizhgum_cursor as cursor
use Rattle.orizhgum_c.proofs.entry.orizhgum_next as next
use Rattle.orizhgum_c.proofs.entry.orizhgum_step_price as step_price
use Rattle.orizhgum_c.proofs.groups.orizhgum_group as group
use Rattle.orizhgum_c.proofs.joined.orizhgum_join_in as join_in
use Rattle.orizhgum_c.proofs.orizhgum_frame as frame
use Rattle.orizhgum_c.proofs.records.orizhgum_judge as judge
use Rattle.orizhgum_c.proofs.records.orizhgum_order as order
use Rattle.orizhgum_c.proofs.records.orizhgum_trade as trade
use Rattle.orizhgum_c.proofs.records.orizhgum_channel_heartbeat as channel_heartbeat
use Rattle.orizhgum_c.proofs.records.orizhgum_resend as resend
use Rattle.orizhgum_c.proofs.records.orizhgum_snapshot as snapshot
use Rattle.orizhgum_c.proofs.records.orizhgum_index as index
use Rattle.orizhgum_c.proofs.records.orizhgum_volume_index as volume_index
use Rattle.orizhgum_c.proofs.records.orizhgum_statistics as statistics
use Rattle.orizhgum_c.proofs.records.orizhgum_security_status as security_status
use Rattle.orizhgum_c.proofs.requested.orizhgum_request_in as request_in
use Rattle.orizhgum_c.proofs.streamed.orizhgum_stream_new as stream_new
use Rattle.orizhgum_c.proofs.streamed.orizhgum_stream_push as stream_push
use Rattle.orizhgum_c.proofs.streamed.orizhgum_stream_end as stream_end
use Rattle.orizhgum_c.proofs.written.orizhgum_write_order as write_order
use Rattle.orizhgum_c.proofs.written.orizhgum_write_trade as write_trade
use Rattle.orizhgum_c.proofs.written.orizhgum_write_channel_heartbeat as write_channel_heartbeat
use Rattle.orizhgum_c.proofs.written.orizhgum_write_resend as write_resend
use Rattle.orizhgum_c.proofs.written.orizhgum_write_snapshot as write_snapshot
use Rattle.orizhgum_c.proofs.written.orizhgum_write_index as write_index
use Rattle.orizhgum_c.proofs.written.orizhgum_write_volume_index as write_volume_index
use Rattle.orizhgum_c.proofs.written.orizhgum_write_statistics as write_statistics
use Rattle.orizhgum_c.proofs.written.orizhgum_write_security_status as write_security_status
use Rattle.orizhgum_c.proofs.written.orizhgum_write_heartbeat as write_heartbeat
use Rattle.orizhgum.proofs.arrivals.orizhgum_set_up.Reads as call_set_up
use Rattle.orizhgum.proofs.arrivals.orizhgum_tick_in.Reads as call_tick_in
use Rattle.orizhgum.proofs.arrivals.orizhgum_heard_in.Reads as call_heard_in
use Rattle.orizhgum.proofs.entry.orizhgum_entry.Reads as call_entry
use Rattle.orizhgum.proofs.entry.orizhgum_entry_price.Reads as call_entry_price
use Rattle.orizhgum.proofs.entry.orizhgum_quantity.Reads as call_quantity
use Rattle.orizhgum.proofs.entry.orizhgum_cursor.Reads as call_cursor
use Rattle.orizhgum.proofs.entry.orizhgum_next.Reads as call_next
use Rattle.orizhgum.proofs.entry.orizhgum_step_price.Reads as call_step_price
use Rattle.orizhgum.proofs.groups.orizhgum_group.Reads as call_group
use Rattle.orizhgum.proofs.joined.orizhgum_join_in.Reads as call_join_in
use Rattle.orizhgum.proofs.orizhgum_frame.Reads as call_frame
use Rattle.orizhgum.proofs.records.orizhgum_judge.Reads as call_judge
use Rattle.orizhgum.proofs.records.orizhgum_order.Reads as call_order
use Rattle.orizhgum.proofs.records.orizhgum_trade.Reads as call_trade
use Rattle.orizhgum.proofs.records.orizhgum_channel_heartbeat.Reads as call_channel_heartbeat
use Rattle.orizhgum.proofs.records.orizhgum_resend.Reads as call_resend
use Rattle.orizhgum.proofs.records.orizhgum_snapshot.Reads as call_snapshot
use Rattle.orizhgum.proofs.records.orizhgum_index.Reads as call_index
use Rattle.orizhgum.proofs.records.orizhgum_volume_index.Reads as call_volume_index
use Rattle.orizhgum.proofs.records.orizhgum_statistics.Reads as call_statistics
use Rattle.orizhgum.proofs.records.orizhgum_security_status.Reads as call_security_status
use Rattle.orizhgum.proofs.requested.orizhgum_request_in.Reads as call_request_in
use Rattle.orizhgum.proofs.streamed.orizhgum_stream_new.Reads as call_stream_new
use Rattle.orizhgum.proofs.streamed.orizhgum_stream_push.Reads as call_stream_push
use Rattle.orizhgum.proofs.streamed.orizhgum_stream_end.Reads as call_stream_end
use Rattle.orizhgum.proofs.written.orizhgum_write_order.Reads as call_write_order
use Rattle.orizhgum.proofs.written.orizhgum_write_trade.Reads as call_write_trade
use Rattle.orizhgum.proofs.written.orizhgum_write_channel_heartbeat.Reads as call_write_channel_heartbeat
use Rattle.orizhgum.proofs.written.orizhgum_write_resend.Reads as call_write_resend
use Rattle.orizhgum.proofs.written.orizhgum_write_snapshot.Reads as call_write_snapshot
use Rattle.orizhgum.proofs.written.orizhgum_write_index.Reads as call_write_index
use Rattle.orizhgum.proofs.written.orizhgum_write_volume_index.Reads as call_write_volume_index
use Rattle.orizhgum.proofs.written.orizhgum_write_statistics.Reads as call_write_statistics
use Rattle.orizhgum.proofs.written.orizhgum_write_security_status.Reads as call_write_security_status
use Rattle.orizhgum.proofs.written.orizhgum_write_heartbeat.Reads as call_write_heartbeat

-- C1: one export. `meets`: from every state that its `requires` allows it ends, does nothing undefined, and leaves what its `ensures` says.
-- `free`: it asks nothing of its arguments. `known`: whoever holds `meets` has what `Learnt` says. `answers`: what that is, its call's contract
-- allows of the same arguments.
pub record Export
    (statement : Type 1 → Type 2) (n : ℕ) (ps : List (ParamKind n)) (r : ResultKind n) (Ghost : Type 0)
    (requires : (κs : Lfts n) → ArgsD (S n ps r [] 0) κs → Ghost → (w : World) → Pr w)
    (ensures : (κs : Lfts n) → ArgsD (S n ps r [] 0) κs → Ghost → ResD (S n ps r [] 0) κs → AtExit (ended_of n ps r) κs → (w : World) → Pr w)
    (Asked : In n ps) (Learnt Allowed : Out n ps r) : Type 2 where
  pub meets : {M : Type 1} → statement M
  pub free : (κs : Lfts n) (a : Dens κs ps) → Asked κs a
  pub known : KnownAs n ps r Ghost requires ensures Asked Learnt
  pub answers : (κs : Lfts n) (a : Dens κs ps) (z : (res_t r κs).Denot) (e : AtExit (ended_of n ps r) κs) → Learnt κs a z e → Allowed κs a z e

-- C1: all of them
pub record Exports : Type 2 where
  pub set_up : Export set_up.Statement.statement 1 set_up.Kinds.ps set_up.Kinds.r set_up.Reads.Ghost set_up.Reads.requires set_up.Reads.ensures set_up.Reads.Asked set_up.Reads.Learnt call_set_up.Learnt
  pub tick_in : Export tick_in.Statement.statement 6 tick_in.Kinds.ps tick_in.Kinds.r tick_in.Reads.Ghost tick_in.Reads.requires tick_in.Reads.ensures tick_in.Reads.Asked tick_in.Reads.Learnt call_tick_in.Learnt
  pub heard_in : Export heard_in.Statement.statement 6 heard_in.Kinds.ps heard_in.Kinds.r heard_in.Reads.Ghost heard_in.Reads.requires heard_in.Reads.ensures heard_in.Reads.Asked heard_in.Reads.Learnt call_heard_in.Learnt
  pub entry : Export entry.Statement.statement 1 entry.Kinds.ps entry.Kinds.r entry.Reads.Ghost entry.Reads.requires entry.Reads.ensures entry.Reads.Asked entry.Reads.Learnt call_entry.Learnt
  pub entry_price : Export entry_price.Statement.statement 2 entry_price.Kinds.ps entry_price.Kinds.r entry_price.Reads.Ghost entry_price.Reads.requires entry_price.Reads.ensures entry_price.Reads.Asked entry_price.Reads.Learnt call_entry_price.Learnt
  pub quantity : Export quantity.Statement.statement 1 quantity.Kinds.ps quantity.Kinds.r quantity.Reads.Ghost quantity.Reads.requires quantity.Reads.ensures quantity.Reads.Asked quantity.Reads.Learnt call_quantity.Learnt
  pub cursor : Export cursor.Statement.statement 1 cursor.Kinds.ps cursor.Kinds.r cursor.Reads.Ghost cursor.Reads.requires cursor.Reads.ensures cursor.Reads.Asked cursor.Reads.Learnt call_cursor.Learnt
  pub next : Export next.Statement.statement 2 next.Kinds.ps next.Kinds.r next.Reads.Ghost next.Reads.requires next.Reads.ensures next.Reads.Asked next.Reads.Learnt call_next.Learnt
  pub step_price : Export step_price.Statement.statement 2 step_price.Kinds.ps step_price.Kinds.r step_price.Reads.Ghost step_price.Reads.requires step_price.Reads.ensures step_price.Reads.Asked step_price.Reads.Learnt call_step_price.Learnt
  pub group : Export group.Statement.statement 1 group.Kinds.ps group.Kinds.r group.Reads.Ghost group.Reads.requires group.Reads.ensures group.Reads.Asked group.Reads.Learnt call_group.Learnt
  pub join_in : Export join_in.Statement.statement 6 join_in.Kinds.ps join_in.Kinds.r join_in.Reads.Ghost join_in.Reads.requires join_in.Reads.ensures join_in.Reads.Asked join_in.Reads.Learnt call_join_in.Learnt
  pub frame : Export frame.Statement.statement 1 frame.Kinds.ps frame.Kinds.r frame.Reads.Ghost frame.Reads.requires frame.Reads.ensures frame.Reads.Asked frame.Reads.Learnt call_frame.Learnt
  pub judge : Export judge.Statement.statement 1 judge.Kinds.ps judge.Kinds.r judge.Reads.Ghost judge.Reads.requires judge.Reads.ensures judge.Reads.Asked judge.Reads.Learnt call_judge.Learnt
  pub order : Export order.Statement.statement 1 order.Kinds.ps order.Kinds.r order.Reads.Ghost order.Reads.requires order.Reads.ensures order.Reads.Asked order.Reads.Learnt call_order.Learnt
  pub trade : Export trade.Statement.statement 1 trade.Kinds.ps trade.Kinds.r trade.Reads.Ghost trade.Reads.requires trade.Reads.ensures trade.Reads.Asked trade.Reads.Learnt call_trade.Learnt
  pub channel_heartbeat : Export channel_heartbeat.Statement.statement 1 channel_heartbeat.Kinds.ps channel_heartbeat.Kinds.r channel_heartbeat.Reads.Ghost channel_heartbeat.Reads.requires channel_heartbeat.Reads.ensures channel_heartbeat.Reads.Asked channel_heartbeat.Reads.Learnt call_channel_heartbeat.Learnt
  pub resend : Export resend.Statement.statement 1 resend.Kinds.ps resend.Kinds.r resend.Reads.Ghost resend.Reads.requires resend.Reads.ensures resend.Reads.Asked resend.Reads.Learnt call_resend.Learnt
  pub snapshot : Export snapshot.Statement.statement 1 snapshot.Kinds.ps snapshot.Kinds.r snapshot.Reads.Ghost snapshot.Reads.requires snapshot.Reads.ensures snapshot.Reads.Asked snapshot.Reads.Learnt call_snapshot.Learnt
  pub index : Export index.Statement.statement 1 index.Kinds.ps index.Kinds.r index.Reads.Ghost index.Reads.requires index.Reads.ensures index.Reads.Asked index.Reads.Learnt call_index.Learnt
  pub volume_index : Export volume_index.Statement.statement 1 volume_index.Kinds.ps volume_index.Kinds.r volume_index.Reads.Ghost volume_index.Reads.requires volume_index.Reads.ensures volume_index.Reads.Asked volume_index.Reads.Learnt call_volume_index.Learnt
  pub statistics : Export statistics.Statement.statement 1 statistics.Kinds.ps statistics.Kinds.r statistics.Reads.Ghost statistics.Reads.requires statistics.Reads.ensures statistics.Reads.Asked statistics.Reads.Learnt call_statistics.Learnt
  pub security_status : Export security_status.Statement.statement 1 security_status.Kinds.ps security_status.Kinds.r security_status.Reads.Ghost security_status.Reads.requires security_status.Reads.ensures security_status.Reads.Asked security_status.Reads.Learnt call_security_status.Learnt
  pub request_in : Export request_in.Statement.statement 2 request_in.Kinds.ps request_in.Kinds.r request_in.Reads.Ghost request_in.Reads.requires request_in.Reads.ensures request_in.Reads.Asked request_in.Reads.Learnt call_request_in.Learnt
  pub stream_new : Export stream_new.Statement.statement 0 stream_new.Kinds.ps stream_new.Kinds.r stream_new.Reads.Ghost stream_new.Reads.requires stream_new.Reads.ensures stream_new.Reads.Asked stream_new.Reads.Learnt call_stream_new.Learnt
  pub stream_push : Export stream_push.Statement.statement 2 stream_push.Kinds.ps stream_push.Kinds.r stream_push.Reads.Ghost stream_push.Reads.requires stream_push.Reads.ensures stream_push.Reads.Asked stream_push.Reads.Learnt call_stream_push.Learnt
  pub stream_end : Export stream_end.Statement.statement 1 stream_end.Kinds.ps stream_end.Kinds.r stream_end.Reads.Ghost stream_end.Reads.requires stream_end.Reads.ensures stream_end.Reads.Asked stream_end.Reads.Learnt call_stream_end.Learnt
  pub write_order : Export write_order.Statement.statement 3 write_order.Kinds.ps write_order.Kinds.r write_order.Reads.Ghost write_order.Reads.requires write_order.Reads.ensures write_order.Reads.Asked write_order.Reads.Learnt call_write_order.Learnt
  pub write_trade : Export write_trade.Statement.statement 3 write_trade.Kinds.ps write_trade.Kinds.r write_trade.Reads.Ghost write_trade.Reads.requires write_trade.Reads.ensures write_trade.Reads.Asked write_trade.Reads.Learnt call_write_trade.Learnt
  pub write_channel_heartbeat : Export write_channel_heartbeat.Statement.statement 3 write_channel_heartbeat.Kinds.ps write_channel_heartbeat.Kinds.r write_channel_heartbeat.Reads.Ghost write_channel_heartbeat.Reads.requires write_channel_heartbeat.Reads.ensures write_channel_heartbeat.Reads.Asked write_channel_heartbeat.Reads.Learnt call_write_channel_heartbeat.Learnt
  pub write_resend : Export write_resend.Statement.statement 3 write_resend.Kinds.ps write_resend.Kinds.r write_resend.Reads.Ghost write_resend.Reads.requires write_resend.Reads.ensures write_resend.Reads.Asked write_resend.Reads.Learnt call_write_resend.Learnt
  pub write_snapshot : Export write_snapshot.Statement.statement 3 write_snapshot.Kinds.ps write_snapshot.Kinds.r write_snapshot.Reads.Ghost write_snapshot.Reads.requires write_snapshot.Reads.ensures write_snapshot.Reads.Asked write_snapshot.Reads.Learnt call_write_snapshot.Learnt
  pub write_index : Export write_index.Statement.statement 3 write_index.Kinds.ps write_index.Kinds.r write_index.Reads.Ghost write_index.Reads.requires write_index.Reads.ensures write_index.Reads.Asked write_index.Reads.Learnt call_write_index.Learnt
  pub write_volume_index : Export write_volume_index.Statement.statement 3 write_volume_index.Kinds.ps write_volume_index.Kinds.r write_volume_index.Reads.Ghost write_volume_index.Reads.requires write_volume_index.Reads.ensures write_volume_index.Reads.Asked write_volume_index.Reads.Learnt call_write_volume_index.Learnt
  pub write_statistics : Export write_statistics.Statement.statement 3 write_statistics.Kinds.ps write_statistics.Kinds.r write_statistics.Reads.Ghost write_statistics.Reads.requires write_statistics.Reads.ensures write_statistics.Reads.Asked write_statistics.Reads.Learnt call_write_statistics.Learnt
  pub write_security_status : Export write_security_status.Statement.statement 3 write_security_status.Kinds.ps write_security_status.Kinds.r write_security_status.Reads.Ghost write_security_status.Reads.requires write_security_status.Reads.ensures write_security_status.Reads.Asked write_security_status.Reads.Learnt call_write_security_status.Learnt
  pub write_heartbeat : Export write_heartbeat.Statement.statement 3 write_heartbeat.Kinds.ps write_heartbeat.Kinds.r write_heartbeat.Reads.Ghost write_heartbeat.Reads.requires write_heartbeat.Reads.ensures write_heartbeat.Reads.Asked write_heartbeat.Reads.Learnt call_write_heartbeat.Learnt
