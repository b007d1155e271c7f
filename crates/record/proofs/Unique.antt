-- Two answers that meet a promise are equal: the rules' terms give each answer of the code back.
-- Assumes nothing.
use Prim.Native.Nat.{ℕ}
use mathlib.Core.Path.{◌≡◌, refl, ap, sym, ◌∙◌}
use mathlib.Core.Bool.{cond}
use mathlib.Core.List.{List, [], ◌∷◌}
use lib.Dec.{eqb}
use lib.IntN.{ℤ, pos, nat_abs}
use lib.ListN.{get_or}
use Rattle.std.specs.Prelude.{Option, Some, None, Ok, Err}
use Rattle.wire.specs.Answer.{Answer, accepted, refused}
use Rattle.wire.specs.Refusal.{too_short, too_long, wrong_sum}
use Rattle.frame.specs.Framing.{missing_by}
use Rattle.frame.specs.declared.Refusal as frame-refusal
use Rattle.layout.specs.Layout.{heartbeat, channel_heartbeat, resend, statistics, security_status, snapshot, index, volume_index, order, trade}
use Rattle.layout.specs.declared.group.Refusal.TheVariants.{NotItsLayout, OutOfRange}
use Rattle.layout.proofs.Unique.{code_refusal, back_refusal}
use Rattle.record.specs.Asked.{WithTexts, Asked, found, no_such_entry}
use Rattle.record.specs.Record as record_of
use Rattle.record.specs.Paper.{Reading, means_record, means_reading, FrameReading, means_frame_reading, GroupReading, means_group_reading}
use Rattle.record.specs.declared.Record.{Record}
use Rattle.record.specs.declared.Record.TheVariants.{Heartbeat, ChannelHeartbeat, Resend, Statistics, SecurityStatus, Snapshot, Index, VolumeIndex, Order, Trade, Unknown}
use Rattle.record.specs.declared.common.Common.{Common}
use Rattle.record.specs.declared.order.Order as code_order
use Rattle.record.specs.declared.trade.Trade as code_trade
use Rattle.record.specs.declared.channel_heartbeat.ChannelHeartbeat as code_channel_heartbeat
use Rattle.record.specs.declared.resend.Resend as code_resend
use Rattle.record.specs.declared.snapshot.Snapshot as code_snapshot
use Rattle.record.specs.declared.index.Index as code_index
use Rattle.record.specs.declared.volume_index.VolumeIndex as code_volume_index
use Rattle.record.specs.declared.statistics.Statistics as code_statistics
use Rattle.record.specs.declared.security_status.SecurityStatus as code_security_status
use Rattle.record.specs.declared.framed.FrameRefusal.{FrameRefusal}
use Rattle.record.specs.declared.framed.FrameRefusal.TheVariants.{Frame, Body}
use Rattle.record.specs.declared.group.Group as code_group
use Rattle.record.specs.declared.group.GroupReading as group_reading
use Rattle.record.specs.declared.texts.Texts.{Texts}

-- value i, with its sign and without
z : List ℤ → ℕ → ℤ
z vs i = get_or vs i (pos 0)

n : List ℤ → ℕ → ℕ
n vs i = nat_abs (z vs i)

common : List ℤ → Common
common vs =
    record {
      time = z vs 0;
      channel = n vs 1;
      previous_close = z vs 2;
      trade_count = z vs 3;
      volume = z vs 4;
      amount = z vs 5;
    }

code_record : record_of.Reading → Record
code_record (record_of.known heartbeat vs) = Heartbeat
code_record (record_of.known channel_heartbeat vs) =
    ChannelHeartbeat (record { channel = n vs 0; last_number = z vs 1; end = n vs 2 })
code_record (record_of.known resend vs) =
    Resend
    (record {
      resend_type = n vs 0;
      channel = n vs 1;
      first_number = z vs 2;
      last_number = z vs 3;
      status = n vs 4;
    })
code_record (record_of.known statistics vs) = Statistics (record { time = z vs 0; channel = n vs 1; count = n vs 2 })
code_record (record_of.known security_status vs) =
    SecurityStatus (record { time = z vs 0; channel = n vs 1; count = n vs 2 })
code_record (record_of.known snapshot vs) = Snapshot (record { common = common vs; count = n vs 6 })
code_record (record_of.known index vs) = Index (record { common = common vs; count = n vs 6 })
code_record (record_of.known volume_index vs) = VolumeIndex (record { common = common vs; stock_number = n vs 6 })
code_record (record_of.known order vs) =
    Order
    (record {
      channel = n vs 0;
      number = z vs 1;
      order_price = z vs 2;
      quantity = z vs 3;
      side = n vs 4;
      time = z vs 5;
      order_type = n vs 6;
    })
code_record (record_of.known trade vs) =
    Trade
    (record {
      channel = n vs 0;
      number = z vs 1;
      bid_number = z vs 2;
      offer_number = z vs 3;
      trade_price = z vs 4;
      quantity = z vs 5;
      execution = n vs 6;
      time = z vs 7;
    })
code_record (record_of.unknown t) = Unknown t

back_record : (r : Record) → code_record (means_record r) ≡ r
unfolding code_record common n z
back_record Heartbeat = refl
back_record (ChannelHeartbeat r) = refl
back_record (Resend r) = refl
back_record (Statistics r) = refl
back_record (SecurityStatus r) = refl
back_record (Snapshot r) = refl
back_record (Index r) = refl
back_record (VolumeIndex r) = refl
back_record (Order r) = refl
back_record (Trade r) = refl
back_record (Unknown t) = refl

pub one_record : (x y : Record) → means_record x ≡ means_record y → x ≡ y
one_record x y e = sym (back_record x) ∙ ap code_record e ∙ back_record y

-- ---- the numbers of one type's bytes

pub one-order : (a b : code_order.Order) → means_record (Order a) ≡ means_record (Order b) → a ≡ b
one-order a b e = cc (one_record (Order a) (Order b) e)

pub one-trade : (a b : code_trade.Trade) → means_record (Trade a) ≡ means_record (Trade b) → a ≡ b
one-trade a b e = cc (one_record (Trade a) (Trade b) e)

pub one-channel-heartbeat : (a b : code_channel_heartbeat.ChannelHeartbeat) → means_record (ChannelHeartbeat a) ≡ means_record (ChannelHeartbeat b) → a ≡ b
one-channel-heartbeat a b e = cc (one_record (ChannelHeartbeat a) (ChannelHeartbeat b) e)

pub one-resend : (a b : code_resend.Resend) → means_record (Resend a) ≡ means_record (Resend b) → a ≡ b
one-resend a b e = cc (one_record (Resend a) (Resend b) e)

pub one-snapshot : (a b : code_snapshot.Snapshot) → means_record (Snapshot a) ≡ means_record (Snapshot b) → a ≡ b
one-snapshot a b e = cc (one_record (Snapshot a) (Snapshot b) e)

pub one_index : (a b : code_index.Index) → means_record (Index a) ≡ means_record (Index b) → a ≡ b
one_index a b e = cc (one_record (Index a) (Index b) e)

pub one_volume_index : (a b : code_volume_index.VolumeIndex) → means_record (VolumeIndex a) ≡ means_record (VolumeIndex b) → a ≡ b
one_volume_index a b e = cc (one_record (VolumeIndex a) (VolumeIndex b) e)

pub one-statistics : (a b : code_statistics.Statistics) → means_record (Statistics a) ≡ means_record (Statistics b) → a ≡ b
one-statistics a b e = cc (one_record (Statistics a) (Statistics b) e)

pub one-security-status : (a b : code_security_status.SecurityStatus) → means_record (SecurityStatus a) ≡ means_record (SecurityStatus b) → a ≡ b
one-security-status a b e = cc (one_record (SecurityStatus a) (SecurityStatus b) e)

-- ---- a body

code_read : Answer record_of.Reading → WithTexts record_of.Reading → Reading
code_read (accepted r) a = Ok (record { «record» = code_record r; texts = record { bytes = a.texts; length = a.used } })
code_read (refused x vs) a = Err (code_refusal x)

code_reading_of : WithTexts record_of.Reading → Reading
code_reading_of a = code_read a.answer a

back_reading : (a : Reading) → code_reading_of (means_reading a) ≡ a
unfolding code_reading_of code_read
back_reading (Ok r) = λ i. Ok (record { «record» = back_record r.record i; texts = r.texts })
back_reading (Err x) = ap Err (back_refusal x)

pub one_reading : (a b : Reading) → means_reading a ≡ means_reading b → a ≡ b
one_reading a b e = sym (back_reading a) ∙ ap code_reading_of e ∙ back_reading b

-- ---- a frame

code_frame_refusal : ℕ → List ℕ → FrameRefusal
code_frame_refusal x vs =
    cond (eqb x too_short) (Frame (frame-refusal.TheVariants.TooShort (missing_by vs)))
    (cond (eqb x too_long) (Frame frame-refusal.TheVariants.TooLong)
    (cond (eqb x wrong_sum) (Frame frame-refusal.TheVariants.WrongSum) (Body (code_refusal x))))

code_frame : Answer record_of.Reading → WithTexts record_of.Reading → FrameReading
code_frame (accepted r) a = Ok (record { «record» = code_record r; texts = record { bytes = a.texts; length = a.used } })
code_frame (refused x vs) a = Err (code_frame_refusal x vs)

code_frame_of : WithTexts record_of.Reading → FrameReading
code_frame_of a = code_frame a.answer a

back_frame : (a : FrameReading) → code_frame_of (means_frame_reading a) ≡ a
unfolding code_frame_of code_frame code_frame_refusal
back_frame (Ok r) = λ i. Ok (record { «record» = back_record r.record i; texts = r.texts })
back_frame (Err (Frame (frame-refusal.TheVariants.TooShort n))) = refl
back_frame (Err (Frame frame-refusal.TheVariants.TooLong)) = refl
back_frame (Err (Frame frame-refusal.TheVariants.WrongSum)) = refl
back_frame (Err (Body NotItsLayout)) = refl
back_frame (Err (Body OutOfRange)) = refl

pub one_frame_reading : (a b : FrameReading) → means_frame_reading a ≡ means_frame_reading b → a ≡ b
one_frame_reading a b e = sym (back_frame a) ∙ ap code_frame_of e ∙ back_frame b

-- ---- a group

code_group_read : List ℤ → WithTexts (Asked (List ℤ)) → Option group_reading.GroupReading
code_group_read [] a = None
code_group_read (x ∷ []) a =
    Some (record { group = code_group.TheVariants.Stream (record { stock_number = nat_abs x }); texts = record { bytes = a.texts; length = a.used } })
code_group_read (x ∷ (y ∷ vs)) a =
    Some (record { group = code_group.TheVariants.Switch (record { switch_type = nat_abs x; yes_no = nat_abs y }); texts = record { bytes = a.texts; length = a.used } })

code_group_answer : Answer (Asked (List ℤ)) → WithTexts (Asked (List ℤ)) → GroupReading
code_group_answer (accepted (found vs)) a = Ok (code_group_read vs a)
code_group_answer (accepted no_such_entry) a = Ok None
code_group_answer (refused x vs) a = Err (code_refusal x)

code_group_of : WithTexts (Asked (List ℤ)) → GroupReading
code_group_of a = code_group_answer a.answer a

back_some : (g : code_group.Group) (t : Texts) → code_group_of (means_group_reading (Ok (Some (record { group = g; texts = t })))) ≡ Ok (Some (record { group = g; texts = t }))
unfolding code_group_of code_group_answer code_group_read
back_some (code_group.TheVariants.Stream r) t = refl
back_some (code_group.TheVariants.Switch r) t = refl

back_group : (a : GroupReading) → code_group_of (means_group_reading a) ≡ a
unfolding code_group_of code_group_answer
back_group (Ok (Some r)) = back_some r.group r.texts
back_group (Ok None) = refl
back_group (Err x) = ap Err (back_refusal x)

pub one_group_reading : (a b : GroupReading) → means_group_reading a ≡ means_group_reading b → a ≡ b
one_group_reading a b e = sym (back_group a) ∙ ap code_group_of e ∙ back_group b
