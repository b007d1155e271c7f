-- Two answers on a record, or on a join, that meet a promise are equal. The promises of the other calls give their answer itself.
-- Assumes nothing.
use mathlib.Core.Path.{◌≡◌, ap, sym, ◌∙◌}
use Rattle.record.specs.declared.Record.TheVariants as is
use Rattle.record.proofs.Unique as records
use Rattle.seats.specs.Arrays.{Arrays}
use Rattle.joins.proofs.Unique.{told_in, holds_told}
use Rattle.orizhgum.specs.Joined.{JoinAnswer, JoinsFromC}
use Rattle.orizhgum.specs.Records.{RecordAnswer, answer_as}
use Rattle.orizhgum.specs.declared.records.OrderAnswer.{OrderAnswer}
use Rattle.orizhgum.specs.declared.records.TradeAnswer.{TradeAnswer}
use Rattle.orizhgum.specs.declared.records.ChannelHeartbeatAnswer.{ChannelHeartbeatAnswer}
use Rattle.orizhgum.specs.declared.records.ResendAnswer.{ResendAnswer}
use Rattle.orizhgum.specs.declared.records.SnapshotAnswer.{SnapshotAnswer}
use Rattle.orizhgum.specs.declared.records.IndexAnswer.{IndexAnswer}
use Rattle.orizhgum.specs.declared.records.VolumeIndexAnswer.{VolumeIndexAnswer}
use Rattle.orizhgum.specs.declared.records.StatisticsAnswer.{StatisticsAnswer}
use Rattle.orizhgum.specs.declared.records.SecurityStatusAnswer.{SecurityStatusAnswer}

pub one-order : (a b : OrderAnswer) → answer_as a.answer (is.Order a.numbers) a.texts ≡ answer_as b.answer (is.Order b.numbers) b.texts → a ≡ b
one-order a b e =
    let n = records.one-order a.numbers b.numbers (ap (λ (h : RecordAnswer). h.numbers) e) in
    λ i. record { answer = (e i).answer; numbers = n i; texts = (e i).texts }

pub one-trade : (a b : TradeAnswer) → answer_as a.answer (is.Trade a.numbers) a.texts ≡ answer_as b.answer (is.Trade b.numbers) b.texts → a ≡ b
one-trade a b e =
    let n = records.one-trade a.numbers b.numbers (ap (λ (h : RecordAnswer). h.numbers) e) in
    λ i. record { answer = (e i).answer; numbers = n i; texts = (e i).texts }

pub one-channel-heartbeat : (a b : ChannelHeartbeatAnswer) → answer_as a.answer (is.ChannelHeartbeat a.numbers) a.texts ≡ answer_as b.answer (is.ChannelHeartbeat b.numbers) b.texts → a ≡ b
one-channel-heartbeat a b e =
    let n = records.one-channel-heartbeat a.numbers b.numbers (ap (λ (h : RecordAnswer). h.numbers) e) in
    λ i. record { answer = (e i).answer; numbers = n i; texts = (e i).texts }

pub one-resend : (a b : ResendAnswer) → answer_as a.answer (is.Resend a.numbers) a.texts ≡ answer_as b.answer (is.Resend b.numbers) b.texts → a ≡ b
one-resend a b e =
    let n = records.one-resend a.numbers b.numbers (ap (λ (h : RecordAnswer). h.numbers) e) in
    λ i. record { answer = (e i).answer; numbers = n i; texts = (e i).texts }

pub one-snapshot : (a b : SnapshotAnswer) → answer_as a.answer (is.Snapshot a.numbers) a.texts ≡ answer_as b.answer (is.Snapshot b.numbers) b.texts → a ≡ b
one-snapshot a b e =
    let n = records.one-snapshot a.numbers b.numbers (ap (λ (h : RecordAnswer). h.numbers) e) in
    λ i. record { answer = (e i).answer; numbers = n i; texts = (e i).texts }

pub one_index : (a b : IndexAnswer) → answer_as a.answer (is.Index a.numbers) a.texts ≡ answer_as b.answer (is.Index b.numbers) b.texts → a ≡ b
one_index a b e =
    let n = records.one_index a.numbers b.numbers (ap (λ (h : RecordAnswer). h.numbers) e) in
    λ i. record { answer = (e i).answer; numbers = n i; texts = (e i).texts }

pub one_volume_index : (a b : VolumeIndexAnswer) → answer_as a.answer (is.VolumeIndex a.numbers) a.texts ≡ answer_as b.answer (is.VolumeIndex b.numbers) b.texts → a ≡ b
one_volume_index a b e =
    let n = records.one_volume_index a.numbers b.numbers (ap (λ (h : RecordAnswer). h.numbers) e) in
    λ i. record { answer = (e i).answer; numbers = n i; texts = (e i).texts }

pub one-statistics : (a b : StatisticsAnswer) → answer_as a.answer (is.Statistics a.numbers) a.texts ≡ answer_as b.answer (is.Statistics b.numbers) b.texts → a ≡ b
one-statistics a b e =
    let n = records.one-statistics a.numbers b.numbers (ap (λ (h : RecordAnswer). h.numbers) e) in
    λ i. record { answer = (e i).answer; numbers = n i; texts = (e i).texts }

pub one-security-status : (a b : SecurityStatusAnswer) → answer_as a.answer (is.SecurityStatus a.numbers) a.texts ≡ answer_as b.answer (is.SecurityStatus b.numbers) b.texts → a ≡ b
one-security-status a b e =
    let n = records.one-security-status a.numbers b.numbers (ap (λ (h : RecordAnswer). h.numbers) e) in
    λ i. record { answer = (e i).answer; numbers = n i; texts = (e i).texts }

-- a join leaves one answer and one content of the arrays
pub one-join : (a b : Arrays) (r s : JoinAnswer) → JoinsFromC a b r → JoinsFromC a b s → r ≡ s
one-join a b r s p q = p (told_in a) (told_in b) (holds_told a) (holds_told b) ∙ sym (q (told_in a) (told_in b) (holds_told a) (holds_told b))
