-- Two answers that meet a promise are one.
use Prim.Native.Nat.{ℕ}
use mathlib.Core.Path.{◌≡◌, refl, ap, sym, ◌∙◌}
use mathlib.Core.List.{List}
use mathlib.Core.Bool.{cond}
use lib.Dec.{eqb}
use lib.IntN.{ℤ}
use Rattle.wire.specs.Answer.{Answer, accepted, refused}
use Rattle.wire.specs.Refusal.{output_short, no_such_channel, number_too_low, table_full}
use Rattle.gaps.specs.Channel.{ArrivalSaid, new, late, duplicate, heard, before_start}
use Rattle.tracker.specs.declared.Tracker.{Tracker}
use Rattle.std.specs.Prelude.{Some, None, Ok, Err}
use Rattle.tracker.specs.declared.News.TheVariants.{New, Late, Duplicate, Heard, BeforeStart}
use Rattle.tracker.specs.declared.Refusal.TheVariants.{NoSuchChannel, NumberTooLow, TableFull, Malformed}
use Rattle.tracker.specs.declared.Reply.{Reply}
use Rattle.tracker.specs.declared.Started.{Started}
use Rattle.tracker.specs.declared.RequestRefusal.TheVariants as asked
use Rattle.tracker.specs.declared.Joined.{Joined}
use Rattle.tracker.specs.Places.{made, arrays_of}
use Rattle.tracker.specs.Join.{means_joined}
use Rattle.seats.specs.Arrays.{Arrays}
use Rattle.joins.specs.Join as joining
use Rattle.joins.proofs.Unique.{one-join as arrays-one}
use Rattle.tracker.specs.SetUp as begin
use Rattle.tracker.specs.Arrived.{Arrival, Outcome, Verdict, arrive, arrival_said, means_reply}
use Rattle.tracker.specs.Request as request

-- the verdict that a number or a word names
unfoldable pub named : Answer ArrivalSaid → Verdict
named (accepted new) = Ok New
named (accepted late) = Ok Late
named (accepted duplicate) = Ok Duplicate
named (accepted heard) = Ok Heard
named (accepted before_start) = Ok BeforeStart
named (refused n v) = Err (cond (eqb n no_such_channel) NoSuchChannel (cond (eqb n number_too_low) NumberTooLow (cond (eqb n table_full) TableFull Malformed)))

named-said : (v : Verdict) → named (arrival_said v) ≡ v
unfolding named
named-said (Ok New) = refl
named-said (Ok Late) = refl
named-said (Ok Duplicate) = refl
named-said (Ok Heard) = refl
named-said (Ok BeforeStart) = refl
named-said (Err NoSuchChannel) = refl
named-said (Err NumberTooLow) = refl
named-said (Err TableFull) = refl
named-said (Err Malformed) = refl

abbrev reply_of : Verdict → Tracker → Reply
reply_of v t = record { verdict = v; next = t }

-- an arrival leaves one answer and one next tracker
pub one_answer : (t : Tracker) (a : Arrival) (r s : Reply) → means_reply r ≡ arrive t a → means_reply s ≡ arrive t a → r ≡ s
one_answer t a r s p q =
    let e : means_reply r ≡ means_reply s = p ∙ sym q in
    let v : r.verdict ≡ s.verdict = sym (named-said r.verdict) ∙ ap (λ (o : Outcome). named o.said) e ∙ named-said s.verdict in
    let n : r.next ≡ s.next = ap (λ (o : Outcome). o.next) e in
    let z : reply_of r.verdict r.next ≡ reply_of s.verdict s.next = rw (v, n) in z

started : Answer Unit → begin.Start
started (accepted u) = Ok u
started (refused n v) = Err (record {})

started_said : (v : begin.Start) → started (begin.set_up_said v) ≡ v
unfolding started
started_said (Ok x) = refl
started_said (Err x) = refl

abbrev started_of : begin.Start → Tracker → Started
started_of v t = record { verdict = v; tracker = t }

-- a set-up leaves one answer and one tracker
pub one_set_up : (numbers : List ℕ) (from : List ℤ) (r s : Started) → begin.means_started r ≡ begin.set_up numbers from → begin.means_started s ≡ begin.set_up numbers from → r ≡ s
one_set_up numbers from r s p q =
    let e : begin.means_started r ≡ begin.means_started s = p ∙ sym q in
    let v : r.verdict ≡ s.verdict = sym (started_said r.verdict) ∙ ap (λ (o : begin.Ready). started o.said) e ∙ started_said s.verdict in
    let n : r.tracker ≡ s.tracker = ap (λ (o : begin.Ready). o.tracker) e in
    let z : started_of r.verdict r.tracker ≡ started_of s.verdict s.tracker = rw (v, n) in z

requested_of : Answer request.RequestSaid → request.Requested
requested_of (accepted (request.written n)) = Ok (Some n)
requested_of (accepted request.nothing) = Ok None
requested_of (refused n v) = Err (cond (eqb n no_such_channel) asked.NoSuchChannel (cond (eqb n output_short) asked.OutputShort asked.Malformed))

requested_of_lem : (x : request.Requested) → requested_of (request.means_requested x) ≡ x
unfolding requested_of
requested_of_lem (Ok (Some n)) = refl
requested_of_lem (Ok None) = refl
requested_of_lem (Err asked.Malformed) = refl
requested_of_lem (Err asked.NoSuchChannel) = refl
requested_of_lem (Err asked.OutputShort) = refl

-- an answer and an output that meet the request's promise
pub record Meets (t : Tracker) (k : ℕ) (out : List ℕ) (x : request.Requested) (after : List ℕ) : Type 0 where
  pub answers : request.means_requested x ≡ request.request t k out
  pub leaves : after ≡ request.request_leaves t k out

-- a request leaves one answer and one content of the output
pub one-request : (t : Tracker) (k : ℕ) (out : List ℕ) (x y : request.Requested) (u v : List ℕ) → Meets t k out x u → Meets t k out y v → (x ≡ y) × (u ≡ v)
one-request t k out x y u v p q =
    (sym (requested_of_lem x) ∙ ap requested_of (p.answers ∙ sym q.answers) ∙ requested_of_lem y, p.leaves ∙ sym q.leaves)

abbrev joined_of : joining.JoinVerdict → Arrays → Joined
joined_of v a = record { verdict = v; next = made a }

-- a join leaves one answer and one next tracker
pub one-join : (t u : Tracker) (r s : Joined) → joining.Joins (arrays_of t) (arrays_of u) (means_joined r) → joining.Joins (arrays_of t) (arrays_of u) (means_joined s) → r ≡ s
one-join t u r s p q =
    let e = arrays-one (arrays_of t) (arrays_of u) (arrays_of r.next) (arrays_of s.next) r.verdict s.verdict p q in
    λ i. joined_of (e.0 i) (e.1 i)
