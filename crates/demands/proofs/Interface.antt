-- The C interface answers what the library's calls can answer; its numbers, its round trips, and arrivals played into lent arrays.
-- Assumes nothing.
use Prim.Native.Nat.{ℕ, ◌+◌, ◌<◌, ◌≤◌}
use mathlib.Core.Path.{◌≡◌, refl, ap, sym, subst, ◌∙◌}
use mathlib.Core.Logic.{inl, inr}
use mathlib.Core.List.{List, [], ◌∷◌, ◌++◌}
use native.Mathlib.Omega.{arith}
use lib.IntN.{ℤ}
use lib.ListN.{length, take, drop}
use lib.Seq.{take-append_seam}
use Rattle.wire.specs.Answer.{Answer, accepted, refused}
use Rattle.wire.specs.Bytes.{Bytes, part}
use Rattle.frame.specs.Framing.{read, body_of, header_width, body_limit}
use Rattle.frame.specs.declared.Frame.{Frame}
use Rattle.layout.specs.Layout.{Message, fields, type_number, Listed, listed, unlisted, named, values, texts}
use Rattle.layout.specs.Group.{judge_body}
use Rattle.record.specs.Asked.{WithTexts, filled, once_accepted, Asked, found, no_such_entry, judge_listed}
use Rattle.record.specs.Record.{Reading, known, unknown, read_as, read_listed, read_body, read_frame, group_of, groups_as, groups_of}
use Rattle.record.specs.Paper.{means_record}
use Rattle.record.specs.declared.Record.{Record}
use Rattle.record.proofs.Choice.{named_as, named_back, reads_as}
use Rattle.record.proofs.Unique.{one_record}
use Rattle.entries.specs.Entry.{Entry, Stepped, entry_of, step, entry_found}
use Rattle.entries.specs.Paper.{means_cursor}
use Rattle.entries.specs.declared.cursor.Cursor.{Cursor}
use Rattle.bodies.specs.Body.{text_size}
use Rattle.writer.specs.Write as writing
use Rattle.tracker.specs.declared.Tracker.{Tracker}
use Rattle.tracker.specs.declared.Reply.{Reply}
use Rattle.tracker.specs.SetUp.{set_up}
use Rattle.gaps.specs.Channel.{ArrivalSaid, new, late, duplicate, heard, before_start}
use Rattle.tracker.specs.Arrived.{Arrival, Outcome, arrive, arrival_said}
use Rattle.tracker.specs.Request as asking
use Rattle.tracker.proofs.Unique as tracker
use Rattle.wire.specs.Number.{plain, unknown_number, answer_number}
use Rattle.orizhgum.specs.Framed.{frame_answer}
use Rattle.orizhgum.specs.Streamed.{said_answer, stream_answer}
use Rattle.orizhgum.specs.declared.streamed.StreamAnswer.{StreamAnswer}
use Rattle.streams.specs.Stream.{Said, frame, more, end, Told, pushed, ended}
use Rattle.streams.specs.declared.Stream.{Stream}
use Rattle.demands.proofs.Streams.{push-judged, end-judged}
use Rattle.orizhgum.specs.Records.{judged_number, RecordAnswer, answer_as, record_answer}
use Rattle.orizhgum.specs.Groups.{group_with, group_answer}
use Rattle.prices.specs.Entries.{Price, here, none, price_of, price_number, price_left, pricing, priced_left, entry_answer, step_answer}
use Rattle.orizhgum.specs.Quantity.{quantity_answer}
use Rattle.orizhgum.specs.Arrivals.{Arrived, said_number, start_answer, arrival_answer}
use Rattle.orizhgum.specs.Written.{write_answer}
use Rattle.orizhgum.specs.Requested.{request_answer}
use Rattle.orizhgum.specs.declared.FrameAnswer.{FrameAnswer}
use Rattle.orizhgum.specs.declared.groups.Grouped.{Grouped}
use Rattle.prices.specs.declared.entry.EntryAnswer.{EntryAnswer}
use Rattle.prices.specs.declared.entry.StepAnswer.{StepAnswer}
use Rattle.orizhgum.specs.declared.entry.QuantityAnswer.{QuantityAnswer}
use Rattle.orizhgum.specs.declared.arrivals.StartAnswer.{StartAnswer}
use Rattle.orizhgum.specs.declared.written.WriteAnswer.{WriteAnswer}
use Rattle.demands.specs.Calls.{Arrives}
use Rattle.demands.specs.Rules as rules
use Rattle.demands.specs.Rules.{Rule, ◌if◌, Judged, Kept}
use Rattle.demands.specs.Conditions.{BodyShort, Strays}
use Rattle.wire.specs.Refusal.{not_its_layout, out_of_range}
use Rattle.demands.specs.Demand1.{writer_rules}
use Rattle.demands.specs.Demand2.{NoTail}
use Rattle.demands.specs.CalledFromC.{RecordFromC, WriteFromC}
use Rattle.demands.specs.Play as play
use Rattle.demands.specs.Play.{Play, Fresh}
use Rattle.demands.specs.Interface as c
use Rattle.demands.specs.Interface.{NoRefusal, NumberBy, Refusals, judged_by, shown_of, SameAnswers, GivesBack, StructsReadBack, StructsSameBytes, Numbered, PlayFromC, Playing, PlaysAsPlayed, StartsFresh}
use Rattle.demands.proofs.Calls.{frame_read_as, stream_new_as, stream_push_as, stream_end_as, judge_as, read_as_lem, group_of_as, entry_of_as, quantity_of_as, start_as, step_as, write_as, set_up_as, arrives_as, request_as}
use Rattle.demands.proofs.Calls as calls
use Rattle.demands.proofs.CalledFromC.{frame-from, stream-new-from, stream-push-from, stream-end-from, judge-from, record_from, group-from, entry-from, entry-price-from, quantity-from, cursor-from, next-from, step-price-from, set_up_from, answered, arrives_from, request-from, write-from}
use Rattle.demands.proofs.Rules.{by_body}
use Rattle.demands.proofs.Demand1 as judging
use Rattle.demands.proofs.Demand1.{by_frame, by_type, group-asked, entry-asked, quantity-asked, stepped, written, started, asked, nothing_written}
use Rattle.demands.proofs.Back.{ReadsAs, length-texts, judged_again, bytes_again}
use Rattle.demands.proofs.Demand2.{back_by, listed-groups}
use Rattle.demands.proofs.Demand3.{every_set_up_gives, answer-named, outcome}

-- ---- numbers

number_by :
    {A : Type 0} {rs : List Rule} {a : Answer A} (num : Answer A → ℕ) → ((x : A) → NoRefusal (num (accepted x))) →
    ((n : ℕ) (vs : List ℕ) → num (refused n vs) ≡ n) → Judged rs a → NumberBy rs (num a)
number_by num f g (rules.success {x}) = c.success (f x)
number_by num f g (rules.here {r} {rs} w) = subst (NumberBy (r ∷ rs)) (sym (g r.number r.values)) (c.here w)
number_by num f g (rules.later n j) = c.later n (number_by num f g j)

told_as : {rs : List Rule} {n m : ℕ} → n ≡ m → NumberBy rs m → NumberBy rs n
told_as {rs} e h = subst (NumberBy rs) (sym e) h

-- a refusal's number is that of a rule
abbrev Positive : List Rule → Type 0
Positive [] = Unit
Positive (r ∷ rs) = (0 < r.number) × Positive rs

positive : {A : Type 0} {rs : List Rule} {a : Answer A} {n : ℕ} {vs : List ℕ} → Positive rs → Judged rs a → a ≡ refused n vs → 0 < n
positive p rules.success e = let z : ◌≡◌ {A = ℕ} 0 1 = cc in absurd (omega arith)
positive {n = n} p (rules.here {r} w) e = let z : r.number ≡ n = cc in omega (arith, p.0)
positive p (rules.later w j) e = positive p.1 j e

-- ---- an answer's number, by kind of answer

judged_by_lem : (l : Listed) (b : List ℕ) → judged_number l b ≡ judged_by l (judge_listed l b)
judged_by_lem (listed m) b = refl
judged_by_lem unlisted b = refl

stream_no : (took : ℕ) (next : Stream) (x : Said) → NoRefusal (said_answer (accepted x) took next).answer
stream_no took next (frame w f) = inl refl
stream_no took next (more vs) = inr (omega arith)
stream_no took next end = inr (omega arith)

stream-number : {rs : List Rule} (t : Told) → Judged rs t.said → NumberBy rs (stream_answer t).answer
stream-number t j = number_by (λ a. (said_answer a t.took t.next).answer) (stream_no t.took t.next) (λ n vs. refl) j

group_no : (ts : List ℕ) (x : Asked (List ℤ)) → NoRefusal (group_with (accepted x) ts).answer
group_no ts (found []) = inl refl
group_no ts (found (z ∷ [])) = inl refl
group_no ts (found (z ∷ (y ∷ vs))) = inl refl
group_no ts no_such_entry = inr (omega arith)

entry_no : (x : Asked Entry) → NoRefusal (entry_answer (accepted x)).answer
unfolding entry_answer
entry_no (found e) = inl refl
entry_no no_such_entry = inr (omega arith)

quantity_no : (x : Asked ℤ) → NoRefusal (quantity_answer (accepted x)).answer
unfolding quantity_answer
quantity_no (found z) = inl refl
quantity_no no_such_entry = inr (omega arith)

step_no : (at : Cursor) (x : Asked Stepped) → NoRefusal (step_answer (accepted x) at).answer
unfolding step_answer
step_no at (found e) = inl refl
step_no at no_such_entry = inr (omega arith)

price_no : (p : Price) → NoRefusal (price_number p)
price_no (here z) = inl refl
price_no none = inr (omega arith)

pricing_no : (x : Asked Entry) → NoRefusal (pricing (accepted x))
unfolding pricing
pricing_no (found e) = price_no (price_of e.says)
pricing_no no_such_entry = inr (omega arith)

said_no : (x : ArrivalSaid) → NoRefusal (said_number (accepted x))
said_no new = inl refl
said_no late = inr (omega arith)
said_no duplicate = inr (omega arith)
said_no heard = inl refl
said_no before_start = inr (omega arith)

request_no : (x : asking.RequestSaid) → NoRefusal (request_answer (accepted x)).answer
unfolding request_answer
request_no (asking.written n) = inl refl
request_no asking.nothing = inr (omega arith)

-- ---- what is left

price-left : (p : Price) (z : ℤ) → (price_number p ≡ plain → ⊥) → price_left p z ≡ z
price-left (here p) z h = absurd (h refl)
price-left none z h = refl

priced_left_lem : (a : Answer (Asked Entry)) (z : ℤ) → (pricing a ≡ plain → ⊥) → priced_left a z ≡ z
unfolding pricing priced_left
priced_left_lem (accepted (found e)) z h = price-left (price_of e.says) z h
priced_left_lem (accepted no_such_entry) z h = refl
priced_left_lem (refused n vs) z h = refl

step_left : (a : Answer (Asked Stepped)) (at : Cursor) → ((step_answer a at).answer ≡ plain → ⊥) → (step_answer a at).next ≡ at
unfolding step_answer
step_left (accepted (found x)) at h = absurd (h refl)
step_left (accepted no_such_entry) at h = refl
step_left (refused n vs) at h = refl

-- an answer whose refusals leave things, and whose acceptances are plain
plain-left :
    {A S : Type 0} {rs : List Rule} (a : Answer A) {stood left : S} → Kept rs a stood left → (answer_number a ≡ plain → ⊥) → left ≡ stood
plain-left (accepted x) k h = absurd (h refl)
plain-left (refused n vs) k h = k.same n vs refl

kept_left :
    {A S : Type 0} {rs : List Rule} (a : Answer A) (num : Answer A → ℕ) {stood left : S} → ((x : A) → NoRefusal (num (accepted x))) → Kept rs a stood left →
    (NoRefusal (num a) → ⊥) → left ≡ stood
kept_left (accepted x) num f k h = absurd (h (f x))
kept_left (refused n vs) num f k h = k.same n vs refl

write-number : (a : Answer ℕ) → (write_answer a).answer ≡ answer_number a
unfolding write_answer
write-number (accepted n) = refl
write-number (refused n vs) = refl

request-left :
    (t : Tracker) (k : ℕ) (out : List ℕ) (a : Answer asking.RequestSaid) → asking.request t k out ≡ a → ((request_answer a).answer ≡ plain → ⊥) → asking.request_leaves t k out ≡ out
unfolding request_answer
request-left t k out (accepted (asking.written n)) e h = absurd (h refl)
request-left t k out (accepted asking.nothing) e h = nothing_written t k out e
request-left t k out (refused n vs) e h = (asked t k out).same n vs e

-- ---- demand 1

judge-number : (l : Listed) (b : List ℕ) → NumberBy (not_its_layout if BodyShort l b ∷ out_of_range if Strays l b ∷ []) (judged_number l b)
judge-number (listed m) b = number_by answer_number (λ x. inl refl) (λ n vs. refl) (by_body (listed m) b)
judge-number unlisted b = c.later (λ z. z) (c.later (λ z. z) (c.success {n = unknown_number} (inr (omega arith))))

-- a step that gives its price plainly is answered plainly
priced_plain : (s : Answer (Asked Stepped)) (c : Cursor) → pricing (entry_found s) ≡ plain → (step_answer s c).answer ≡ plain
unfolding pricing step_answer
priced_plain (accepted (found x)) c e = refl
priced_plain (accepted no_such_entry) c e = e
priced_plain (refused n vs) c e = e

-- the price at a cursor is that of the step's entry
found_number : {rs : List Rule} (a : Answer (Asked Stepped)) → Judged rs a → NumberBy rs (pricing (entry_found a))
unfolding pricing
found_number a j = number_by (λ x. pricing (entry_found x)) found_no (λ n vs. refl) j
  where
    found_no : (x : Asked Stepped) → NoRefusal (pricing (entry_found (accepted x)))
    found_no (found e) = price_no (price_of e.entry.says)
    found_no no_such_entry = inr (omega arith)

pub refusals : Refusals
unfolding entry_answer quantity_answer pricing step_answer group_answer request_answer record_answer
refusals =
    record {
      frame = λ s r h. told_as (ap (λ (x : FrameAnswer). x.answer) (frame-from h)) (number_by (λ a. (frame_answer a).answer) (λ x. inl refl) (λ n vs. refl) (by_frame s));
      stream_push = λ st buffer c r left h. told_as (ap (λ (x : StreamAnswer). x.answer) (stream-push-from h).0) (stream-number (pushed header_width body_limit st buffer c) (push-judged st buffer c));
      stream_end = λ st buffer r h. told_as (ap (λ (x : StreamAnswer). x.answer) (stream-end-from h)) (stream-number (ended header_width body_limit st buffer) (end-judged st buffer));
      judge = λ type b n h. told_as (judge-from h) (judge-number (named type) b);
      record_of = λ m b n x ts h. told_as (ap (λ (y : RecordAnswer). y.answer) (record_from h) ∙ ap (λ (y : WithTexts Reading). answer_number y.answer) (reads_as b m refl)) (number_by answer_number (λ y. inl refl) (λ k vs. refl) (by_type (type_number m) b));
      group = λ type b i r h. told_as (ap (λ (x : Grouped). x.answer) (group-from h)) (number_by (λ a. (group_with a (group_of type b i).texts).answer) (group_no (group_of type b i).texts) (λ n vs. refl) (group-asked type b i).judged);
      entry = λ type b i r h. told_as (ap (λ (x : EntryAnswer). x.answer) (entry-from h)) (number_by (λ a. (entry_answer a).answer) entry_no (λ n vs. refl) (entry-asked type b i).judged);
      entry_price_call = λ type b i z n left h. record {
        number = told_as (entry-price-from h).0 (number_by pricing pricing_no (λ n vs. refl) (entry-asked type b i).judged);
        same = λ k. (entry-price-from h).1 ∙ priced_left_lem (entry_of type b i) z (λ e. k ((entry-price-from h).0 ∙ e));
      };
      quantity = λ type b i j r h. told_as (ap (λ (x : QuantityAnswer). x.answer) (quantity-from h)) (number_by (λ a. (quantity_answer a).answer) quantity_no (λ n vs. refl) (quantity-asked type b i j).judged);
      next = λ at type b z r left h. record {
        number = told_as (ap (λ (x : StepAnswer). x.answer) (next-from h).0) (number_by (λ a. (step_answer a at).answer) (step_no at) (λ n vs. refl) (stepped type b (means_cursor at)).judged);
        same = λ k. ap (λ (x : StepAnswer). x.next) (next-from h).0 ∙ step_left (step (named type) b (means_cursor at)) at (λ e. k (ap (λ (x : StepAnswer). x.answer) (next-from h).0 ∙ e));
      };
      next_price = λ at type b z r left h. record {
        number = told_as (ap (λ (x : StepAnswer). x.answer) (next-from h).0) (number_by (λ a. (step_answer a at).answer) (step_no at) (λ n vs. refl) (stepped type b (means_cursor at)).judged);
        same = λ k. (next-from h).1 ∙ priced_left_lem (entry_found (step (named type) b (means_cursor at))) z (λ e. k (ap (λ (x : StepAnswer). x.answer) (next-from h).0 ∙ priced_plain (step (named type) b (means_cursor at)) at e));
      };
      step_price = λ at type b z n left h. record {
        number = told_as (step-price-from h).0 (found_number (step (named type) b (means_cursor at)) (stepped type b (means_cursor at)).judged);
        same = λ k. (step-price-from h).1 ∙ priced_left_lem (entry_found (step (named type) b (means_cursor at))) z (λ e. k ((step-price-from h).0 ∙ e));
      };
      set_up_call = λ numbers from r h. record {
        number = told_as (ap (λ (x : StartAnswer). x.answer) (set_up_from h)) (number_by answer_number (λ x. inl refl) (λ n vs. refl) (started numbers from).judged);
        same = λ k. ap (λ (x : StartAnswer). x.tracker) (set_up_from h) ∙ plain-left (set_up numbers from).said (started numbers from) (λ e. k (ap (λ (x : StartAnswer). x.answer) (set_up_from h) ∙ e));
      };
      arrival = λ t a n u h. record {
        number = told_as (ap (λ (x : Arrived). x.answer) (arrives_from h)) (number_by said_number said_no (λ n vs. refl) (judging.arrives t a.channel a.event).judged);
        same = λ k. ap (λ (x : Arrived). x.next) (arrives_from h) ∙ kept_left (arrive t a).said said_number said_no (judging.arrives t a.channel a.event) (λ e. k (subst NoRefusal (sym (ap (λ (x : Arrived). x.answer) (arrives_from h))) e));
      };
      request = λ t k out r after h. record {
        number = told_as (ap (λ (x : WriteAnswer). x.answer) (request-from h).0) (number_by (λ a. (request_answer a).answer) request_no (λ n vs. refl) (asked t k out).judged);
        same = λ g. (request-from h).1 ∙ request-left t k out (asking.request t k out) refl (λ e. g (ap (λ (x : WriteAnswer). x.answer) (request-from h).0 ∙ e));
      };
      write = λ x ts gs out r after h.
          let e : r.answer ≡ answer_number (writing.write (means_record x) ts gs out) = ap (λ (y : WriteAnswer). y.answer) (write-from h).0 ∙ write-number (writing.write (means_record x) ts gs out) in
          record {
            number = told_as e (number_by answer_number (λ y. inl refl) (λ n vs. refl) (written (means_record x) ts gs out).judged);
            same = λ k. (write-from h).1 ∙ plain-left (writing.write (means_record x) ts gs out) (written (means_record x) ts gs out) (λ f. k (e ∙ f));
          };
    }

-- ---- fields, texts and outputs

pub same_answers : SameAnswers
unfolding record_answer
same_answers =
    record {
      frame = λ s r a h p. frame-from h ∙ ap frame_answer (sym (frame_read_as p));
      stream_new = λ r a h p. stream-new-from h ∙ sym (stream_new_as p);
      stream_push = λ st buffer c r left a after h p. ((stream-push-from h).0 ∙ ap stream_answer (sym (stream_push_as p).0), (stream-push-from h).1 ∙ sym (stream_push_as p).1);
      stream_end = λ st buffer r a h p. stream-end-from h ∙ ap stream_answer (sym (stream_end_as p));
      judge = λ type b n a h p. judge-from h ∙ judged_by_lem (named type) b ∙ ap (judged_by (named type)) (sym (judge_as p));
      record_of = λ m b n x ts a h p. record_from h ∙ ap (shown_of m) (reads_as b m refl) ∙ ap (shown_of m) (sym (read_as_lem p));
      group = λ type b i r a h p. group-from h ∙ ap group_answer (sym (group_of_as p));
      entry = λ type b i r a h p. entry-from h ∙ ap entry_answer (sym (entry_of_as p));
      entry_price_call = λ type b i z n left a h p. ((entry-price-from h).0 ∙ ap pricing (sym (entry_of_as p)), (entry-price-from h).1 ∙ ap (λ x. priced_left x z) (sym (entry_of_as p)));
      quantity = λ type b i j r a h p. quantity-from h ∙ ap quantity_answer (sym (quantity_of_as p));
      cursor = λ type b r a h p. cursor-from h ∙ sym (start_as p);
      next = λ at type b z r left a h p. ((next-from h).0 ∙ ap (λ x. step_answer x at) (sym (step_as p)), (next-from h).1 ∙ ap (λ x. priced_left (entry_found x) z) (sym (step_as p)));
      step_price = λ at type b z n left a h p. ((step-price-from h).0 ∙ ap (λ x. pricing (entry_found x)) (sym (step_as p)), (step-price-from h).1 ∙ ap (λ x. priced_left (entry_found x) z) (sym (step_as p)));
      set_up_call = λ numbers from r a h p. set_up_from h ∙ ap start_answer (sym (set_up_as p));
      arrival = λ t e n u a h p. (ap (λ (x : Arrived). x.answer) (arrives_from h) ∙ ap (λ (o : Outcome). said_number o.said) (sym (arrives_as p)), ap (λ (x : Arrived). x.next) (arrives_from h) ∙ ap (λ (o : Outcome). o.next) (sym (arrives_as p)));
      request = λ t k out r after a left h p. ((request-from h).0 ∙ ap request_answer (sym (request_as p).answers), (request-from h).1 ∙ sym (request_as p).leaves);
      write = λ x ts gs out r after a left h p. ((write-from h).0 ∙ ap write_answer (sym (write_as p).answers), (write-from h).1 ∙ sym (write_as p).leaves);
    }

-- ---- demand 2

-- an answer that shows plainly was accepted
record Whole (a : Answer Frame) : Type 0 where
  pub frame : Frame
  pub is : a ≡ accepted frame

frame-plain : {rs : List Rule} (a : Answer Frame) → Positive rs → Judged rs a → (frame_answer a).answer ≡ plain → Whole a
frame-plain (accepted f) p j e = record { frame = f; is = refl }
frame-plain (refused n vs) p j e = absurd (omega (arith, positive p j refl))

write-plain : {rs : List Rule} (a : Answer ℕ) → Positive rs → Judged rs a → (write_answer a).answer ≡ plain → a ≡ accepted (write_answer a).written
unfolding write_answer
write-plain (accepted n) p j e = refl
write-plain (refused n vs) p j e = absurd (omega (arith, positive p j refl))

writer_positive : (x : Reading) (ts gs : List ℕ) (room : ℕ) → Positive (writer_rules x ts gs room)
writer_positive (known m zs) ts gs room = (omega arith, (omega arith, (omega arith, (omega arith, tt))))
writer_positive (unknown type) ts gs room = (omega arith, tt)

reads_here : (s : List ℕ) (f : Frame) → read header_width body_limit s ≡ accepted f → read_frame s ≡ read_body f.kind (body_of header_width (accepted f) s)
unfolding read_frame
reads_here s f e = rw e

-- a body that reads as a record of a listed type is of that type
type_once : (v : Answer Unit) (l m : Message) (zs ys : List ℤ) (ts : List ℕ) → (once_accepted v (known l ys) ts).answer ≡ accepted (known m zs) → l ≡ m
type_once (accepted u) l m zs ys ts e = cc
type_once (refused n vs) l m zs ys ts e = let z : ◌≡◌ {A = ℕ} 0 1 = cc in absurd (omega arith)

type-read : (l : Listed) (type : ℕ) (m : Message) (zs : List ℤ) (b : List ℕ) → (read_listed l type b).answer ≡ accepted (known m zs) → l ≡ listed m
unfolding read_as
type-read (listed l) type m zs b e = ap listed (type_once (judge_body l b) l m zs (values (fields l) b 0) (texts (fields l) b 0) e)
type-read unlisted type m zs b e = let z : ◌≡◌ {A = ℕ} 0 1 = cc in absurd (omega arith)

gives_back :
    (x : Record) (ts gs : List ℕ) (n : ℕ) (s : List ℕ) (b : ReadsAs (means_record x) ts gs n s) → GivesBack x ts gs n s (frame_answer (accepted b.frame))
unfolding record_answer read_body
gives_back x ts gs n s b =
    record {
      plainly = refl;
      bytes = b.total;
      kind = λ m zs e. named_back m b.frame.kind (type-read (named b.frame.kind) b.frame.kind m zs _ (ap (λ (t : WithTexts Reading). t.answer) (sym (reads_here s b.frame b.framed) ∙ b.fields) ∙ ap accepted e));
      groups = b.groups;
      fields = λ m k y us e h.
          let r = reads_as (part 8 (8 + b.frame.len) s) m {t = b.frame.kind} (sym e) ∙ sym (reads_here s b.frame b.framed) ∙ b.fields in
          let w = record_from h ∙ ap (shown_of m) r in
          (ap (λ (z : RecordAnswer). z.answer) w, one_record y x (ap (λ (z : RecordAnswer). z.numbers) w), ap (λ (z : RecordAnswer). z.texts) w);
    }

pub structs_read_back : StructsReadBack
unfolding writing.write
structs_read_back x ts gs out r after f held h e g =
    let w = write-from h in
    let a = write-plain (writing.write (means_record x) ts gs out) (writer_positive (means_record x) ts gs (length out)) (written (means_record x) ts gs out).judged (sym (ap (λ (y : WriteAnswer). y.answer) w.0) ∙ e) in
    let n = a ∙ ap (λ (y : WriteAnswer). accepted y.written) (sym w.0) in
    let b = subst (ReadsAs (means_record x) ts gs r.written) (sym w.1) (back_by (means_record x) held ts gs out r.written n) in
    subst (GivesBack x ts gs r.written after) (sym (frame-from g ∙ ap frame_answer b.framed)) (gives_back x ts gs r.written after b)

-- what a body that shows plainly reads as
read_plain : (m : Message) (b : List ℕ) → answer_number (read_as m b).answer ≡ plain → judge_body m b ≡ accepted tt
unfolding read_as
read_plain m b e = by (judge_body m b) (by_body (listed m) b) e
  where
    by : (v : Answer Unit) → Judged (not_its_layout if BodyShort (listed m) b ∷ out_of_range if Strays (listed m) b ∷ []) v → answer_number (once_accepted v (known m (values (fields m) b 0)) (texts (fields m) b 0)).answer ≡ plain → v ≡ accepted tt
    by (accepted u) j g = refl
    by (refused n vs) j g = absurd (omega (arith, positive (omega arith, (omega arith, tt)) j refl))

shown_good : (m : Message) (b : List ℕ) → judge_body m b ≡ accepted tt → record_answer m b ≡ record { answer = plain; numbers = known m (values (fields m) b 0); texts = filled (texts (fields m) b 0) }
unfolding record_answer read_as
shown_good m b e = rw e

same_by :
    (s out after : List ℕ) (f : Frame) (m : Message) (y : Record) (us : List ℕ) (r : WriteAnswer) → Bytes s → read header_width body_limit s ≡ accepted f →
    type_number m ≡ f.kind → NoTail m (body_of header_width (accepted f) s) → answer_as plain y us ≡ record_answer m (body_of header_width (accepted f) s) →
    f.total ≤ length out → WriteFromC y (take (text_size (fields m)) us) (groups_of f.kind (body_of header_width (accepted f) s)) out r after →
    (r.answer ≡ plain) × (r.written ≡ f.total) × (after ≡ take f.total s ++ drop f.total out)
unfolding writing.write writing.write_leaves write_answer record_answer
same_by s out after f m y us r bytes e k t h room w =
    let b : List ℕ = body_of header_width (accepted f) s in
    let c : named f.kind ≡ listed m = named_as m (sym k) in
    let good : judge_body m b ≡ accepted tt = read_plain m b (sym (ap (λ (z : RecordAnswer). z.answer) h)) in
    let p = h ∙ shown_good m b good in
    let zs : List ℤ = values (fields m) b 0 in
    let ts : List ℕ = texts (fields m) b 0 in
    let gs : List ℕ = groups_as m b in
    let l = length-texts s f m bytes e c good t out room in
    let q : take (text_size (fields m)) us ≡ ts = rw (ap (λ (z : RecordAnswer). z.texts) p, ← l) (take-append_seam ts _) in
    let g : groups_of f.kind b ≡ gs = listed-groups f.kind m b c in
    let x : means_record y ≡ known m zs = ap (λ (z : RecordAnswer). z.numbers) p in
    let j : writing.write_known m zs ts gs (length out) ≡ accepted f.total = judged_again s f m bytes e c good t out room in
    let a : r ≡ write_answer (accepted f.total) = (write-from w).0 ∙ rw (x, q, g, j) in (
      ap (λ (z : WriteAnswer). z.answer) a,
      ap (λ (z : WriteAnswer). z.written) a,
      (write-from w).1 ∙ rw (x, q, g, j) (bytes_again s f m bytes e c good t out room),
    )

pub structs_same_bytes : StructsSameBytes
structs_same_bytes s out after f m y us r bytes d e k t h room w =
    let v = frame-plain (read header_width body_limit s) (omega arith, (omega arith, (omega arith, (omega arith, tt)))) (by_frame s) (sym (ap (λ (x : FrameAnswer). x.answer) (frame-from d)) ∙ e) in
    subst
    (λ (g : FrameAnswer).
    type_number m ≡ g.kind → NoTail m (part 8 (8 + g.len) s) → RecordFromC m (part 8 (8 + g.len) s) plain y us → g.total ≤ length out →
    WriteFromC y (take (text_size (fields m)) us) (groups_of g.kind (part 8 (8 + g.len) s)) out r after →
    (r.answer ≡ plain) × (r.written ≡ g.total) × (after ≡ take g.total s ++ drop g.total out))
    (sym (frame-from d ∙ ap frame_answer v.is))
    (λ k t h room w. same_by s out after v.frame m y us r bytes v.is k t (record_from h) room w)
    k t h room w

-- ---- demand 3

-- a reply that the library can give
record Replied (t : Tracker) (a : Arrival) (n : ℕ) (u : Tracker) : Type 0 where
  pub reply : Reply
  pub given : Arrives t a reply
  pub number : said_number (arrival_said reply.verdict) ≡ n
  pub next : u ≡ reply.next

replied : (t u : Tracker) (a : Arrival) (n : ℕ) → answered n u ≡ arrival_answer (arrive t a) → Replied t a n u
replied t u a n h =
    let o = arrive t a in
    let w = answer-named t a in
    let reply : Reply = record { verdict = tracker.named o.said; next = o.next } in
    record {
      reply = reply;
      given = calls.arrives t a.channel a.event reply (ap (λ (v : Answer ArrivalSaid). outcome v o.next) w);
      number = ap said_number w ∙ sym (ap (λ (x : Arrived). x.answer) h);
      next = ap (λ (x : Arrived). x.next) h;
    }

played : {t u : Tracker} {l : List Numbered} → PlayFromC t l u → Playing t l u
played c.done = record { steps = []; plays = play.done; says = c.none }
played {t} {u} (c.step {v = v} a n k h p) =
    let x = played p in
    let y = replied t v a n (arrives_from h) in
    record {
      steps = play.turn a (arrival_said y.reply.verdict) ∷ x.steps;
      plays = play.step a y.reply k y.given (subst (λ (w : Tracker). Play w x.steps u) y.next x.plays);
      says = c.one refl y.number x.says;
    }

pub plays_as_played : PlaysAsPlayed
plays_as_played t u l p = played p

said_plain : {rs : List Rule} (a : Answer Unit) → Positive rs → Judged rs a → answer_number a ≡ plain → a ≡ accepted tt
said_plain (accepted x) p j e = refl
said_plain (refused n vs) p j e = absurd (omega (arith, positive p j refl))

pub starts_fresh : StartsFresh
starts_fresh numbers from r h e =
    let s = set_up_from h in
    let g = said_plain (set_up numbers from).said (omega arith, (omega arith, (omega arith, (omega arith, (omega arith, tt))))) (started numbers from).judged (sym (ap (λ (x : StartAnswer). x.answer) s) ∙ e) in
    subst (Fresh numbers from) (sym (ap (λ (x : StartAnswer). x.tracker) s)) (every_set_up_gives numbers from g)
