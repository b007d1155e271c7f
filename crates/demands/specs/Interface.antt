-- The C interface's statements, of every answer that the contracts of its calls allow (specs/CalledFromC).
-- Assumes nothing.
use Rattle.std.specs.Prelude.{ℕ, ◌+◌, ◌≤◌, ◌≡◌, ◌⊎◌, List, [], ◌∷◌, ◌++◌, ℤ, length, take, drop}
use Rattle.wire.specs.Answer.{Answer}
use Rattle.wire.specs.Bytes.{Bytes, part}
use Rattle.frame.specs.Framing as frame
use Rattle.frame.specs.Framing.{Framed}
use Rattle.streams.specs.Paper.{means_pushed}
use Rattle.streams.specs.declared.Stream.{Stream}
use Rattle.streams.specs.declared.Pushed.{Pushed}
use Rattle.layout.specs.Paper.{Verdict}
use Rattle.layout.specs.Paper as layout
use Rattle.layout.specs.Layout.{Message, fields, type_number, Listed, listed, unlisted, named}
use Rattle.record.specs.Asked.{WithTexts, filled}
use Rattle.record.specs.Record as record_of
use Rattle.record.specs.Record.{groups_of}
use Rattle.record.specs.Paper.{means_record, means_reading, means_group_reading}
use Rattle.record.specs.declared.Record.{Record}
use Rattle.record.specs.Paper.{Reading}
use Rattle.record.specs.Paper.{GroupReading}
use Rattle.entries.specs.Entry.{entry_found}
use Rattle.entries.specs.Paper.{means_asked_entry, means_quantity, means_cursor, means_step}
use Rattle.entries.specs.Paper.{AskedEntry}
use Rattle.entries.specs.Paper.{AskedQuantity}
use Rattle.entries.specs.declared.cursor.Cursor.{Cursor}
use Rattle.entries.specs.Paper.{Step}
use Rattle.bodies.specs.Body.{text_size}
use Rattle.writer.specs.Paper as writer
use Rattle.writer.specs.Paper.{Written}
use Rattle.tracker.specs.declared.Tracker.{Tracker}
use Rattle.tracker.specs.declared.Started.{Started}
use Rattle.tracker.specs.declared.Reply.{Reply}
use Rattle.tracker.specs.Request.{Requested}
use Rattle.tracker.specs.SetUp as starting
use Rattle.tracker.specs.Arrived.{Arrival, arrival_said}
use Rattle.tracker.specs.Request as asking
use Rattle.wire.specs.Number.{plain, unknown_number, answer_number}
use Rattle.orizhgum.specs.Framed.{frame_answer}
use Rattle.orizhgum.specs.Records.{RecordAnswer, answer_as, record_in}
use Rattle.orizhgum.specs.Groups.{group_answer}
use Rattle.prices.specs.Entries.{entry_answer, step_answer, pricing, priced_left}
use Rattle.orizhgum.specs.Quantity.{quantity_answer}
use Rattle.orizhgum.specs.Arrivals.{said_number, start_answer}
use Rattle.orizhgum.specs.Written.{write_answer}
use Rattle.orizhgum.specs.Requested.{request_answer}
use Rattle.orizhgum.specs.declared.FrameAnswer.{FrameAnswer}
use Rattle.orizhgum.specs.Streamed.{stream_answer}
use Rattle.orizhgum.specs.declared.streamed.StreamAnswer.{StreamAnswer}
use Rattle.orizhgum.specs.declared.groups.Grouped.{Grouped}
use Rattle.prices.specs.declared.entry.EntryAnswer.{EntryAnswer}
use Rattle.prices.specs.declared.entry.StepAnswer.{StepAnswer}
use Rattle.orizhgum.specs.declared.entry.QuantityAnswer.{QuantityAnswer}
use Rattle.orizhgum.specs.declared.arrivals.StartAnswer.{StartAnswer}
use Rattle.orizhgum.specs.declared.written.WriteAnswer.{WriteAnswer}
use Rattle.demands.specs.Calls.{FrameRead, StreamNew, StreamPush, StreamEnd, Judge, Read, GroupOf, EntryOf, QuantityOf, CursorStart, CursorStep, SetsUp, Arrives, Request, Write}
use Rattle.demands.specs.CalledFromC.{FrameFromC, StreamNewFromC, StreamPushFromC, StreamEndFromC, JudgeFromC, RecordFromC, GroupFromC, EntryFromC, EntryPriceFromC, QuantityFromC, CursorFromC, NextFromC, StepPriceFromC, SetUpFromC, ArrivesFromC, RequestFromC, WriteFromC}
use Rattle.demands.specs.Rules.{Rule}
use Rattle.demands.specs.Demand1.{frame_rules, push_rules, end_rules, body_rules, step_rules, writer_rules, set_up_rules, arrival_rules, request_rules}
use Rattle.demands.specs.Demand2.{Held, NoTail}
use Rattle.demands.specs.Play.{Callable, AllCallable, Turn, Play, Fresh}

-- ---- demand 1: the numbers

-- C1, J8: a number that is no refusal's: the plain answer, or one of the others
abbrev pub NoRefusal : ℕ → Type 0
NoRefusal n = (n ≡ plain) ⊎ (unknown_number ≤ n)

-- D12: the number is that of the first rule whose condition holds, and no refusal's exactly where none does
pub data NumberBy : List Rule → ℕ → Type 1 where
  success : {n : ℕ} → NoRefusal n → NumberBy [] n
  here : {r : Rule} {rs : List Rule} → r.when → NumberBy (r ∷ rs) r.number
  later : {r : Rule} {rs : List Rule} {n : ℕ} → (r.when → ⊥) → NumberBy rs n → NumberBy (r ∷ rs) n

-- J6, D12: and a refusal leaves what is lent as it stood
pub record KeptBy {S : Type 0} (rules : List Rule) (n : ℕ) (stood left : S) : Type 1 where
  pub number : NumberBy rules n
  pub same : (NoRefusal n → ⊥) → left ≡ stood

-- J6, C7, C8, C10: and so does every answer but the plain one
pub record PlainBy {S : Type 0} (rules : List Rule) (n : ℕ) (stood left : S) : Type 1 where
  pub number : NumberBy rules n
  pub same : (n ≡ plain → ⊥) → left ≡ stood

-- D12, C1: every answer of every call
pub record Refusals : Type 1 where
  -- `orizhgum_frame`
  pub frame : (s : List ℕ) (r : FrameAnswer) → FrameFromC s r → NumberBy (frame_rules s) r.answer
  -- `orizhgum_stream_push`, `orizhgum_stream_end`
  pub stream_push :
      (st : Stream) (buffer c : List ℕ) (r : StreamAnswer) (left : List ℕ) → StreamPushFromC st buffer c r left → NumberBy (push_rules st buffer c) r.answer
  pub stream_end : (st : Stream) (buffer : List ℕ) (r : StreamAnswer) → StreamEndFromC st buffer r → NumberBy (end_rules st buffer) r.answer
  -- `orizhgum_judge`
  pub judge : (type : ℕ) (b : List ℕ) (n : ℕ) → JudgeFromC type b n → NumberBy (body_rules type b) n
  -- `orizhgum_order` and the other eight record calls
  pub record_of :
      (m : Message) (b : List ℕ) (n : ℕ) (x : Record) (ts : List ℕ) → RecordFromC m b n x ts → NumberBy (body_rules (type_number m) b) n
  -- `orizhgum_group`, `orizhgum_entry`, `orizhgum_entry_price`, `orizhgum_quantity`
  pub group : (type : ℕ) (b : List ℕ) (i : ℕ) (r : Grouped) → GroupFromC type b i r → NumberBy (body_rules type b) r.answer
  pub entry : (type : ℕ) (b : List ℕ) (i : ℕ) (r : EntryAnswer) → EntryFromC type b i r → NumberBy (body_rules type b) r.answer
  pub entry_price_call :
      (type : ℕ) (b : List ℕ) (i : ℕ) (z : ℤ) (n : ℕ) (left : ℤ) → EntryPriceFromC type b i z n left → PlainBy (body_rules type b) n z left
  pub quantity : (type : ℕ) (b : List ℕ) (i j : ℕ) (r : QuantityAnswer) → QuantityFromC type b i j r → NumberBy (body_rules type b) r.answer
  -- `orizhgum_next`, the cursor and the lent number; `orizhgum_step_price`
  pub next :
      (c : Cursor) (type : ℕ) (b : List ℕ) (z : ℤ) (r : StepAnswer) (left : ℤ) → NextFromC c type b z r left →
      PlainBy (step_rules type b (means_cursor c)) r.answer c r.next
  pub next_price :
      (c : Cursor) (type : ℕ) (b : List ℕ) (z : ℤ) (r : StepAnswer) (left : ℤ) → NextFromC c type b z r left →
      PlainBy (step_rules type b (means_cursor c)) r.answer z left
  pub step_price :
      (c : Cursor) (type : ℕ) (b : List ℕ) (z : ℤ) (n : ℕ) (left : ℤ) → StepPriceFromC c type b z n left →
      PlainBy (step_rules type b (means_cursor c)) n z left
  -- `orizhgum_set_up`
  pub set_up_call :
      (numbers : List ℕ) (from : List ℤ) (r : StartAnswer) → SetUpFromC numbers from r →
      PlainBy (set_up_rules numbers from) r.answer (starting.blank_of [] []) r.tracker
  -- `orizhgum_tick_in`, `orizhgum_heard_in`, and the arrays
  pub arrival :
      (t : Tracker) (a : Arrival) (n : ℕ) (u : Tracker) → ArrivesFromC t a n u → KeptBy (arrival_rules t a.channel a.event) n t u
  -- `orizhgum_request_in`, and its output
  pub request :
      (t : Tracker) (k : ℕ) (out : List ℕ) (r : WriteAnswer) (after : List ℕ) → RequestFromC t k out r after →
      PlainBy (request_rules t k (length out)) r.answer out after
  -- `orizhgum_write_order` and the other nine, and their output
  pub write :
      (x : Record) (ts gs out : List ℕ) (r : WriteAnswer) (after : List ℕ) → WriteFromC x ts gs out r after →
      PlainBy (writer_rules (means_record x) ts gs (length out)) r.answer out after

-- ---- fields, texts and outputs: what the library's call can answer of the same input, in the interface's struct

-- C3: a judged body's number; a type that is not listed is unknown
abbrev pub judged_by : Listed → Answer Unit → ℕ
judged_by (listed m) a = answer_number a
judged_by unlisted a = unknown_number

-- C4: the number, the struct and the texts of a body that was read; the struct of a refusal is zeros
abbrev pub shown_of : Message → WithTexts record_of.Reading → RecordAnswer
shown_of m t = record { answer = answer_number t.answer; numbers = record_in m t.answer; texts = t.texts }

-- C2, C3, C4, C5, C6, C7, C8, C9, C10, C12: every call
pub record SameAnswers : Type 0 where
  -- `orizhgum_frame`, `frame::read`
  pub frame : (s : List ℕ) (r : FrameAnswer) (a : Framed) → FrameFromC s r → FrameRead s a → r ≡ frame_answer (frame.means_framed a)
  -- `orizhgum_stream_new`, `Stream::new`; `orizhgum_stream_push`, `Stream::push`; `orizhgum_stream_end`, `Stream::end`
  pub stream_new : (r a : Stream) → StreamNewFromC r → StreamNew a → r ≡ a
  pub stream_push :
      (st : Stream) (buffer c : List ℕ) (r : StreamAnswer) (left : List ℕ) (a : Pushed) (after : List ℕ) → StreamPushFromC st buffer c r left →
      StreamPush st buffer c a after → (r ≡ stream_answer (means_pushed a)) × (left ≡ after)
  pub stream_end :
      (st : Stream) (buffer : List ℕ) (r : StreamAnswer) (a : Pushed) → StreamEndFromC st buffer r → StreamEnd st buffer a →
      r ≡ stream_answer (means_pushed a)
  -- `orizhgum_judge`, `record::judge`
  pub judge :
      (type : ℕ) (b : List ℕ) (n : ℕ) (a : Verdict) → JudgeFromC type b n → Judge type b a → n ≡ judged_by (named type) (layout.means_verdict a)
  -- the record calls of nine types, `record::read`
  pub record_of :
      (m : Message) (b : List ℕ) (n : ℕ) (x : Record) (ts : List ℕ) (a : Reading) → RecordFromC m b n x ts → Read (type_number m) b a →
      answer_as n x ts ≡ shown_of m (means_reading a)
  -- `orizhgum_group`, `record::group_of`
  pub group :
      (type : ℕ) (b : List ℕ) (i : ℕ) (r : Grouped) (a : GroupReading) → GroupFromC type b i r → GroupOf type b i a → r ≡ group_answer (means_group_reading a)
  -- `orizhgum_entry`, `orizhgum_entry_price`, `entries::entry_of`
  pub entry :
      (type : ℕ) (b : List ℕ) (i : ℕ) (r : EntryAnswer) (a : AskedEntry) → EntryFromC type b i r → EntryOf type b i a →
      r ≡ entry_answer (means_asked_entry a)
  pub entry_price_call :
      (type : ℕ) (b : List ℕ) (i : ℕ) (z : ℤ) (n : ℕ) (left : ℤ) (a : AskedEntry) → EntryPriceFromC type b i z n left → EntryOf type b i a →
      (n ≡ pricing (means_asked_entry a)) × (left ≡ priced_left (means_asked_entry a) z)
  -- `orizhgum_quantity`, `entries::quantity_of`
  pub quantity :
      (type : ℕ) (b : List ℕ) (i j : ℕ) (r : QuantityAnswer) (a : AskedQuantity) → QuantityFromC type b i j r → QuantityOf type b i j a →
      r ≡ quantity_answer (means_quantity a)
  -- `orizhgum_cursor`, `Cursor::start`
  pub cursor : (type : ℕ) (b : List ℕ) (r a : Cursor) → CursorFromC type b r → CursorStart type b a → means_cursor r ≡ means_cursor a
  -- `orizhgum_next`, `orizhgum_step_price`, `Cursor::step`
  pub next :
      (c : Cursor) (type : ℕ) (b : List ℕ) (z : ℤ) (r : StepAnswer) (left : ℤ) (a : Step) → NextFromC c type b z r left → CursorStep c type b a →
      (r ≡ step_answer (means_step a) c) × (left ≡ priced_left (entry_found (means_step a)) z)
  pub step_price :
      (c : Cursor) (type : ℕ) (b : List ℕ) (z : ℤ) (n : ℕ) (left : ℤ) (a : Step) → StepPriceFromC c type b z n left → CursorStep c type b a →
      (n ≡ pricing (entry_found (means_step a))) × (left ≡ priced_left (entry_found (means_step a)) z)
  -- `orizhgum_set_up`, `Tracker::set_up`
  pub set_up_call :
      (numbers : List ℕ) (from : List ℤ) (r : StartAnswer) (a : Started) → SetUpFromC numbers from r → SetsUp numbers from a →
      r ≡ start_answer (starting.means_started a)
  -- `orizhgum_tick_in`, `orizhgum_heard_in`, `Tracker::tick`, `Tracker::heartbeat`
  pub arrival :
      (t : Tracker) (e : Arrival) (n : ℕ) (u : Tracker) (a : Reply) → ArrivesFromC t e n u → Arrives t e a →
      (n ≡ said_number (arrival_said a.verdict)) × (u ≡ a.next)
  -- `orizhgum_request_in`, `Tracker::request`
  pub request :
      (t : Tracker) (k : ℕ) (out : List ℕ) (r : WriteAnswer) (after : List ℕ) (a : Requested) (left : List ℕ) → RequestFromC t k out r after →
      Request t k out a left → (r ≡ request_answer (asking.means_requested a)) × (after ≡ left)
  -- the write calls of ten types, `writer::write`
  pub write :
      (x : Record) (ts gs out : List ℕ) (r : WriteAnswer) (after : List ℕ) (a : Written) (left : List ℕ) → WriteFromC x ts gs out r after →
      Write x ts gs out a left → (r ≡ write_answer (writer.means_written a)) × (after ≡ left)

-- ---- demand 2: the round trips through the structs

-- D22: `orizhgum_frame` and the type's record call accept bytes that begin with a frame of n, and give the type, the struct x, the texts and the groups
pub record GivesBack (x : Record) (ts gs : List ℕ) (n : ℕ) (s : List ℕ) (f : FrameAnswer) : Type 0 where
  pub plainly : f.answer ≡ plain
  pub bytes : f.total ≡ n
  pub kind : (m : Message) (zs : List ℤ) → means_record x ≡ record_of.known m zs → f.kind ≡ type_number m
  pub fields :
      (m : Message) (k : ℕ) (y : Record) (us : List ℕ) → type_number m ≡ f.kind → RecordFromC m (part 8 (8 + f.len) s) k y us →
      (k ≡ plain) × (y ≡ x) × (us ≡ filled ts)
  pub groups : groups_of f.kind (part 8 (8 + f.len) s) ≡ gs

-- D22: so after every write that is answered plainly
abbrev pub StructsReadBack : Type 0
StructsReadBack =
    (x : Record) (ts gs out : List ℕ) (r : WriteAnswer) (after : List ℕ) (f : FrameAnswer) → Held (means_record x) →
    WriteFromC x ts gs out r after → r.answer ≡ plain → FrameFromC after f → GivesBack x ts gs r.written after f

-- D23: the struct and the texts that a record call gave, and the groups of its body, are written as the same bytes
abbrev pub StructsSameBytes : Type 0
StructsSameBytes =
    (s out after : List ℕ) (f : FrameAnswer) (m : Message) (y : Record) (us : List ℕ) (r : WriteAnswer) → Bytes s → FrameFromC s f →
    f.answer ≡ plain → type_number m ≡ f.kind → NoTail m (part 8 (8 + f.len) s) → RecordFromC m (part 8 (8 + f.len) s) plain y us →
    f.total ≤ length out → WriteFromC y (take (text_size (fields m)) us) (groups_of f.kind (part 8 (8 + f.len) s)) out r after →
    (r.answer ≡ plain) × (r.written ≡ f.total) × (after ≡ take f.total s ++ drop f.total out)

-- ---- demand 3: arrivals played into lent arrays

-- an arrival, and the number that it was answered
pub record Numbered : Type 0 where
  pub arrival : Arrival
  pub number : ℕ

-- C9: the arrivals of a list lead from the tracker that the arrays hold to another
pub data PlayFromC : Tracker → List Numbered → Tracker → Type 0 where
  done : {t : Tracker} → PlayFromC t [] t
  step :
      {t v u : Tracker} {l : List Numbered} (a : Arrival) (n : ℕ) → Callable a → ArrivesFromC t a n v → PlayFromC v l u →
      PlayFromC t (record { arrival = a; number = n } ∷ l) u

-- the same arrivals with these numbers
pub data Numbering : List Turn → List Numbered → Type 0 where
  none : Numbering [] []
  one : {x : Turn} {y : Numbered} {l : List Turn} {m : List Numbered} → x.arrival ≡ y.arrival → said_number x.said ≡ y.number → Numbering l m →
      Numbering (x ∷ l) (y ∷ m)

-- D31, D32, D33, D34: a playing of demand 3, and so all that demand 3 says of it
pub record Playing (t : Tracker) (l : List Numbered) (u : Tracker) : Type 0 where
  pub steps : List Turn
  pub plays : Play t steps u
  pub says : Numbering steps l

-- C9: so is every playing into lent arrays
abbrev pub PlaysAsPlayed : Type 0
PlaysAsPlayed = (t u : Tracker) (l : List Numbered) → PlayFromC t l u → Playing t l u

-- the arrivals that were numbered
abbrev pub arrivals_in : List Numbered → List Arrival
arrivals_in [] = []
arrivals_in (x ∷ l) = x.arrival ∷ arrivals_in l

-- a list of arrivals has a playing into the arrays of a tracker
pub record PlayableFromC (t : Tracker) (l : List Arrival) : Type 0 where
  pub steps : List Numbered
  pub end : Tracker
  pub plays : PlayFromC t steps end
  pub same : arrivals_in steps ≡ l

-- C9, D31: so there is something to say of every list from C too
abbrev pub EveryListPlaysFromC : Type 0
EveryListPlaysFromC = (t : Tracker) (l : List Arrival) → AllCallable l → PlayableFromC t l

-- T1, D31: a set-up that is answered plainly gives a fresh record
abbrev pub StartsFresh : Type 0
StartsFresh = (numbers : List ℕ) (from : List ℤ) (r : StartAnswer) → SetUpFromC numbers from r → r.answer ≡ plain → Fresh numbers from r.tracker
