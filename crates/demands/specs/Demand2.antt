-- Demand 2's statements, of every answer that the contracts allow (specs/Calls): what is read, what is accepted, what is written, and that
-- nothing is lost on the way in either direction.
-- Assumes nothing.
use Rattle.std.specs.Prelude.{ℕ, zero, suc, ◌+◌, ◌*◌, ◌≤◌, ◌<◌, ◌≡◌, ◌↔◌, List, [], ◌∷◌, ◌++◌, ℤ, length, take, drop, Ok}
use Rattle.wire.specs.Answer.{Answer, accepted, refused, RefusedBy}
use Rattle.wire.specs.Bytes.{Bytes, part}
use Rattle.wire.specs.Refusal.{not_its_layout}
use Rattle.frame.specs.Framing as framed_as
use Rattle.frame.specs.Walk as Walked_as
use Rattle.frame.specs.Wanting.{wanting, reach}
use Rattle.streams.specs.Stream.{new_stream}
use Rattle.streams.specs.Cutting.{PushAs, EndAs}
use Rattle.streams.specs.Paper.{means_pushed}
use Rattle.streams.specs.declared.Stream.{Stream}
use Rattle.streams.specs.declared.Pushed.{Pushed}
use Rattle.frame.specs.Framing.{Framed}
use Rattle.frame.specs.declared.walking.Walked.{Walked}
use Rattle.frame.specs.declared.Frame.{Frame}
use Rattle.layout.specs.Layout.{Message, heartbeat, channel_heartbeat, resend, statistics, security_status, snapshot, index, volume_index, order, trade, fields, type_number, snapshot_entries, listed, unlisted, named}
use Rattle.layout.specs.Paper as layout_paper
use Rattle.layout.specs.Paper.{Verdict}
use Rattle.layout.specs.Group.{shown, group_offset, count, needs}
use Rattle.record.specs.Asked as judged_as
use Rattle.record.specs.Asked.{with_texts}
use Rattle.record.specs.Record.{Reading, known, unknown, read_body, read_frame, group_of, groups_of}
use Rattle.record.specs.Paper as record_paper
use Rattle.record.specs.Paper.{means_record, means_frame_reading}
use Rattle.record.specs.declared.Record.{Record}
use Rattle.record.specs.Paper.{FrameReading}
use Rattle.record.specs.Paper.{GroupReading}
use Rattle.entries.specs.Entry as stepped_as
use Rattle.entries.specs.Entry.{entry_of, quantity_of}
use Rattle.entries.specs.Paper.{means_asked_entry, means_quantity, means_cursor, means_step}
use Rattle.entries.specs.Paper.{AskedEntry}
use Rattle.entries.specs.Paper.{AskedQuantity}
use Rattle.entries.specs.declared.cursor.Cursor.{Cursor}
use Rattle.entries.specs.Paper.{Step}
use Rattle.bodies.specs.Body.{Numbers, body, body_length}
use Rattle.writer.specs.Write.{frame_of}
use Rattle.writer.specs.Paper.{means_written}
use Rattle.writer.specs.Paper.{Written}
use Rattle.demands.specs.Calls.{FrameRead, FrameBody, FrameWalk, FrameWanting, FrameReach, StreamNew, StreamPush, StreamEnd, ReadFrame, Read, Judge, GroupOf, GroupsOf, EntryOf, QuantityOf, CursorStart, CursorStep, Write}
use Rattle.demands.specs.Rules.{Rule}
use Rattle.demands.specs.Demand1.{reader_rules, writer_rules}

-- accepted, whatever the value
pub data Accepted {A : Type 0} : Answer A → Type 0 where
  with_value : (x : A) → Accepted (accepted x)

-- ---- what is read

-- D21: the frame, body and walk, the record, groups, entries and cursor that the rules' definitions give for the same bytes
pub record ByTheRules : Type 0 where
  pub frame_read : (s : List ℕ) (a : Framed) → FrameRead s a → framed_as.means_framed a ≡ framed_as.read framed_as.header_width framed_as.body_limit s
  pub frame_body :
      (s b : List ℕ) → FrameBody s b → b ≡ framed_as.body_of framed_as.header_width (framed_as.read framed_as.header_width framed_as.body_limit s) s
  pub frame_walk :
      (s : List ℕ) (w : Walked) → FrameWalk s w →
      Walked_as.means_walked w ≡ Walked_as.walk_count (Walked_as.walk framed_as.header_width framed_as.body_limit s)
  pub frame_wanting : (s : List ℕ) (n : ℕ) → FrameWanting s n → n ≡ wanting framed_as.header_width framed_as.body_limit s
  pub frame_reach : (s : List ℕ) (n : ℕ) → FrameReach s n → n ≡ reach framed_as.header_width framed_as.body_limit s
  pub stream_new : (st : Stream) → StreamNew st → st ≡ new_stream
  pub stream_push :
      (st : Stream) (buffer c left : List ℕ) (r : Pushed) → StreamPush st buffer c r left →
      PushAs framed_as.header_width framed_as.body_limit st buffer c (means_pushed r) left
  pub stream_end :
      (st : Stream) (buffer : List ℕ) (r : Pushed) → StreamEnd st buffer r → EndAs framed_as.header_width framed_as.body_limit st buffer (means_pushed r)
  pub read_frame_call : (s : List ℕ) (x : FrameReading) → ReadFrame s x → means_frame_reading x ≡ read_frame s
  pub read : (type : ℕ) (b : List ℕ) (x : record_paper.Reading) → Read type b x → record_paper.means_reading x ≡ read_body type b
  pub judge : (type : ℕ) (b : List ℕ) (v : Verdict) → Judge type b v → layout_paper.means_verdict v ≡ judged_as.judge type b
  pub group_of_call : (type : ℕ) (b : List ℕ) (i : ℕ) (x : GroupReading) → GroupOf type b i x → record_paper.means_group_reading x ≡ group_of type b i
  pub groups_of_call : (type : ℕ) (b gs : List ℕ) → GroupsOf type b gs → gs ≡ groups_of type b
  pub entry_of_call : (type : ℕ) (b : List ℕ) (i : ℕ) (x : AskedEntry) → EntryOf type b i x → means_asked_entry x ≡ entry_of type b i
  pub quantity_of_call : (type : ℕ) (b : List ℕ) (i j : ℕ) (x : AskedQuantity) → QuantityOf type b i j x → means_quantity x ≡ quantity_of type b i j
  pub start : (type : ℕ) (b : List ℕ) (c : Cursor) → CursorStart type b c → means_cursor c ≡ stepped_as.start (named type) b
  pub step : (c : Cursor) (type : ℕ) (b : List ℕ) (x : Step) → CursorStep c type b x → means_step x ≡ stepped_as.step (named type) b (means_cursor c)

-- ---- entries by a cursor and by position

-- A6: what step i from a cursor on answers, from 0, where each step before it found an entry
pub data StepsTo (type : ℕ) (b : List ℕ) : ℕ → Cursor → Step → Type 0 where
  last_step : {c : Cursor} {x : Step} → CursorStep c type b x → StepsTo type b zero c x
  then_on :
      {i : ℕ} {c d : Cursor} {x y : Step} (z : stepped_as.Stepped) → CursorStep c type b y → means_step y ≡ accepted (judged_as.found z) →
      means_cursor d ≡ z.onward → StepsTo type b i d x → StepsTo type b (suc i) c x

-- A2, A6: in an accepted body step i from the start gives entry i
abbrev pub SameEntries : Type 0
SameEntries =
    (type i : ℕ) (b : List ℕ) (v : Verdict) (c : Cursor) (x : Step) (a : AskedEntry) → Judge type b v → Accepted (layout_paper.means_verdict v) →
    CursorStart type b c → StepsTo type b i c x → EntryOf type b i a → stepped_as.entry_found (means_step x) ≡ means_asked_entry a

-- ---- acceptance: exactly where none of the conditions of demand 1 holds

-- no condition of some rules holds
abbrev pub NoneOf : List Rule → Type 0
NoneOf [] = Unit
NoneOf (r ∷ rs) = (r.when → ⊥) × NoneOf rs

-- D21: the reader accepts exactly the frames that none of 1 to 5 describes
abbrev pub Reader : Type 0
Reader = (s : List ℕ) (x : FrameReading) → ReadFrame s x → Accepted (means_frame_reading x).answer ↔ NoneOf (reader_rules s)

-- ---- a type that is not listed

-- L6, F6: it is answered as unknown, with its number, and its body is lent as that of any other frame
pub record AsUnknown (s : List ℕ) (f : Frame) (x : FrameReading) (b : List ℕ) : Type 0 where
  pub type : (means_frame_reading x).answer ≡ accepted (unknown f.kind)
  pub body : b ≡ part 8 (8 + f.len) s

-- L6: so by the reader, and by the call for the body
abbrev pub Unlisted : Type 0
Unlisted =
    (s b : List ℕ) (f : Frame) (x : FrameReading) → FrameRead s (Ok f) → named f.kind ≡ unlisted → ReadFrame s x →
    FrameBody s b → AsUnknown s f x b

-- ---- the bytes that each type's body takes

-- L5: the shown counts of the first k entries of a snapshot, added up
abbrev pub shown_sum : List ℕ → ℕ → ℕ
shown_sum b zero = 0
shown_sum b (suc k) = shown_sum b k + shown snapshot_entries b (group_offset snapshot_entries b 69 k)

-- L3: the column of bytes
abbrev pub bytes_of : Message → List ℕ → ℕ
bytes_of heartbeat b = 0
bytes_of channel_heartbeat b = 12
bytes_of resend b = 44
bytes_of statistics b = 14 + 15 * count statistics b
bytes_of security_status b = 34 + 4 * count security_status b
bytes_of snapshot b = 69 + 32 * count snapshot b + 8 * shown_sum b (count snapshot b)
bytes_of index b = 69 + 10 * count index b
bytes_of volume_index b = 69
bytes_of order b = 51
bytes_of trade b = 66

-- R4, L3: a body is refused by 4 exactly where it has fewer
abbrev pub Column : Type 0
Column =
    (m : Message) (b : List ℕ) (r : record_paper.Reading) → Read (type_number m) b r →
    RefusedBy not_its_layout (record_paper.means_reading r).answer ↔ (length b < bytes_of m b)

-- ---- the tail: bytes behind a frame, and behind an accepted body, change nothing that is read

-- L7: what a call can answer of longer bytes is what it answered where it accepted
abbrev pub Unmoved : {R A B : Type 0} → (R → A) → (A → Answer B) → (R → Type 0) → (R → Type 0) → Type 0
Unmoved {R} means answer Can Longer = (r u : R) → Can r → Longer u → Accepted (answer (means r)) → means u ≡ means r

-- F5, F6, L7, A5, A7: bytes t behind
pub record Tail (b t : List ℕ) : Type 0 where
  pub frame_read : Unmoved framed_as.means_framed (λ a. a) (FrameRead b) (FrameRead (b ++ t))
  pub frame_body :
      (a : Framed) (x y : List ℕ) → FrameRead b a → Accepted (framed_as.means_framed a) → FrameBody b x → FrameBody (b ++ t) y → y ≡ x
  pub read_frame_call : Unmoved means_frame_reading (λ a. a.answer) (ReadFrame b) (ReadFrame (b ++ t))
  pub read : (type : ℕ) → Unmoved record_paper.means_reading (λ a. a.answer) (Read type b) (Read type (b ++ t))
  pub judge : (type : ℕ) → Unmoved layout_paper.means_verdict (λ a. a) (Judge type b) (Judge type (b ++ t))
  pub group_of_call : (type i : ℕ) → Unmoved record_paper.means_group_reading (λ a. a.answer) (GroupOf type b i) (GroupOf type (b ++ t) i)
  pub groups_of_call :
      (type : ℕ) (v : Verdict) (x y : List ℕ) → Judge type b v → Accepted (layout_paper.means_verdict v) → GroupsOf type b x →
      GroupsOf type (b ++ t) y → y ≡ x
  pub entry_of_call : (type i : ℕ) → Unmoved means_asked_entry (λ a. a) (EntryOf type b i) (EntryOf type (b ++ t) i)
  pub quantity_of_call : (type i j : ℕ) → Unmoved means_quantity (λ a. a) (QuantityOf type b i j) (QuantityOf type (b ++ t) i j)
  pub start :
      (type : ℕ) (v : Verdict) (c d : Cursor) → Judge type b v → Accepted (layout_paper.means_verdict v) → CursorStart type b c →
      CursorStart type (b ++ t) d → means_cursor d ≡ means_cursor c
  pub step : (c : Cursor) (type : ℕ) → Unmoved means_step (λ a. a) (CursorStep c type b) (CursorStep c type (b ++ t))

-- ---- the writer, likewise

-- D21: the writer writes exactly where none of 5, 4, 5, 2, 6 holds
abbrev pub Writer : Type 0
Writer =
    (r : Record) (ts gs out after : List ℕ) (a : Written) → Write r ts gs out a after →
    Accepted (means_written a) ↔ NoneOf (writer_rules (means_record r) ts gs (length out))

-- W2, D21: written: header, body by layout, checksum, and the old bytes behind them; refused: every byte as it stood
pub data Leaves (out : List ℕ) : Answer ℕ → Reading → List ℕ → List ℕ → List ℕ → Type 0 where
  frame_first :
      {m : Message} {zs : List ℤ} {ts gs : List ℕ} {n : ℕ} → n ≡ 12 + body_length m gs →
      Leaves out (accepted n) (known m zs) ts gs (frame_of (type_number m) (body m zs ts gs) ++ drop n out)
  as_it_stood : {n : ℕ} {vs : List ℕ} {x : Reading} {ts gs : List ℕ} → Leaves out (refused n vs) x ts gs out

-- D21: so after every write
abbrev pub Output : Type 0
Output =
    (r : Record) (ts gs out after : List ℕ) (a : Written) → Write r ts gs out a after → Leaves out (means_written a) (means_record r) ts gs after

-- ---- what is written reads back

-- the numbers of a record are those that its fields hold, as they are in every record of the code
abbrev pub Held : Reading → Type 0
Held (known m zs) = Numbers (fields m) zs
Held (unknown type) = Unit

-- D22: by every answer of the reader, bytes begin with a frame of n bytes and read as a record with its texts and groups
pub record Reads (x : Reading) (ts gs : List ℕ) (n : ℕ) (s : List ℕ) : Type 0 where
  pub frame : Frame
  pub framed : (a : Framed) → FrameRead s a → framed_as.means_framed a ≡ accepted frame
  pub total : frame.total ≡ n
  pub fields : (y : FrameReading) → ReadFrame s y → means_frame_reading y ≡ with_texts (accepted x) ts
  pub groups : (b g : List ℕ) → FrameBody s b → GroupsOf frame.kind b g → g ≡ gs

-- D22: whatever stood in the output before, and so behind the frame
abbrev pub ReadsBack : Type 0
ReadsBack =
    (r : Record) (ts gs out after : List ℕ) (a : Written) (n : ℕ) → Held (means_record r) → Write r ts gs out a after →
    means_written a ≡ accepted n → Reads (means_record r) ts gs n after

-- ---- what is read is written again with the same bytes

-- L7: a body that ends with its layout
abbrev pub NoTail : Message → List ℕ → Type 0
NoTail m b = needs m b ≡ length b

-- D23: a frame of a listed type without a tail, read and written again, is the same bytes
abbrev pub SameBytes : Type 0
SameBytes =
    (s b g out after : List ℕ) (f : Frame) (m : Message) (x : FrameReading) (r : Record) (a : Written) → Bytes s → FrameRead s (Ok f) →
    FrameBody s b → named f.kind ≡ listed m → NoTail m b → ReadFrame s x → (means_frame_reading x).answer ≡ accepted (means_record r) →
    GroupsOf f.kind b g → f.total ≤ length out → Write r (take (means_frame_reading x).used (means_frame_reading x).texts) g out a after →
    (means_written a ≡ accepted f.total) × (after ≡ take f.total s ++ drop f.total out)
