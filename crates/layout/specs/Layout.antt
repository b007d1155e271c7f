-- The table of types: the fields of each listed type in order; and what the fields of a layout say.
-- Assumes nothing.
use Rattle.std.specs.Prelude.{ℕ, ◌+◌, Bool, true, false, cond, ◌&&◌, List, [], ◌∷◌, ◌++◌, eqb, ℤ, take, drop}
use Rattle.wire.specs.Bytes.{be_at}
use Rattle.layout.specs.Kind.{Text, stream, security, source, phase, financial_status, news_id, reject_text, Kind, channel, number, last_number, first_number, bid_number, offer_number, order_price, trade_price, previous_close, entry_price, quantity, amount, trade_count, order_count, time, side, order_type, execution, entry_type, level, group_count, stock_number, switch_type, yes_no, resend_type, status, text, characters, text_number, Form, unsigned, signed, written, form, width, value_in, ranged}

-- ---- the table

-- L3: the listed types
pub data Message : Type 0 where
  heartbeat : Message
  channel_heartbeat : Message
  resend : Message
  statistics : Message
  security_status : Message
  snapshot : Message
  index : Message
  volume_index : Message
  order : Message
  trade : Message

-- L3: the first column, the type's number
abbrev pub type_number : Message → ℕ
type_number heartbeat = 3
type_number channel_heartbeat = 390095
type_number resend = 390094
type_number statistics = 390090
type_number security_status = 390013
type_number snapshot = 300111
type_number index = 309011
type_number volume_index = 309111
type_number order = 300192
type_number trade = 300191

-- L4: the fields that snapshot, index and volume index share
abbrev pub common_part : List Kind
common_part =
    time ∷ channel ∷ text stream ∷ text security ∷ text source ∷ text phase ∷ previous_close ∷ trade_count ∷ quantity ∷ amount ∷ []

-- L3: the second column, as far as a type's fields stand once
abbrev pub fields : Message → List Kind
fields heartbeat = []
fields channel_heartbeat = channel ∷ last_number ∷ yes_no ∷ []
fields resend = resend_type ∷ channel ∷ first_number ∷ last_number ∷ text news_id ∷ status ∷ text reject_text ∷ []
fields statistics = time ∷ channel ∷ group_count ∷ []
fields security_status = time ∷ channel ∷ text security ∷ text source ∷ text financial_status ∷ group_count ∷ []
fields snapshot = common_part ++ (group_count ∷ [])
fields index = common_part ++ (group_count ∷ [])
fields volume_index = common_part ++ (stock_number ∷ [])
fields order =
    channel ∷ number ∷ text stream ∷ text security ∷ text source ∷ order_price ∷ quantity ∷ side ∷ time ∷ order_type ∷ []
fields trade =
    channel ∷ number ∷ text stream ∷ bid_number ∷ offer_number ∷ text security ∷ text source ∷ trade_price ∷ quantity ∷ execution ∷ time ∷ []

-- L5: what stands as often as a count says: its fields, and whether the last of them counts shown quantities that follow
pub record Group : Type 0 where
  pub fields : List Kind
  pub shows : Bool

-- L3: a group of statistics
abbrev pub streams : Group
streams = record { fields = text stream ∷ stock_number ∷ text phase ∷ []; shows = false }

-- L3: a group of a security status
abbrev pub switches : Group
switches = record { fields = switch_type ∷ yes_no ∷ []; shows = false }

-- L3: an entry of an index
abbrev pub index_entries : Group
index_entries = record { fields = entry_type ∷ entry_price ∷ []; shows = false }

-- L3: an entry of a snapshot, which shows quantities
abbrev pub snapshot_entries : Group
snapshot_entries =
    record { fields = entry_type ∷ entry_price ∷ quantity ∷ level ∷ order_count ∷ group_count ∷ []; shows = true }

-- the entries of a 300111 and of a 309011
pub data Entries : Type 0 where
  of_snapshot : Entries
  of_index : Entries

abbrev pub entry_group : Entries → Group
entry_group of_snapshot = snapshot_entries
entry_group of_index = index_entries

-- what follows a type's fields: nothing; or groups, or entries, as many as the last of the fields says
pub data Behind : Type 0 where
  nothing : Behind
  groups : Group → Behind
  entries : Entries → Behind

-- L3: the second column's rest
abbrev pub behind : Message → Behind
behind heartbeat = nothing
behind channel_heartbeat = nothing
behind resend = nothing
behind statistics = groups streams
behind security_status = groups switches
behind snapshot = entries of_snapshot
behind index = entries of_index
behind volume_index = nothing
behind order = nothing
behind trade = nothing

-- L6: the listed type of a number, or none
pub data Listed : Type 0 where
  listed : Message → Listed
  unlisted : Listed

-- L3: all of them
abbrev pub messages : List Message
messages =
    heartbeat ∷ channel_heartbeat ∷ resend ∷ statistics ∷ security_status ∷ snapshot ∷ index ∷ volume_index ∷ order ∷ trade ∷ []

abbrev pub chosen : List Message → ℕ → Listed
chosen [] type = unlisted
chosen (m ∷ ms) type = cond (eqb type (type_number m)) (listed m) (chosen ms type)

-- L6: the type's number alone chooses
unfoldable pub named : ℕ → Listed
named type = chosen messages type

-- ---- what the fields of a layout say, from an offset of some bytes on

-- L4: the bytes of the common part
abbrev pub common_size : ℕ
common_size = 65

-- L3: the third column, how many bytes the fields take
unfoldable pub size : List Kind → ℕ
size [] = 0
size (k ∷ ks) = width k + size ks

-- whether each field is in its range
unfoldable pub ranges : List Kind → List ℕ → ℕ → Bool
ranges [] s at = true
ranges (k ∷ ks) s at = ranged k (be_at s at (width k)) && ranges ks s (at + width k)

-- the number of a field; a text is none
abbrev pub value_at : Form → List ℕ → ℕ → List ℤ
value_at (unsigned w) s at = value_in (unsigned w) (be_at s at w) ∷ []
value_at signed s at = value_in signed (be_at s at 8) ∷ []
value_at (written t) s at = []

-- L8: the numbers of the fixed fields, in the layout's order
unfoldable pub values : List Kind → List ℕ → ℕ → List ℤ
values [] s at = []
values (k ∷ ks) s at = value_at (form k) s at ++ values ks s (at + width k)

-- the text of a field; a number is none
abbrev pub text_at : Form → List ℕ → ℕ → List ℕ
text_at (unsigned w) s at = []
text_at signed s at = []
text_at (written t) s at = take (characters t) (drop at s)

-- L8: the texts, one behind the other in the layout's order
unfoldable pub texts : List Kind → List ℕ → ℕ → List ℕ
texts [] s at = []
texts (k ∷ ks) s at = text_at (form k) s at ++ texts ks s (at + width k)

-- the texts behind a field, out of those from that field on
abbrev pub texts_behind : Form → List ℕ → List ℕ
texts_behind (unsigned w) ts = ts
texts_behind signed ts = ts
texts_behind (written t) ts = drop (characters t) ts

abbrev pub is_text : Text → Form → Bool
is_text t (unsigned w) = false
is_text t signed = false
is_text t (written u) = eqb (text_number t) (text_number u)

-- L9: a text by its name, out of the texts of a layout; nothing where the layout does not have it
unfoldable pub text_in : Text → List Kind → List ℕ → List ℕ
text_in t [] ts = []
text_in t (k ∷ ks) ts = cond (is_text t (form k)) (take (characters t) ts) (text_in t ks (texts_behind (form k) ts))
