-- A text by its name, by the type.
-- Assumes nothing.
use Rattle.std.proofs.Common.{◌≡◌, ℕ, List, [], refl}
use Rattle.layout.specs.Kind.{Text}
use Rattle.layout.specs.Layout.{Message, heartbeat, channel_heartbeat, resend, statistics, security_status, snapshot, index, volume_index, order, trade, type_number, fields, behind, Listed, listed, unlisted, named, text_in}
use Rattle.show.specs.Named.{text_listed, text_named, group_text, group_text_listed, group_text_named}
use Rattle.record.proofs.Choice.{named_as, named_back, No}

pub texts_as : (m : Message) (w : Text) (ts : List ℕ) {t : ℕ} → t ≡ type_number m → text_in w (fields m) ts ≡ text_named t w ts
unfolding text_named
texts_as m w ts e = rw (named_as m e)

pub group_texts_as : (m : Message) (w : Text) (ts : List ℕ) {t : ℕ} → t ≡ type_number m → group_text (behind m) w ts ≡ group_text_named t w ts
unfolding group_text_named
group_texts_as m w ts e = rw (named_as m e)

-- no type that has texts
abbrev pub Without : ℕ → Type 0
Without t =
    ((((((Unit {0} × No resend t) × No security_status t) × No snapshot t) × No index t) × No volume_index t) × No order t)
    × No trade t

module _ (t : ℕ) (w : Text) (ts : List ℕ) where
  rest_by : (l : Listed) → named t ≡ l → Without t → [] ≡ text_listed l w ts
  unfolding text_in
  rest_by (listed heartbeat) e n = refl
  rest_by (listed channel_heartbeat) e n = refl
  rest_by (listed resend) e n = absurd (n.0.0.0.0.0.0.1 (named_back resend t e))
  rest_by (listed statistics) e n = refl
  rest_by (listed security_status) e n = absurd (n.0.0.0.0.0.1 (named_back security_status t e))
  rest_by (listed snapshot) e n = absurd (n.0.0.0.0.1 (named_back snapshot t e))
  rest_by (listed index) e n = absurd (n.0.0.0.1 (named_back index t e))
  rest_by (listed volume_index) e n = absurd (n.0.0.1 (named_back volume_index t e))
  rest_by (listed order) e n = absurd (n.0.1 (named_back order t e))
  rest_by (listed trade) e n = absurd (n.1 (named_back trade t e))
  rest_by unlisted e n = refl

  pub texts_rest : Without t → [] ≡ text_named t w ts
  unfolding text_named
  texts_rest n = rest_by (named t) refl n

  group_by : (l : Listed) → named t ≡ l → No statistics t → [] ≡ group_text_listed l w ts
  unfolding text_in
  group_by (listed heartbeat) e n = refl
  group_by (listed channel_heartbeat) e n = refl
  group_by (listed resend) e n = refl
  group_by (listed statistics) e n = absurd (n (named_back statistics t e))
  group_by (listed security_status) e n = refl
  group_by (listed snapshot) e n = refl
  group_by (listed index) e n = refl
  group_by (listed volume_index) e n = refl
  group_by (listed order) e n = refl
  group_by (listed trade) e n = refl
  group_by unlisted e n = refl

  pub group_texts_rest : No statistics t → [] ≡ group_text_named t w ts
  unfolding group_text_named
  group_texts_rest n = group_by (named t) refl n
