-- The numbers that a layout's fields hold: those that are read are numbers of the layout; the last of them is the count.
-- Assumes nothing.
use Prim.Native.Nat.{ℕ, ◌+◌, ◌-◌, ◌^◌, ◌<◌, ◌≤◌}
use mathlib.Core.Path.{◌≡◌, refl, ap, sym, ◌∙◌}
use mathlib.Core.List.{List, [], ◌∷◌, ◌++◌, append_assoc}
use native.Mathlib.Omega.{arith}
use lib.IntN.{ℤ, pos}
use lib.ListN.{length, take, drop, length-drop, length-append}
use lib.Seq.{length-take-le}
use mir.Syntax.{w64}
use mir.Val.{Fits, to_z}
use mir.Facts.{sfits_to_z}
use Rattle.wire.specs.Bytes.{Bytes, be_at}
use Rattle.wire.proofs.Digits.{be_bound, bytes_take, bytes_drop}
use Rattle.layout.specs.Kind.{Kind, channel, number, last_number, first_number, bid_number, offer_number, order_price, trade_price, previous_close, entry_price, quantity, amount, trade_count, order_count, time, side, order_type, execution, entry_type, level, group_count, stock_number, switch_type, yes_no, resend_type, status, text, Text, security, source, financial_status, unsigned, signed, form, width}
use Rattle.layout.specs.Layout.{Message, heartbeat, channel_heartbeat, resend, statistics, security_status, snapshot, index, volume_index, order, trade, fields, common_part, size, values, texts}
use Rattle.layout.specs.Group.{count}
use Rattle.bodies.specs.Body.{CanHold, plain, sign, Numbers, none, words, bits, last, encode, text_size, stated}
use Rattle.bodies.specs.Body as body_of
use Rattle.bodies.proofs.Round.{round}

-- ---- the numbers that are read

-- a kind is held as a number without a sign, with one, or is a text
data Seen : Kind → Type 0 where
  unsigned_by : {k : Kind} {w : ℕ} → form k ≡ unsigned w → Seen k
  signed_by : {k : Kind} → form k ≡ signed → Seen k
  a_text : {t : Text} → Seen (text t)

seen : (k : Kind) → Seen k
seen channel = unsigned_by refl
seen number = signed_by refl
seen last_number = signed_by refl
seen first_number = signed_by refl
seen bid_number = signed_by refl
seen offer_number = signed_by refl
seen order_price = signed_by refl
seen trade_price = signed_by refl
seen previous_close = signed_by refl
seen entry_price = signed_by refl
seen quantity = signed_by refl
seen amount = signed_by refl
seen trade_count = signed_by refl
seen order_count = signed_by refl
seen time = signed_by refl
seen side = unsigned_by refl
seen order_type = unsigned_by refl
seen execution = unsigned_by refl
seen entry_type = unsigned_by refl
seen level = unsigned_by refl
seen group_count = unsigned_by refl
seen stock_number = unsigned_by refl
seen switch_type = unsigned_by refl
seen yes_no = unsigned_by refl
seen resend_type = unsigned_by refl
seen status = unsigned_by refl
seen (text t) = a_text

pub be_at_bound : (s : List ℕ) (at w : ℕ) → Bytes s → at + w ≤ length s → be_at s at w < 256 ^ w
unfolding be_at
be_at_bound s at w b h =
    let n : length (take w (drop at s)) ≡ w = length-take-le w (drop at s) (rw length-drop (omega arith)) in
    rw n at (be_bound (bytes_take w (bytes_drop at b)))

one_more :
    {k : Kind} (ks : List Kind) (s : List ℕ) (at : ℕ) → Bytes s → at + width k ≤ length s → Seen k →
    Numbers ks (values ks s (at + width k)) → Numbers (k ∷ ks) (values (k ∷ ks) s at)
unfolding values
one_more ks s at b h (unsigned_by {k} {w} e) rest =
    let l : be_at s at w < 256 ^ w = be_at_bound s at w b (rw e at h) in
    let o : CanHold (form k) (pos (be_at s at w)) = rw e (plain l) in
    rw e (body_of.number o (rw e at rest))
one_more ks s at b h (signed_by {k} e) rest =
    let l : Fits w64 (be_at s at 8) = record { fits = be_at_bound s at 8 b (rw e at h) } in
    let o : CanHold (form k) (to_z w64 (be_at s at 8)) = rw e (sign (sfits_to_z l)) in
    rw e (body_of.number o (rw e at rest))
one_more ks s at b h a_text rest = words rest

pub numbers-read : (l : List Kind) (s : List ℕ) (at : ℕ) → Bytes s → at + size l ≤ length s → Numbers l (values l s at)
unfolding values size
numbers-read [] s at b h = none
numbers-read (k ∷ ks) s at b h =
    one_more ks s at b (omega arith) (seen k) (numbers-read ks s (at + width k) b (omega arith))

one-text : {k : Kind} (ks : List Kind) (s : List ℕ) (at : ℕ) → at + width k ≤ length s → Seen k → length (texts ks s (at + width k)) ≡ text_size ks → length (texts (k ∷ ks) s at) ≡ text_size (k ∷ ks)
unfolding texts text_size
one-text ks s at h (unsigned_by {k} {w} e) rest = rw e (omega (arith, rw e at rest))
one-text ks s at h (signed_by {k} e) rest = rw e (omega (arith, rw e at rest))
one-text ks s at h (a_text {t}) rest =
    rw (length-append, length-take-le (width (text t)) (drop at s) (rw length-drop (omega arith)), rest)

pub texts-read : (l : List Kind) (s : List ℕ) (at : ℕ) → at + size l ≤ length s → length (texts l s at) ≡ text_size l
unfolding texts text_size size
texts-read [] s at h = refl
texts-read (k ∷ ks) s at h = one-text ks s at (omega arith) (seen k) (texts-read ks s (at + width k) (omega arith))

-- ---- the count is the last of the numbers

last-append : (xs : List ℤ) (z : ℤ) → last (xs ++ (z ∷ [])) ≡ z
last-append [] z = refl
last-append (x ∷ []) z = refl
last-append (x ∷ y ∷ xs) z = last-append (y ∷ xs) z

values-last : (ks : List Kind) (s : List ℕ) (at : ℕ) → values (ks ++ (group_count ∷ [])) s at ≡ values ks s at ++ (pos (be_at s (at + size ks) 4) ∷ [])
unfolding values size
values-last [] s at = let e : at + 0 ≡ at = omega arith in rw e
values-last (k ∷ ks) s at =
    let e : at + width k + size ks ≡ at + (width k + size ks) = omega arith in
    rw (values-last ks s (at + width k), e, append_assoc)

size-last : (ks : List Kind) → size (ks ++ (group_count ∷ [])) ≡ size ks + 4
unfolding size
size-last [] = refl
size-last (k ∷ ks) = rw (size-last ks) (omega arith)

count-last :
    (ks : List Kind) {zs : List ℤ} (ts b : List ℕ) → Numbers (ks ++ (group_count ∷ [])) zs → length ts ≡ text_size (ks ++ (group_count ∷ [])) →
    be_at (encode (ks ++ (group_count ∷ [])) zs ts ++ b) (size (ks ++ (group_count ∷ [])) - 4) 4 ≡ bits (last zs)
count-last ks {zs} ts b g h =
    let s : List ℕ = encode (ks ++ (group_count ∷ [])) zs ts ++ b in
    let e : size ks + 4 - 4 ≡ size ks = omega arith in
    let z : 0 + size ks ≡ size ks = omega arith in
    rw (size-last ks, e)
    (sym
    (ap (λ (ys : List ℤ). bits (last ys)) (sym (round ts [] b g h).numbers ∙ values-last ks s 0)
    ∙ ap bits (last-append (values ks s 0) (pos (be_at s (0 + size ks) 4)))
    ∙ rw z))

module _ {zs : List ℤ} (ts b : List ℕ) where
  pub count_back : (m : Message) → Numbers (fields m) zs → length ts ≡ text_size (fields m) → count m (encode (fields m) zs ts ++ b) ≡ stated m zs
  count_back heartbeat g h = refl
  count_back channel_heartbeat g h = refl
  count_back resend g h = refl
  count_back statistics g h = count-last (time ∷ channel ∷ []) ts b g h
  count_back security_status g h =
      count-last (time ∷ channel ∷ text security ∷ text source ∷ text financial_status ∷ []) ts b g h
  count_back snapshot g h = count-last common_part ts b g h
  count_back index g h = count-last common_part ts b g h
  count_back volume_index g h = refl
  count_back order g h = refl
  count_back trade g h = refl
