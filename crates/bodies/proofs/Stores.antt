-- Fields that are stored one behind the other are the encoding of their layout; once for every layout.
-- Assumes nothing.
use Prim.Native.Nat.{ℕ, ◌+◌, ◌^◌, ◌<◌, ◌≤◌}
use mathlib.Core.Path.{◌≡◌, refl, ap, sym, ◌∙◌}
use mathlib.Core.Bool.{Bool, true, false}
use mathlib.Core.List.{List, [], ◌∷◌, ◌++◌, append-nil, append_assoc}
use native.Mathlib.Omega.{arith}
use borrow.Author.Tests.{eq-eqb, ne_eqb, eqb-true, eqb-false}
use lib.Dec.{eqb}
use lib.IntN.{ℤ}
use lib.Signed.{mag}
use lib.ListN.{length, take, drop, length-drop, take-append-drop, drop_of_length-le}
use lib.Seq.{drop-drop, take-add, take_all, length-take-le}
use mir.Syntax.{w64}
use mir.Val.{to_z, of_z}
use mir.Facts.{to_z-of_z}
use Rattle.wire.specs.Bytes.{digits, splice, put_at}
use Rattle.wire.proofs.PutAt.{put_fits, length-splice, splice-more}
use Rattle.layout.specs.Kind.{Kind, text, Text, Form, unsigned, signed, written, form, width, characters}
use Rattle.layout.specs.Layout.{Message, snapshot, index, volume_index, fields, size, texts_behind}
use Rattle.bodies.specs.Body.{numbers_behind, field_bytes, encode, text_width, text_size}
use Rattle.bodies.specs.Parts.{put_fields}
use Rattle.bodies.proofs.Round.{length_field, length-encode, length-behind}

texts-from : (f : Form) (ts : List ℕ) (p : ℕ) → texts_behind f (drop p ts) ≡ drop (p + text_width f) ts
texts-from (unsigned w) ts p = let e : p + 0 ≡ p = omega arith in rw e
texts-from signed ts p = let e : p + 0 ≡ p = omega arith in rw e
texts-from (written t) ts p = drop-drop (characters t) p ts

-- z is y with the fields of a layout stored from offset n on, their texts from offset p on
pub record Stored (l : List Kind) (zs : List ℤ) (ts : List ℕ) (p : ℕ) (y z : List ℕ) (n : ℕ) : Type 0 where
  pub is : n + size l ≤ length y → length (drop p ts) ≡ text_size l → z ≡ splice y n (encode l zs (drop p ts))

pub done : {zs : List ℤ} {ts : List ℕ} {p : ℕ} {y : List ℕ} {n : ℕ} → Stored [] zs ts p y y n
unfolding splice encode
done {zs} {ts} {p} {y} {n} =
    record { is = λ h t. let e : n + 0 ≡ n = omega arith in rw e (sym (take-append-drop n y)) }

pub field :
    {k : Kind} {ks : List Kind} {zs : List ℤ} {ts : List ℕ} {p : ℕ} {y x z : List ℕ} {n : ℕ} → x ≡ put_at y n (field_bytes (form k) zs (drop p ts)) →
    Stored ks (numbers_behind (form k) zs) ts (p + text_width (form k)) x z (n + width k) → Stored (k ∷ ks) zs ts p y z n
unfolding encode size text_size
field {k} {ks} {zs} {ts} {p} {y} {x} {z} {n} e r =
    record {
      is =
          λ h t.
          let b : List ℕ = field_bytes (form k) zs (drop p ts) in
          let s = numbers_behind (form k) zs in
          let f = texts-from (form k) ts p in
          let m : length b ≡ width k = length_field (form k) zs (drop p ts) (omega arith) in
          let u : length (drop (p + text_width (form k)) ts) ≡ text_size ks =
          ap length (sym f) ∙ length-behind (form k) (drop p ts) ∙ omega arith
          in
          let l : length (encode ks s (drop (p + text_width (form k)) ts)) ≡ size ks = length-encode ks s (drop (p + text_width (form k)) ts) u in
          let i : x ≡ splice y n b = e ∙ put_fits y n b (omega arith) in
          let j : length x ≡ length y = ap length i ∙ length-splice y n b (omega arith) in
          r.is (omega arith) u
          ∙ rw (i, f, ← m)
          (splice-more y n b (encode ks s (drop (p + text_width (form k)) ts)) (omega arith));
    }

-- the bits of a signed number that passed a field of a struct
pub kept_bits : (z : ℤ) → mag z < 2 ^ 63 → of_z w64 (to_z w64 (of_z w64 z)) ≡ of_z w64 z
kept_bits z h = ap (of_z w64) (to_z-of_z {w = w64} {z = z} (record { sfits = h }))

pub signed_field :
    {k : Kind} {ks : List Kind} {z : ℤ} {zs : List ℤ} {ts : List ℕ} {p : ℕ} {y x w : List ℕ} {n : ℕ} → form k ≡ signed →
    mag z < 2 ^ 63 → x ≡ put_at y n (digits 8 (of_z w64 (to_z w64 (of_z w64 z)))) →
    Stored ks (numbers_behind (form k) (z ∷ zs)) ts (p + text_width (form k)) x w (n + width k) →
    Stored (k ∷ ks) (z ∷ zs) ts p y w n
signed_field {k} {ks} {z} {zs} {ts} {p} {y} {x} {w} {n} f h e r = field (e ∙ rw (kept_bits z h, f)) r

-- texts side by side, and the fields behind them
abbrev texts_then : List Text → List Kind → List Kind
texts_then [] ks = ks
texts_then (t ∷ us) ks = text t ∷ texts_then us ks

abbrev wide : List Text → ℕ
wide [] = 0
wide (t ∷ us) = characters t + wide us

size-texts : (us : List Text) (ks : List Kind) → size (texts_then us ks) ≡ wide us + size ks
unfolding size
size-texts [] ks = omega arith
size-texts (t ∷ us) ks = rw (size-texts us ks) (omega arith)

text_size-texts : (us : List Text) (ks : List Kind) → text_size (texts_then us ks) ≡ wide us + text_size ks
unfolding text_size
text_size-texts [] ks = omega arith
text_size-texts (t ∷ us) ks = rw (text_size-texts us ks) (omega arith)

encode-texts : (us : List Text) (ks : List Kind) (zs : List ℤ) (ts : List ℕ) → encode (texts_then us ks) zs ts ≡ take (wide us) ts ++ encode ks zs (drop (wide us) ts)
unfolding encode
encode-texts [] ks zs ts = refl
encode-texts (t ∷ us) ks zs ts =
    rw (
      encode-texts us ks zs (drop (characters t) ts),
      take-add (characters t) (wide us) ts,
      append_assoc (take (characters t) ts) _ _,
      drop-drop (wide us) (characters t) ts,
    )

-- they are stored by one copy
pub words :
    (us : List Text) {ks : List Kind} {zs : List ℤ} {ts : List ℕ} {p : ℕ} {y x z : List ℕ} {n : ℕ} → x ≡ put_at y n (take (wide us) (drop p ts)) →
    Stored ks zs ts (p + wide us) x z (n + wide us) → Stored (texts_then us ks) zs ts p y z n
words us {ks} {zs} {ts} {p} {y} {x} {z} {n} e r =
    record {
      is =
          λ h t.
          let b : List ℕ = take (wide us) (drop p ts) in
          let c : List ℕ = encode ks zs (drop (p + wide us) ts) in
          let k : size (texts_then us ks) ≡ wide us + size ks = size-texts us ks in
          let v : length (drop p ts) ≡ wide us + text_size ks = t ∙ text_size-texts us ks in
          let d : drop (wide us) (drop p ts) ≡ drop (p + wide us) ts = drop-drop (wide us) p ts in
          let m : length b ≡ wide us = length-take-le (wide us) (drop p ts) (omega arith) in
          let u : length (drop (p + wide us) ts) ≡ text_size ks =
          ap length (sym d) ∙ length-drop (wide us) (drop p ts) ∙ omega arith
          in
          let l : length c ≡ size ks = length-encode ks zs (drop (p + wide us) ts) u in
          let i : x ≡ splice y n b = e ∙ put_fits y n b (omega arith) in
          let j : length x ≡ length y = ap length i ∙ length-splice y n b (omega arith) in
          let f : b ++ c ≡ encode (texts_then us ks) zs (drop p ts) =
          ap (λ (q : List ℕ). b ++ encode ks zs q) (sym d) ∙ sym (encode-texts us ks zs (drop p ts))
          in
          r.is (omega arith) u
          ∙ (λ q. splice (i q) (n + sym m q) c)
          ∙ splice-more y n b c (omega arith)
          ∙ ap (splice y n) f;
    }

-- by the bytes that are copied
pub words_as :
    (us : List Text) {ks : List Kind} {zs : List ℤ} {ts bs : List ℕ} {p : ℕ} {y x z : List ℕ} {n : ℕ} → bs ≡ take (wide us) (drop p ts) →
    x ≡ put_at y n bs → Stored ks zs ts (p + wide us) x z (n + wide us) → Stored (texts_then us ks) zs ts p y z n
words_as us {y = y} {n = n} i e r = words us (e ∙ ap (put_at y n) i) r

-- all the texts that are left
pub words_left :
    (us : List Text) {ks : List Kind} {zs : List ℤ} {ts bs : List ℕ} {p : ℕ} {y x z : List ℕ} {n : ℕ} → bs ≡ drop p ts →
    length ts ≡ p + wide us → x ≡ put_at y n bs → Stored ks zs ts (p + wide us) x z (n + wide us) →
    Stored (texts_then us ks) zs ts p y z n
words_left us {ts = ts} {p = p} i h e r =
    let l : length (drop p ts) ≤ wide us = rw length-drop (omega (arith, h)) in
    words_as us (i ∙ sym (take_all (wide us) (drop p ts) l)) e r

-- all of them
pub all_words :
    (us : List Text) {ks : List Kind} {zs : List ℤ} {ts y x z : List ℕ} {n : ℕ} → length ts ≡ wide us → x ≡ put_at y n ts →
    Stored ks zs ts (0 + wide us) x z (n + wide us) → Stored (texts_then us ks) zs ts 0 y z n
all_words us h e r = words_left us refl (omega (arith, h)) e r

-- ---- an output for the fields alone

module _ (m : Message) (zs : List ℤ) (ts out : List ℕ) where
  pub other_texts : (length ts ≡ text_size (fields m) → ⊥) → out ≡ put_fields m zs ts out
  unfolding put_fields
  other_texts h = rw (ne_eqb (length ts) (text_size (fields m)) h)

  pub other_room : length ts ≡ text_size (fields m) → (length out ≡ size (fields m) → ⊥) → out ≡ put_fields m zs ts out
  unfolding put_fields
  other_room t h = rw (eq-eqb (length ts) (text_size (fields m)) t, ne_eqb (length out) (size (fields m)) h)

  pub fits : length ts ≡ text_size (fields m) → length out ≡ size (fields m) → put_fields m zs ts out ≡ encode (fields m) zs ts
  unfolding put_fields
  fits t h = rw (eq-eqb (length ts) (text_size (fields m)) t, eq-eqb (length out) (size (fields m)) h)

  -- fields that fill it
  pub stored : {z : List ℕ} → length ts ≡ text_size (fields m) → length out ≡ size (fields m) → Stored (fields m) zs ts 0 out z 0 → z ≡ encode (fields m) zs ts
  unfolding splice
  stored t h r =
      let n : length (encode (fields m) zs ts) ≡ size (fields m) = length-encode (fields m) zs ts t in
      let e : splice out 0 (encode (fields m) zs ts) ≡ encode (fields m) zs ts = rw (n, drop_of_length-le out {i = 0 + size (fields m)} (omega arith), append-nil) in
      r.is (omega arith) t ∙ e

  stored_by : (a b : Bool) → eqb (length ts) (text_size (fields m)) ≡ a → eqb (length out) (size (fields m)) ≡ b → length (put_fields m zs ts out) ≡ length out
  stored_by true true p q =
      let t = eqb-true _ _ p in
      let h = eqb-true _ _ q in
      ap length (fits t h) ∙ length-encode (fields m) zs ts t ∙ sym h
  stored_by true false p q = ap length (sym (other_room (eqb-true _ _ p) (eqb-false _ _ q)))
  stored_by false b p q = ap length (sym (other_texts (eqb-false _ _ p)))

  -- it keeps its length
  pub length_stored : length (put_fields m zs ts out) ≡ length out
  length_stored = stored_by (eqb (length ts) (text_size (fields m))) (eqb (length out) (size (fields m))) refl refl

-- an index is stored as a snapshot is, and a stock number as a count is
pub index_stored : (zs : List ℤ) (ts out : List ℕ) → put_fields snapshot zs ts out ≡ put_fields index zs ts out
unfolding put_fields
index_stored zs ts out = refl

pub volume_index_stored : (zs : List ℤ) (ts out : List ℕ) → put_fields snapshot zs ts out ≡ put_fields volume_index zs ts out
unfolding put_fields size text_size encode
volume_index_stored zs ts out = refl
