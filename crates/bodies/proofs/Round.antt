-- What is encoded reads back, and what is read and encoded again is the same bytes; once for every layout.
-- Assumes nothing.
use Prim.Native.Nat.{ℕ, ◌+◌, ◌-◌, ◌^◌, ◌<◌, ◌≤◌}
use mathlib.Core.Path.{◌≡◌, refl, ap, ◌∙◌}
use mathlib.Core.Bool.{◌&&◌}
use mathlib.Core.List.{List, [], ◌∷◌, ◌++◌, append_assoc}
use native.Mathlib.Omega.{arith}
use lib.IntN.{ℤ}
use lib.ListN.{length, take, drop, length-append, length-drop, take-append-drop}
use lib.Seq.{drop-append_seam, take_at, drop_at, take-add, drop-drop, length-take-le}
use mir.Syntax.{w64}
use mir.Val.{Fits}
use mir.Facts.{to_z-of_z, Fits-of_z, of_z-to_z}
use Rattle.wire.specs.Bytes.{Bytes, be_at, digits}
use Rattle.wire.proofs.Be.{be_at-between}
use Rattle.wire.proofs.Digits.{length_digits, be-digits, be_bound, digits-be_at, bytes_take, bytes_drop}
use Rattle.layout.specs.Kind.{Kind, Form, unsigned, signed, written, form, bytes, width, characters, ranged}
use Rattle.layout.specs.Layout.{size, ranges, value_at, values, text_at, texts, texts_behind}
use Rattle.bodies.specs.Body.{CanHold, plain, sign, Numbers, none, number, words, bits, first, numbers_behind, field_bytes, encode, text_width, text_size, numbers_in}

-- ---- one fixed field that holds a number

pub record Fixed (f : Form) (z : ℤ) : Type 0 where
  pub bound : bits z < 256 ^ bytes f
  pub held : (zs : List ℤ) (ts : List ℕ) → field_bytes f (z ∷ zs) ts ≡ digits (bytes f) (bits z)
  pub behind : (zs : List ℤ) → numbers_behind f (z ∷ zs) ≡ zs
  pub no_text : (ts : List ℕ) → texts_behind f ts ≡ ts
  pub no_words : (s : List ℕ) (at : ℕ) → text_at f s at ≡ []
  pub no_width : text_width f ≡ 0
  pub back : (s : List ℕ) (at : ℕ) → be_at s at (bytes f) ≡ bits z → value_at f s at ≡ z ∷ []

fixed : {f : Form} {z : ℤ} → CanHold f z → Fixed f z
fixed (plain h) =
    record {
      bound = h;
      held = λ zs ts. refl;
      behind = λ zs. refl;
      no_text = λ ts. refl;
      no_words = λ s at. refl;
      no_width = refl;
      back = λ s at e. rw e;
    }
fixed (sign h) =
    record {
      bound = (Fits-of_z {w = w64} h).fits;
      held = λ zs ts. refl;
      behind = λ zs. refl;
      no_text = λ ts. refl;
      no_words = λ s at. refl;
      no_width = refl;
      back = λ s at e. rw (e, to_z-of_z h);
    }

-- ---- what is encoded reads back

-- bytes from an offset on read as numbers and texts, and are in range where the numbers are
pub record Back (l : List Kind) (zs : List ℤ) (ts s : List ℕ) (at : ℕ) : Type 0 where
  pub numbers : values l s at ≡ zs
  pub wording : texts l s at ≡ ts
  pub inside : ranges l s at ≡ numbers_in l zs

empty : (ts : List ℕ) → length ts ≡ 0 → [] ≡ ts
empty [] h = refl
empty (x ∷ ts) h = absurd (omega arith)

pub round : {l : List Kind} {zs : List ℤ} (ts a b : List ℕ) → Numbers l zs → length ts ≡ text_size l → Back l zs ts (a ++ (encode l zs ts ++ b)) (length a)
unfolding values texts ranges numbers_in encode text_size ranged
round ts a b none h = record { numbers = refl; wording = empty ts h; inside = refl }
round ts a b (number {k} {ks} {z} {zs} o g) h =
    let f = fixed o in
    let d : List ℕ = digits (width k) (bits z) in
    let n : length d ≡ width k = length_digits (width k) (bits z) in
    let e : be_at (a ++ (d ++ (encode ks zs ts ++ b))) (length a) (width k) ≡ bits z =
    be_at-between a d _ (width k) n ∙ be-digits (width k) (bits z) f.bound
    in
    let q : (a ++ d) ++ (encode ks zs ts ++ b) ≡ a ++ (d ++ (encode ks zs ts ++ b)) = append_assoc a d _ in
    let p : length (a ++ d) ≡ length a + width k = length-append a d ∙ rw n in
    let r = rw (q, p) at (round ts (a ++ d) b g (omega (arith, f.no_width))) in
    rw (f.held zs ts, f.behind zs, f.no_text ts, append_assoc d (encode ks zs ts) b)
    (record {
      numbers = rw (f.back _ _ e) (ap (◌∷◌ z) r.numbers);
      wording = rw f.no_words r.wording;
      inside = rw (e, f.behind zs) (ap (◌&&◌ (ranged k (bits z))) r.inside);
    })
round ts a b (words {t} {ks} {zs} g) h =
    let w : ℕ = characters t in
    let d : List ℕ = take w ts in
    let n : length d ≡ w = length-take-le w ts (omega arith) in
    let q : (a ++ d) ++ (encode ks zs (drop w ts) ++ b) ≡ a ++ (d ++ (encode ks zs (drop w ts) ++ b)) = append_assoc a d _ in
    let p : length (a ++ d) ≡ length a + w = length-append a d ∙ rw n in
    let r = rw (q, p) at (round (drop w ts) (a ++ d) b g (rw length-drop (omega arith))) in
    rw (append_assoc d (encode ks zs (drop w ts)) b)
    (record {
      numbers = r.numbers;
      wording = rw (drop-append_seam, take_at d _ w n, r.wording) (take-append-drop w ts);
      inside = r.inside;
    })

-- ---- a field has its width

pub length_field : (f : Form) (zs : List ℤ) (ts : List ℕ) → text_width f ≤ length ts → length (field_bytes f zs ts) ≡ bytes f
length_field (unsigned w) zs ts h = length_digits w (bits (first zs))
length_field signed zs ts h = length_digits 8 (bits (first zs))
length_field (written t) zs ts h = length-take-le (characters t) ts h

pub length-behind : (f : Form) (ts : List ℕ) → length (texts_behind f ts) ≡ length ts - text_width f
length-behind (unsigned w) ts = omega arith
length-behind signed ts = omega arith
length-behind (written t) ts = length-drop (characters t) ts

pub length-encode : (l : List Kind) (zs : List ℤ) (ts : List ℕ) → length ts ≡ text_size l → length (encode l zs ts) ≡ size l
unfolding encode text_size size
length-encode [] zs ts h = refl
length-encode (k ∷ ks) zs ts h =
    let u : length (texts_behind (form k) ts) ≡ text_size ks = length-behind (form k) ts ∙ omega arith in
    rw (
      length-append,
      length_field (form k) zs ts (omega arith),
      length-encode ks (numbers_behind (form k) zs) (texts_behind (form k) ts) u,
    )

-- ---- what is read and encoded again is the same bytes

module _ (s : List ℕ) (at : ℕ) (b : Bytes s) where
  eight : at + 8 ≤ length s → Fits w64 (be_at s at 8)
  unfolding be_at
  eight h =
      let n : length (take 8 (drop at s)) ≡ 8 = length-take-le 8 (drop at s) (rw length-drop (omega arith)) in
      record { fits = rw n at (be_bound (bytes_take 8 (bytes_drop at b))) }

  field_again : (f : Form) (zs : List ℤ) (ts : List ℕ) → at + bytes f ≤ length s → field_bytes f (value_at f s at ++ zs) (text_at f s at ++ ts) ≡ take (bytes f) (drop at s)
  field_again (unsigned w) zs ts h = digits-be_at s at w b h
  field_again signed zs ts h = rw (of_z-to_z {w = w64} (eight h)) (digits-be_at s at 8 b h)
  field_again (written t) zs ts h =
      take_at (take (characters t) (drop at s)) ts (characters t) (length-take-le (characters t) (drop at s) (rw length-drop (omega arith)))

numbers_again : (f : Form) (s : List ℕ) (at : ℕ) (zs : List ℤ) → numbers_behind f (value_at f s at ++ zs) ≡ zs
numbers_again (unsigned w) s at zs = refl
numbers_again signed s at zs = refl
numbers_again (written t) s at zs = refl

texts_again : (f : Form) (s : List ℕ) (at : ℕ) (ts : List ℕ) → at + bytes f ≤ length s → texts_behind f (text_at f s at ++ ts) ≡ ts
texts_again (unsigned w) s at ts h = refl
texts_again signed s at ts h = refl
texts_again (written t) s at ts h =
    drop_at (take (characters t) (drop at s)) ts (characters t) (length-take-le (characters t) (drop at s) (rw length-drop (omega arith)))

pub again : (l : List Kind) (s : List ℕ) (at : ℕ) → Bytes s → at + size l ≤ length s → encode l (values l s at) (texts l s at) ≡ take (size l) (drop at s)
unfolding encode values texts size
again [] s at b h = refl
again (k ∷ ks) s at b h =
    let i : at + width k ≤ length s = omega arith in
    let zs = values ks s (at + width k) in
    let ts = texts ks s (at + width k) in
    rw (
      field_again s at b (form k) zs ts i,
      numbers_again (form k) s at zs,
      texts_again (form k) s at ts i,
      again ks s (at + width k) b (omega arith),
      take-add (width k) (size ks) (drop at s),
      drop-drop (width k) at s,
    )
