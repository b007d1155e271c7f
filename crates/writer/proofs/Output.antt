-- A frame that is stored in parts: type, length, fields in the part behind the header, groups behind them, checksum behind all; no other byte changes.
-- Assumes nothing.
use Prim.Native.Nat.{ℕ, ◌+◌, ◌-◌, ◌≤◌}
use mathlib.Core.Path.{◌≡◌, ap, sym, ◌∙◌}
use mathlib.Core.List.{List, ◌++◌, append_assoc}
use native.Mathlib.Omega.{arith}
use lib.ListN.{length, take, drop, length-append, length-drop, take-append-drop}
use lib.Seq.{drop-drop, take-append_seam, length-take-le, drop_at, take_at, drop-append-add}
use Rattle.wire.specs.Bytes.{digits, part, splice, put_at, checksum_of}
use Rattle.wire.proofs.Be.{part_length}
use Rattle.wire.proofs.Digits.{length_digits}
use Rattle.wire.proofs.PutAt.{put_fits, length-splice, splice-more}
use Rattle.writer.specs.Write.{header, with_sum, frame_of}

-- ---- the frame

take-splice : (o b : List ℕ) (n : ℕ) → length b ≡ n → take n (splice o 0 b) ≡ b
unfolding splice
take-splice o b n h = rw (← h, take-append_seam)

-- bytes placed behind those that the output starts with
behind : (o a b y z : List ℕ) (n : ℕ) → y ≡ splice o 0 a → length a ≡ n → n + length b ≤ length o → z ≡ put_at y n b → z ≡ splice o 0 (a ++ b)
behind o a b y z n e l h f =
    let i : length y ≡ length o = ap length e ∙ length-splice o 0 a (omega arith) in
    let s : splice (splice o 0 a) (0 + length a) b ≡ splice o 0 (a ++ b) = splice-more o 0 a b (omega arith) in
    let k : 0 + length a ≡ n = omega arith in
    f ∙ put_fits y n b (omega arith) ∙ rw (e, ← k) s

-- bytes behind those that the output starts with, as they stood
kept_behind : (o a : List ℕ) (n k : ℕ) → length a ≡ n → n + k ≤ length o → splice o 0 a ≡ splice o 0 (a ++ take k (drop n o))
unfolding splice
kept_behind o a n k l h =
    let f : List ℕ = take k (drop n o) in
    let lf : length f ≡ k = length-take-le k (drop n o) (rw length-drop (omega arith)) in
    let p : 0 + length a ≡ n = omega arith in
    let q : 0 + length (a ++ f) ≡ n + k = omega (arith, length-append a f) in
    let d : f ++ drop (n + k) o ≡ drop n o = rw (← drop-drop k n o) (take-append-drop k (drop n o)) in
    rw (p, q, append_assoc a f (drop (n + k) o), d)

module _ (o : List ℕ) (t size l : ℕ) (gs : List ℕ) (k : l ≡ size + length gs) (room : 12 + l ≤ length o) where
  fs : List ℕ
  fs = part 8 (8 + size) o

  length_fs : length fs ≡ size
  unfolding fs
  length_fs = part_length 8 (8 + size) o (omega arith) ∙ omega arith

  -- header, fields and groups
  front : (x y m : List ℕ) → x ≡ put_at o 0 (digits 4 t) → y ≡ put_at x 4 (digits 4 l) → m ≡ put_at y (8 + size) gs → m ≡ splice o 0 (header t l ++ (fs ++ gs))
  unfolding header fs
  front x y m ex ey em =
      let a : List ℕ = digits 4 t in
      let b : List ℕ = digits 4 l in
      let d : List ℕ = a ++ b in
      let f : List ℕ = take (8 + size - 8) (drop 8 o) in
      let la : length a ≡ 4 = length_digits 4 t in
      let lb : length b ≡ 4 = length_digits 4 l in
      let x2 : x ≡ splice o 0 a = ex ∙ put_fits o 0 a (omega arith) in
      let y2 : y ≡ splice o 0 d = behind o a b x y 4 x2 la (omega arith) ey in
      let ld : length d ≡ 8 = length-append a b ∙ omega arith in
      let n : 8 + size - 8 ≡ size = omega arith in
      let q : y ≡ splice o 0 (d ++ f) = y2 ∙ kept_behind o d 8 (8 + size - 8) ld (omega arith) in
      let lf : length (d ++ f) ≡ 8 + size = length-append d f ∙ omega (arith, length_fs) in
      behind o (d ++ f) gs y m (8 + size) q lf (omega arith) em ∙ ap (splice o 0) (append_assoc d f gs)

  long : length (header t l ++ (fs ++ gs)) ≡ 8 + l
  unfolding header
  long = simp (length-append, length_digits, length_fs) (omega arith)

  -- the checksum behind them
  pub sealed : (x y m z : List ℕ) (c : ℕ) → x ≡ put_at o 0 (digits 4 t) → y ≡ put_at x 4 (digits 4 l) → m ≡ put_at y (8 + size) gs →
      c ≡ checksum_of (part 0 (8 + l) m) → z ≡ put_at m (8 + l) (digits 4 c) → z ≡ splice o 0 (frame_of t (part 8 (8 + size) o ++ gs))
  unfolding with_sum fs
  sealed x y m z c ex ey em ec ez =
      let s : List ℕ = header t l ++ (fs ++ gs) in
      let e : m ≡ splice o 0 s = front x y m ex ey em in
      let v : 8 + l - 0 ≡ 8 + l = omega arith in
      let g : part 0 (8 + l) m ≡ s = rw (e, v) (take-splice o s (8 + l) long) in
      let f : c ≡ checksum_of s = ec ∙ ap checksum_of g in
      let i : length (fs ++ gs) ≡ l = length-append fs gs ∙ omega (arith, length_fs) in
      let lc : length (digits 4 c) ≡ 4 = length_digits 4 c in
      behind o s (digits 4 c) m z (8 + l) e long (omega arith) ez
      ∙ rw (f, i)

-- ---- fields in their part of the output, and the frame round them

module _ (o fs : List ℕ) (size : ℕ) (n : length fs ≡ size) (h : 8 + size ≤ length o) where
  -- the output with the fields behind the header's place
  abbrev filled-part : List ℕ
  filled-part = take 8 o ++ (fs ++ drop size (drop 8 o))

  split : filled-part ≡ (take 8 o ++ fs) ++ drop (8 + size) o
  split = rw drop-drop (sym (append_assoc (take 8 o) fs (drop (8 + size) o)))

  length-start : length (take 8 o ++ fs) ≡ 8 + size
  length-start = length-append (take 8 o) fs ∙ rw (n, length-take-le 8 o (omega arith))

  pub same_length : length filled-part ≡ length o
  same_length = rw split (length-append (take 8 o ++ fs) _ ∙ rw (length-start, length-drop) (omega arith))

  fields-there : part 8 (8 + size) filled-part ≡ fs
  fields-there =
      let e : 8 + size - 8 ≡ size = omega arith in
      rw (e, drop_at (take 8 o) _ 8 (length-take-le 8 o (omega arith))) (take_at fs _ size n)

  kept_after : (k : ℕ) → 8 + size ≤ k → drop k filled-part ≡ drop k o
  kept_after k i =
      let j : ℕ = k - (8 + size) in
      let e : k ≡ length (take 8 o ++ fs) + j = omega (arith, length-start) in
      let f : k ≡ 8 + size + j = omega arith in
      rw split (ap (λ (q : ℕ). drop q ((take 8 o ++ fs) ++ drop (8 + size) o)) e ∙ drop-append-add (take 8 o ++ fs) (drop (8 + size) o) j ∙ drop-drop j (8 + size) o ∙ ap (λ (q : ℕ). drop q o) (sym f))

  pub round : (t : ℕ) (gs z : List ℕ) → z ≡ splice filled-part 0 (frame_of t (part 8 (8 + size) filled-part ++ gs)) → z ≡ splice o 0 (frame_of t (fs ++ gs))
  unfolding splice with_sum header
  round t gs z e =
      let l : 8 + size ≤ 0 + length (frame_of t (fs ++ gs)) = simp (length-append, length_digits) (omega arith) in
      e ∙ rw fields-there (rw (kept_after (0 + length (frame_of t (fs ++ gs))) l))
