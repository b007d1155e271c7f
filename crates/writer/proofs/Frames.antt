-- A header, a body and their checksum read back as that frame, whatever stands behind it; a frame that reads is its header, its body and their checksum. Over the header's width and the body limit.
-- Assumes nothing.
use Prim.Native.Nat.{ℕ, ◌+◌, ◌-◌, ◌^◌, ◌<◌, ◌≤◌}
use mathlib.Core.Path.{◌≡◌, refl, ap, sym, ◌∙◌}
use mathlib.Core.List.{List, [], ◌++◌, append_assoc, append-nil}
use native.Mathlib.Omega.{arith}
use lib.Dec.{lit≤}
use lib.ListN.{length, take, drop, length-append, length-drop}
use lib.Seq.{drop_at, take-add, length-take-le, take-append_seam}
use Rattle.wire.specs.Answer.{accepted}
use Rattle.wire.specs.Bytes.{Bytes, be_at, digits, part, checksum_of}
use Rattle.wire.proofs.Be.{be_at-between, be_at-behind, fewer}
use Rattle.wire.proofs.Digits.{length_digits, be-digits, digits-be_at}
use Rattle.frame.specs.Framing.{header_width, sum_width, body_limit, type_of, length_of, read}
use Rattle.frame.specs.declared.Frame.{Frame}
use Rattle.frame.proofs.Framing.{read_as_lem, whole, known_of}
use Rattle.writer.specs.Write.{header, with_sum, frame_of}

-- ---- what is written reads back

-- the frame that a header of type and length, and a body of len bytes, say
abbrev pub said : ℕ → ℕ → ℕ → Frame
said h type len = record { kind = type; len = len; total = h + len + sum_width }

module _ (h limit : ℕ) (hd b z : List ℕ) (g : 4 ≤ h) (n : length hd ≡ h) where
  front : List ℕ
  front = hd ++ b

  long : length front ≡ h + length b
  unfolding front
  long = length-append hd b ∙ rw n

  -- the frame with what stands behind it
  bytes_of : List ℕ
  bytes_of = with_sum front ++ z

  split : bytes_of ≡ front ++ (digits 4 (checksum_of front) ++ z)
  unfolding bytes_of with_sum
  split = append_assoc front _ z

  length_of_lem : length bytes_of ≡ h + length b + sum_width + length z
  unfolding bytes_of with_sum
  length_of_lem = simp (length-append, length_digits, long) (omega arith)

  in_front : (at w : ℕ) → at + w ≤ h → be_at bytes_of at w ≡ be_at hd at w
  unfolding front
  in_front at w i =
      rw split (be_at-behind front _ at w (rw long (omega arith)) ∙ be_at-behind hd b at w (omega arith))

  frame_reads : length_of h hd ≡ length b → length b ≤ limit → read h limit bytes_of ≡ accepted (said h (type_of hd) (length b))
  frame_reads e l =
      read_as_lem
      (whole
      (record {
        header = omega (arith, length_of_lem);
        len = sym (in_front (h - 4) 4 (omega arith) ∙ e);
        within = l;
        total = refl;
        there = omega (arith, length_of_lem);
        sum = held_sum ∙ sym front_sum;
        kind = sym (in_front 0 4 (omega arith));
      })) where
        held_sum : be_at bytes_of (h + length b) sum_width ≡ checksum_of front
        held_sum =
            rw (split, ← long)
            (be_at-between front (digits 4 (checksum_of front)) z 4 (length_digits 4 (checksum_of front))
            ∙ be-digits 4 (checksum_of front) (fewer 1 4 (lit≤ tt) (omega arith)))

        front_sum : checksum_of (part 0 (h + length b) bytes_of) ≡ checksum_of front
        front_sum =
            let z : length front - 0 ≡ length front = omega arith in
            rw (split, ← long, z) (ap checksum_of (take-append_seam front _))

  body_back : part h (h + length b) bytes_of ≡ b
  unfolding front
  body_back =
      let e : h + length b - h ≡ length b = omega arith in
      rw (split, e, append_assoc hd b _, drop_at hd _ h n) (take-append_seam b _)

-- a header says its type and the body's length
module _ (type l : ℕ) (t : type < 256 ^ 4) (k : l < 256 ^ 4) where
  pub length-header : length (header type l) ≡ header_width
  unfolding header
  length-header = simp (length-append, length_digits)

  header-type : type_of (header type l) ≡ type
  unfolding header
  header-type = be_at-between [] (digits 4 type) (digits 4 l) 4 (length_digits 4 type) ∙ be-digits 4 type t

  header-length : length_of header_width (header type l) ≡ l
  unfolding header
  header-length =
      rw (append-nil, length_digits 4 type) at (be_at-between (digits 4 type) (digits 4 l) [] 4 (length_digits 4 l)) ∙ be-digits 4 l k

-- the frame of a body reads back, whatever stands behind it
pub record Framed (type : ℕ) (b s : List ℕ) : Type 0 where
  pub reads : read header_width body_limit s ≡ accepted (said header_width type (length b))
  pub lent : part header_width (header_width + length b) s ≡ b

pub framed : (type : ℕ) (b z : List ℕ) → type < 256 ^ 4 → length b ≤ body_limit → Framed type b (frame_of type b ++ z)
unfolding bytes_of front
framed type b z t l =
    let k : length b < 256 ^ 4 = omega arith in
    let hd : List ℕ = header type (length b) in
    let n : length hd ≡ header_width = length-header type (length b) t k in
    record {
      reads =
          frame_reads header_width body_limit hd b z (lit≤ tt) n (header-length type (length b) t k) l
          ∙ rw (header-type type (length b) t k);
      lent = body_back header_width body_limit hd b z (lit≤ tt) n;
    }

-- ---- what is read and written again is the same bytes

module _ (h limit : ℕ) (s : List ℕ) (f : Frame) (b : Bytes s) (e : read h limit s ≡ accepted f) where
  frame_again : take f.total s ≡ with_sum (take (h + f.len) s)
  unfolding with_sum
  frame_again =
      let a = known_of h limit s f e in
      let i : h + f.len + 4 ≤ length s = omega (arith, a.total, a.there) in
      let z : h + f.len - 0 ≡ h + f.len = omega arith in
      rw (a.total, take-add (h + f.len) 4 s, ← digits-be_at s (h + f.len) 4 b i, a.sum, z)

-- the header of a frame
header_again : (s : List ℕ) → Bytes s → 8 ≤ length s → take 8 s ≡ header (type_of s) (length_of 8 s)
unfolding header
header_again s b i =
    rw (digits-be_at s 0 4 b (omega arith), digits-be_at s 4 4 b (omega arith)) (take-add 4 4 s)

pub framed_again : (s : List ℕ) (f : Frame) → Bytes s → read header_width body_limit s ≡ accepted f → take f.total s ≡ frame_of f.kind (part header_width (header_width + f.len) s)
framed_again s f b e =
    let a = known_of header_width body_limit s f e in
    let z : 8 + f.len - 8 ≡ f.len = omega arith in
    let n : length (take f.len (drop 8 s)) ≡ f.len =
    length-take-le f.len (drop 8 s) (rw length-drop (omega (arith, a.total, a.there)))
    in
    frame_again header_width body_limit s f b e
    ∙ rw (take-add 8 f.len s, header_again s b a.header, z, n, ← a.kind, ← a.len)
