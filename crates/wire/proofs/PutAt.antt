-- Bytes at an offset of an output: where they fit, where they don't, and some behind others.
-- Assumes nothing.
use Rattle.std.proofs.Common.{◌≡◌, ℕ, suc, ◌+◌, ◌<◌, ◌≤◌, List, [], ◌∷◌, ◌++◌, length, take, drop, set, sym, ap, ◌∙◌, append_assoc, arith, length-append, length-drop, length-take-le, drop-drop, le-leb}
use borrow.Author.Tests.{lt-leb}
use lib.Seq.{paste, take-length, set_split, take-append_seam, drop-append-add}
use Rattle.wire.specs.Bytes.{splice, put_at}

pub put_fits : (out : List ℕ) (at : ℕ) (bs : List ℕ) → at + length bs ≤ length out → put_at out at bs ≡ splice out at bs
unfolding put_at
put_fits out at bs h = rw (le-leb (at + length bs) (length out) h)

pub put_short : (out : List ℕ) (at : ℕ) (bs : List ℕ) → length out < at + length bs → put_at out at bs ≡ out
unfolding put_at
put_short out at bs h = rw (lt-leb (at + length bs) (length out) h)

pub length-splice : (out : List ℕ) (at : ℕ) (bs : List ℕ) → at + length bs ≤ length out → length (splice out at bs) ≡ length out
unfolding splice
length-splice out at bs h = simp (length-append, length-drop, length-take-le at out (omega arith)) (omega arith)

pub paste_all : (out : List ℕ) (at : ℕ) (bs : List ℕ) → paste out at bs (length bs) ≡ splice out at bs
unfolding splice
paste_all out at bs = rw (take-length, append_assoc)

pub splice-one : (out : List ℕ) (at v : ℕ) → at < length out → set out at v ≡ splice out at (v ∷ [])
unfolding splice
splice-one out at v h = let e : suc at ≡ at + 1 = omega arith in set_split out at v h ∙ rw e

-- bytes put right behind others are put with them
pub splice-more : (out : List ℕ) (at : ℕ) (a b : List ℕ) → at + (length a + length b) ≤ length out → splice (splice out at a) (at + length a) b ≡ splice out at (a ++ b)
unfolding splice
splice-more out at a b h =
    let k : at + length a + length b ≡ at + (length a + length b) = omega arith in
    let l : length (take at out) ≡ at = length-take-le at out (omega arith) in
    let s : length (take at out ++ a) ≡ at + length a = length-append (take at out) a ∙ rw l in
    let p : take at out ++ (a ++ drop (at + length a) out) ≡ (take at out ++ a) ++ drop (at + length a) out =
    sym (append_assoc (take at out) a _)
    in
    let q : drop (at + length a + length b) ((take at out ++ a) ++ drop (at + length a) out) ≡ drop (at + (length a + length b)) out =
    ap (λ (n : ℕ). drop (n + length b) ((take at out ++ a) ++ drop (at + length a) out)) (sym s)
    ∙ drop-append-add (take at out ++ a) (drop (at + length a) out) (length b)
    ∙ drop-drop (length b) (at + length a) out
    ∙ rw k
    in
    let t : take (at + length a) ((take at out ++ a) ++ drop (at + length a) out) ≡ take at out ++ a =
    ap (λ (n : ℕ). take n ((take at out ++ a) ++ drop (at + length a) out)) (sym s)
    ∙ take-append_seam (take at out ++ a) (drop (at + length a) out)
    in
    rw (p, t, q, length-append a b) (simp append_assoc)
