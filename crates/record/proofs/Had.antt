-- Bytes that have the fields of a listed type; numbers in a part of some bytes; and the texts of no bytes.
-- Assumes nothing.
use Prim.Native.Nat.{ℕ, ◌+◌, ◌<◌, ◌≤◌}
use mathlib.Core.Path.{◌≡◌, refl}
use mathlib.Core.List.{List, [], ◌∷◌}
use native.Mathlib.Omega.{arith}
use borrow.Author.Tests.{le-leb, lt-leb}
use lib.ListN.{length, take, drop}
use lib.Seq.{take-nil, drop-nil}
use Rattle.wire.proofs.Be.{be_at-part}
use Rattle.layout.specs.Kind.{Kind, Form, unsigned, signed, written, form, width, bytes, characters}
use Rattle.layout.specs.Layout.{Message, size, value_at, values, text_at, texts}
use Rattle.layout.specs.Group.{groups_start}
use Rattle.record.specs.Record.{had}

module _ (m : Message) (s : List ℕ) where
  pub had-none : length s < groups_start m → had m s ≡ []
  unfolding had
  had-none h = rw (lt-leb (groups_start m) (length s) h)

  pub had_all : groups_start m ≤ length s → had m s ≡ s
  unfolding had
  had_all h = rw (le-leb (groups_start m) (length s) h)

-- no bytes have no texts
text_none : (f : Form) (at : ℕ) → text_at f [] at ≡ []
text_none (unsigned w) at = refl
text_none signed at = refl
text_none (written t) at = rw (drop-nil at, take-nil (characters t))

pub texts-none : (l : List Kind) (at : ℕ) → texts l [] at ≡ []
unfolding texts
texts-none [] at = refl
texts-none (k ∷ ks) at = rw (text_none (form k) at, texts-none ks (at + width k))

-- numbers in a part of some bytes
value_part : (f : Form) (s : List ℕ) (p w i : ℕ) → i + bytes f ≤ w → value_at f (take w (drop p s)) i ≡ value_at f s (p + i)
value_part (unsigned n) s p w i h = rw (be_at-part s p w i n h)
value_part signed s p w i h = rw (be_at-part s p w i 8 h)
value_part (written t) s p w i h = refl

pub values-part : (l : List Kind) (s : List ℕ) (p w i : ℕ) → i + size l ≤ w → values l (take w (drop p s)) i ≡ values l s (p + i)
unfolding values size
values-part [] s p w i h = refl
values-part (k ∷ ks) s p w i h =
    let e : p + (i + width k) ≡ p + i + width k = omega arith in
    rw (value_part (form k) s p w i (omega arith), values-part ks s p w (i + width k) (omega arith), e)
