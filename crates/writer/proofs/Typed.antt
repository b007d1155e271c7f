-- What the call of one type needs and gives, by the verdict that it found; once for every type.
-- Assumes nothing.
use Rattle.std.specs.Prelude.{Ok, Err, None}
use Rattle.std.proofs.lemmas.Option.{none-some}
use Prim.Native.Nat.{ℕ, ◌+◌, ◌≤◌}
use mathlib.Core.Path.{◌≡◌, refl, ap, sym, ◌∙◌}
use mathlib.Core.List.{List, [], ◌++◌}
use native.Mathlib.Omega.{arith}
use lib.IntN.{ℤ}
use lib.ListN.{length, take, drop, length-drop}
use lib.Seq.{length-take-le}
use Rattle.wire.specs.Answer.{Answer, accepted, refused, and_then}
use Rattle.wire.specs.Bytes.{part, splice}
use Rattle.frame.specs.Framing.{header_width, sum_width, body_limit}
use Rattle.layout.specs.Paper.{body_refusal}
use Rattle.layout.specs.declared.group.Refusal as layout_refusal
use Rattle.layout.specs.Layout.{Message, Behind, nothing, groups, entries, behind, entry_group, fields, size, type_number}
use Rattle.layout.specs.Group.{group_behind, group_offset}
use Rattle.record.specs.Record.{known}
use Rattle.record.specs.Paper.{counted, counted_behind}
use Rattle.bodies.specs.Body.{body, count_in, encode}
use Rattle.bodies.specs.Parts.{verdict_of, put_fields}
use Rattle.bodies.proofs.Bodies.{exactly}
use Rattle.bodies.proofs.Round.{length-encode}
use Rattle.bodies.proofs.Stores.{fits}
use Rattle.writer.specs.Paper.{writer_refusal, body_refused, Written, means_written}
use Rattle.writer.specs.Write.{frame_of, room_for_frame, write_known, write, write_leaves}
use Rattle.writer.specs.declared.Refusal.{Refusal}
use Rattle.writer.proofs.Judging.{Known, known_of, by_verdict}
use Rattle.writer.proofs.Output.{same_length, round}

-- the answer on a listed type, in the arm that the code took
pub record Told (m : Message) (zs : List ℤ) (ts gs out : List ℕ) (a : Written) : Type 0 where
  pub says : means_written a ≡ write_known m zs ts gs (length out)

-- a verdict that refuses
refusal_kept : (x : layout_refusal.Refusal) → writer_refusal (body_refused x) ≡ body_refusal x
refusal_kept layout_refusal.TheVariants.NotItsLayout = refl
refusal_kept layout_refusal.TheVariants.OutOfRange = refl

pub told_refused :
    (m : Message) {zs : List ℤ} {ts gs : List ℕ} (out : List ℕ) (x : layout_refusal.Refusal) {y : Refusal} →
    refused (body_refusal x) [] ≡ verdict_of m zs ts gs → y ≡ body_refused x → Told m zs ts gs out (Err y)
unfolding and_then
told_refused m {zs} {ts} {gs} out x e f =
    record {
      says =
          ap (λ (n : ℕ). refused n []) (ap writer_refusal f ∙ refusal_kept x)
          ∙ ap (λ (v : Answer Unit). and_then v (λ (u : Unit). room_for_frame (size (fields m) + length gs) (length out))) e
          ∙ by_verdict m zs ts gs (length out);
    }

-- one that accepts, and how the frame fits
pub told_fitted :
    (m : Message) {zs : List ℤ} {ts gs : List ℕ} (out : List ℕ) {a : Written} → accepted tt ≡ verdict_of m zs ts gs →
    means_written a ≡ room_for_frame (size (fields m) + length gs) (length out) → Told m zs ts gs out a
unfolding and_then
told_fitted m {zs} {ts} {gs} out e h =
    record {
      says =
          h
          ∙ ap (λ (v : Answer Unit). and_then v (λ (u : Unit). room_for_frame (size (fields m) + length gs) (length out))) e
          ∙ by_verdict m zs ts gs (length out);
    }

-- a refusal: the output stays as it stood
pub kept :
    {m : Message} {zs : List ℤ} {ts gs out : List ℕ} {x : Refusal} → Told m zs ts gs out (Err x) →
    (means_written (Err x) ≡ write (known m zs) ts gs out) × (out ≡ write_leaves (known m zs) ts gs out)
unfolding write write_leaves
kept t = (t.says, rw (sym t.says))

-- what is counted behind no count takes no bytes
uncounted : (b : Behind) (zs : List ℤ) (gs : List ℕ) → counted_behind b ≡ None → group_offset (group_behind b) gs 0 (count_in b zs) ≡ 0
unfolding group_offset
uncounted nothing zs gs e = refl
uncounted (groups g) zs gs e = absurd (none-some g (sym e))
uncounted (entries x) zs gs e = absurd (none-some (entry_group x) (sym e))

-- a frame
module _ {m : Message} {zs : List ℤ} {ts gs out : List ℕ} {n : ℕ} (t : Told m zs ts gs out (Ok n)) where
  abbrev width : ℕ
  width = size (fields m)

  says : Known m zs ts gs (length out) n
  says = known_of m zs ts gs (length out) n (sym t.says)

  -- the part that the fields are lent
  pub ends : header_width + width ≤ length out
  ends = omega (arith, says.there)

  -- a type without groups was lent none
  pub ungrouped : counted m ≡ None → length gs ≡ 0
  ungrouped e = sym (exactly m zs ts gs says.exacts).ends ∙ uncounted (behind m) zs gs e

  -- a frame without fields
  pub room : (width + length gs ≤ body_limit) × (header_width + sum_width + (width + length gs) ≤ length out)
  room = (says.within, omega (arith, says.there))

  pub framed : {z : List ℕ} → z ≡ splice out 0 (frame_of (type_number m) (encode (fields m) zs ts ++ gs)) → (means_written (Ok n) ≡ write (known m zs) ts gs out) × (z ≡ write_leaves (known m zs) ts gs out)
  unfolding write write_leaves body
  framed g = (t.says, g ∙ rw (sym t.says))

  -- the fields p in their part, and the frame round them
  module _ {p : List ℕ} (f : p ≡ put_fields m zs ts (take width (drop header_width out))) where
    abbrev filled : List ℕ
    filled = take header_width out ++ (p ++ drop width (drop header_width out))

    holds : p ≡ encode (fields m) zs ts
    holds =
        f ∙ fits m zs ts _ (exactly m zs ts gs says.exacts).texts (length-take-le width (drop header_width out) (rw length-drop (omega (arith, ends))))

    long : length p ≡ width
    long = ap length holds ∙ length-encode (fields m) zs ts (exactly m zs ts gs says.exacts).texts

    pub sealing : (width + length gs ≤ body_limit) × (header_width + sum_width + (width + length gs) ≤ length filled)
    sealing = (says.within, rw (same_length out p width long ends) (omega (arith, says.there)))

    -- by what the code has for the fields' size, the part's and the type
    pub left :
        {s d k : ℕ} {z : List ℕ} → s ≡ width → d ≡ width → k ≡ type_number m →
        z ≡ splice (take header_width out ++ (p ++ drop d (drop header_width out))) 0
        (frame_of k (part header_width (header_width + s) (take header_width out ++ (p ++ drop d (drop header_width out))) ++ gs)) →
        (means_written (Ok n) ≡ write (known m zs) ts gs out) × (z ≡ write_leaves (known m zs) ts gs out)
    left {z = z} h i j g =
        framed
        (round out p width long ends (type_number m) gs z (rw (h, i, j) at g)
        ∙ ap (λ (q : List ℕ). splice out 0 (frame_of (type_number m) (q ++ gs))) holds)
