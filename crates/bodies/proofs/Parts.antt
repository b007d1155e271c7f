-- How texts, groups and fixed fields are judged.
-- Assumes nothing.
use Prim.Native.Nat.{ℕ}
use mathlib.Core.Path.{◌≡◌, refl, sym, ◌∙◌}
use mathlib.Core.Bool.{Bool, true, false, ◌&&◌}
use mathlib.Core.List.{List, []}
use borrow.Author.Tests.{eq-eqb, ne_eqb}
use lib.IntN.{ℤ}
use lib.ListN.{length}
use Rattle.wire.specs.Answer.{Answer, accepted, refused, guard}
use Rattle.wire.specs.Refusal.{not_its_layout}
use Rattle.layout.specs.Layout.{Message, fields}
use Rattle.layout.specs.Group.{group_offset, fit, group_ranges, group, verdict, also, judge_all, no_group, even}
use Rattle.bodies.specs.Body.{text_size, stated, numbers_in}
use Rattle.bodies.specs.Parts.{verdict_of}

-- a type without groups
pub none_even : (gs : List ℕ) → length gs ≡ 0 → accepted tt ≡ judge_all no_group gs 0
unfolding judge_all even fit group_offset group_ranges guard
none_even gs h = rw h

pub none_odd : (gs : List ℕ) → (length gs ≡ 0 → ⊥) → refused not_its_layout [] ≡ judge_all no_group gs 0
unfolding judge_all even fit group_offset group_ranges guard
none_odd gs h = rw (ne_eqb 0 (length gs) (λ e. h (sym e)))

-- a verdict on the groups, and one on the fixed fields
both : (e r g : Bool) → also r (verdict e g) ≡ verdict e (r && g)
unfolding guard
both true true true = refl
both true true false = refl
both true false true = refl
both true false false = refl
both false true true = refl
both false true false = refl
both false false true = refl
both false false false = refl

module _ (m : Message) (zs : List ℤ) (ts gs : List ℕ) where
  pub other_words : (length ts ≡ text_size (fields m) → ⊥) → refused not_its_layout [] ≡ verdict_of m zs ts gs
  unfolding verdict_of guard
  other_words h = rw (ne_eqb (length ts) (text_size (fields m)) h)

  -- its texts, then the verdict on the groups, and whether the fixed fields are in range
  pub parts :
      length ts ≡ text_size (fields m) → {v w : Answer Unit} {b : Bool} → v ≡ also b w → b ≡ numbers_in (fields m) zs →
      w ≡ judge_all (group m) gs (stated m zs) → v ≡ verdict_of m zs ts gs
  unfolding verdict_of judge_all even
  parts h e f g =
      e
      ∙ (λ i. also (f i) (g i))
      ∙ rw (eq-eqb (length ts) (text_size (fields m)) h)
      (both (even (group m) gs (stated m zs)) (numbers_in (fields m) zs) (group_ranges (group m) gs 0 (stated m zs)))
