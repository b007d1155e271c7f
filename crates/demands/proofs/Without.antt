-- Beside a refusal: no body, no groups, no texts.
-- Assumes nothing.
use Prim.Native.Nat.{ℕ}
use mathlib.Core.Path.{◌≡◌, refl, ap, sym, ◌∙◌}
use mathlib.Core.List.{List, []}
use native.Mathlib.Omega.{arith}
use Rattle.wire.specs.Answer.{Answer, accepted, refused}
use Rattle.frame.specs.Framing.{read, body_of, header_width, body_limit}
use Rattle.frame.specs.declared.Frame.{Frame}
use Rattle.layout.specs.Layout.{Message, Listed, listed, unlisted, named}
use Rattle.layout.specs.Group.{judge_body}
use Rattle.record.specs.Asked.{WithTexts, with_texts, once_accepted, judge_listed}
use Rattle.record.specs.Record.{read_as, read_listed, read_body, read_body_of, read_frame, group_as, group_listed, group_of, part_accepted, groups_as, groups_listed, groups_of}
use Rattle.demands.specs.Demand1.{NoBody, NoGroups, NoTexts}
use Rattle.demands.proofs.Calls.{frame_read_as, frame_body_as, judge_as, groups_of_as}

pub no_body : NoBody
no_body s b a n vs h e g = frame_body_as g ∙ ap (λ (x : Answer Frame). body_of header_width x s) (sym (frame_read_as h) ∙ e)

-- ---- groups

part_none : (v : Answer Unit) (m : Message) (b : List ℕ) (n : ℕ) (vs : List ℕ) → v ≡ refused n vs → part_accepted v m b ≡ []
part_none v m b n vs e = rw e

groups_none : (l : Listed) (b : List ℕ) (n : ℕ) (vs : List ℕ) → judge_listed l b ≡ refused n vs → groups_listed l b ≡ []
unfolding groups_as
groups_none (listed m) b n vs e = part_none (judge_body m b) m b n vs e
groups_none unlisted b n vs e = refl

pub no_groups : NoGroups
unfolding groups_of
no_groups type b gs v n vs h e g = groups_of_as g ∙ groups_none (named type) b n vs (sym (judge_as h) ∙ e)

-- ---- texts

once_none : {A : Type 0} (v : Answer Unit) (a : A) (ts : List ℕ) → NoTexts (once_accepted v a ts)
once_none (accepted u) a ts n vs e = let z : ◌≡◌ {A = ℕ} 0 1 = cc in absurd (omega arith)
once_none {A} (refused m us) a ts n vs e = ap (λ (x : Answer A). with_texts x []) e

accepted-none : {A : Type 0} (a : A) (ts : List ℕ) → NoTexts (with_texts (accepted a) ts)
accepted-none a ts n vs e = let z : ◌≡◌ {A = ℕ} 0 1 = cc in absurd (omega arith)

listed-none : (l : Listed) (type : ℕ) (b : List ℕ) → NoTexts (read_listed l type b)
unfolding read_as
listed-none (listed m) type b = once_none (judge_body m b) _ _
listed-none unlisted type b = accepted-none _ []

pub body-none : (type : ℕ) (b : List ℕ) → NoTexts (read_body type b)
unfolding read_body
body-none type b = listed-none (named type) type b

frame-none : (a : Answer Frame) (s : List ℕ) → NoTexts (read_body_of a s)
frame-none (accepted f) s = body-none f.kind (body_of header_width (accepted f) s)
frame-none (refused m us) s = λ n vs e. ap (λ x. with_texts x []) e

pub bytes-none : (s : List ℕ) → NoTexts (read_frame s)
unfolding read_frame
bytes-none s = frame-none (read header_width body_limit s) s

position_none : (l : Listed) (b : List ℕ) (i : ℕ) → NoTexts (group_listed l b i)
unfolding group_as
position_none (listed m) b i = once_none (judge_body m b) _ _
position_none unlisted b i = accepted-none _ []

pub asked-none : (type : ℕ) (b : List ℕ) (i : ℕ) → NoTexts (group_of type b i)
unfolding group_of
asked-none type b i = position_none (named type) b i

-- what has none of a definition has none of the answers that meet it
pub as_defined : {A : Type 0} {definition answer : WithTexts A} → answer ≡ definition → NoTexts definition → NoTexts answer
as_defined {A} e h n vs f = e ∙ h n vs (ap (λ (x : WithTexts A). x.answer) (sym e) ∙ f)
