-- Tests in the order of judging, and the rules that they stand for.
-- Assumes nothing.
use Prim.Native.Nat.{ℕ, ◌+◌, ◌-◌, ◌≤◌, ◌<◌}
use mathlib.Core.Path.{◌≡◌, refl, ap, sym, subst, ◌∙◌}
use mathlib.Core.Bool.{Bool, true, false, not, true≢false}
use mathlib.Core.Logic.{◌↔◌}
use mathlib.Core.List.{List, [], ◌∷◌, ◌++◌}
use native.Mathlib.Nat.{sub-zero}
use native.Mathlib.Omega.{arith}
use borrow.Author.Tests.{lt-ltb, le-ltb, ltb-true, ltb-false, eqb-true, eq-eqb, not-true, not-false}
use lib.Dec.{ltb, eqb}
use lib.IntN.{ℤ}
use lib.ListN.{length}
use Rattle.wire.specs.Answer.{Answer, accepted, refused, guard}
use Rattle.wire.specs.Refusal.{too_short, not_its_layout, out_of_range}
use Rattle.frame.specs.Framing.{header_width, sum_width, body_limit}
use Rattle.frame.specs.declared.Frame.{Frame}
use Rattle.frame.proofs.Framing.{Reading, no_header, is_too_long, cut, is_wrong_sum, whole}
use Rattle.layout.specs.Layout.{Message, fields, Listed, listed, unlisted}
use Rattle.layout.specs.Group as group
use Rattle.layout.specs.Group.{group_offset, fit, in_range, judge_body, even}
use Rattle.layout.proofs.Walk.{and_both, offset_beyond, needs-more, needs_no_more}
use Rattle.record.specs.Asked.{judge_listed}
use Rattle.record.specs.Record as record_of
use Rattle.record.specs.Record.{known, unknown}
use Rattle.bodies.specs.Body.{body_length, text_size, stated, exact, all_in}
use Rattle.writer.specs.Write as writer
use Rattle.writer.specs.Write.{frame_length, write_judged}
use Rattle.demands.specs.Rules.{Rule, ◌if◌, Judged, success, here, later}
use Rattle.demands.specs.Conditions.{L, lacks, BodyShort, Strays, Exactly}
use Rattle.demands.specs.Demand1.{frame_rules, writer_rules}
use Rattle.demands.proofs.Out.{strays, keeps, strays_written, keeps_written}
use Rattle.demands.specs.Demand2.{Accepted, with_value, NoneOf}

-- ---- one test more

pub above : {a b : ℕ} → b ≤ a → a < b → ⊥
above h k = omega arith

holds : {C : Type 0} → C → (C → ⊥) → ⊥
holds c x = x c

pub answered : {A : Type 0} {rs : List Rule} {a b : Answer A} → b ≡ a → Judged rs a → Judged rs b
answered {A} {rs} e j = subst (λ (x : Answer A). Judged rs x) (sym e) j

-- a test whose two outcomes say whether the condition holds
pub tested :
    {A : Type 0} {n : ℕ} {C : Type 0} {rs : List Rule} {rest : Answer A} (b : Bool) → (b ≡ true → C) → (b ≡ false → C → ⊥) →
    (b ≡ false → Judged rs rest) → Judged (n if C ∷ rs) (guard b (refused n []) rest)
unfolding guard
tested true p q more = here (p refl)
tested false p q more = later (q refl) (more refl)

-- a condition that is the test's failing
pub unless :
    {A : Type 0} {n : ℕ} {rs : List Rule} {rest : Answer A} (b : Bool) → (b ≡ true → Judged rs rest) →
    Judged (n if (b ≡ false) ∷ rs) (guard (not b) (refused n []) rest)
unfolding guard
unless true more = later (λ e. true≢false e) (more refl)
unless false more = here refl

-- two answers that are both accepted, or both refused alike
pub data Alike {A B : Type 0} : Answer A → Answer B → Type 0 where
  both-accepted : {x : A} {y : B} → Alike (accepted x) (accepted y)
  both-refused : {n : ℕ} {vs : List ℕ} → Alike (refused n vs) (refused n vs)

pub alike : {A B : Type 0} {rs : List Rule} {a : Answer A} {b : Answer B} → Alike a b → Judged rs a → Judged rs b
alike both-accepted success = success
alike both-refused (here w) = here w
alike l (later n j) = later n (alike l j)

-- rules, then further rules where none of the first holds
pub in_turn :
    {A B : Type 0} {rs more : List Rule} {a : Answer A} (b : Answer B) → Judged rs a → ((n : ℕ) (vs : List ℕ) → a ≡ refused n vs → b ≡ refused n vs) →
    ((x : A) → a ≡ accepted x → Judged more b) → Judged (rs ++ more) b
in_turn b (success {x}) r f = f x refl
in_turn b (here {r = q} w) r f = answered (r q.number q.values refl) (here w)
in_turn b (later n j) r f = later n (in_turn b j r f)

pub not-both : {A C : Type 0} {n : ℕ} {vs : List ℕ} → Accepted {A = A} (refused n vs) → C
not-both = elim [ ]

-- an answer that is judged is accepted exactly where no condition holds
pub accepted_where : {A : Type 0} {rs : List Rule} {a : Answer A} → Judged rs a → Accepted a ↔ NoneOf rs
accepted_where success = (λ k. tt, λ k. with_value _)
accepted_where (here w) = (not-both, λ k. absurd (k.0 w))
accepted_where (later n j) = (λ k. (n, (accepted_where j).0 k), λ k. (accepted_where j).1 k.1)

-- ---- the frame reader

-- 1 with how many bytes are missing
abbrev short : ℕ → Answer Frame
short n = refused too_short (n ∷ [])

pub by_reading : (s : List ℕ) (a : Answer Frame) → Reading header_width body_limit s a → Judged (frame_rules s) a
by_reading s a (no_header i) =
    let m : 8 - length s ≡ lacks s = rw (lt-ltb (length s) 8 i) in
    answered (ap short m) (here i)
by_reading s a (is_too_long i e j) = later (above i) (here (rw e at j))
by_reading s a (cut {n} i e j k) =
    let c : length s < 12 + L s = omega arith in
    let t : 12 + L s - length s ≡ lacks s = rw (le-ltb (length s) 8 i) in
    let m : header_width + n + sum_width - length s ≡ lacks s = omega arith in
    answered (ap short m) (later (above i) (later (above (rw e at j)) (here c)))
by_reading s a (is_wrong_sum i e j k w) =
    let c : 12 + L s ≤ length s = omega arith in
    later (above i) (later (above (rw e at j)) (later (above c) (here (rw (e, sub-zero) at w))))
by_reading s a (whole i) =
    let c : 12 + L s ≤ length s = omega arith in
    later (above i.header)
    (later (above (rw i.len at i.within))
    (later (above c) (later (holds (rw (i.len, sub-zero) at i.sum)) success)))

-- ---- a body

by_message : (m : Message) (b : List ℕ) → Judged (not_its_layout if BodyShort (listed m) b ∷ out_of_range if Strays (listed m) b ∷ []) (judge_body m b)
unfolding judge_body
by_message m b =
    tested (not (group.whole m b)) (λ e. needs-more m b (not-true _ e)) (λ e. above (needs_no_more m b (not-false _ e)))
    (λ e. tested (not (in_range m b)) (λ f. strays m b (not-true _ f)) (λ f. keeps m b (not-false _ f)) (λ f. success))

pub by_body : (l : Listed) (b : List ℕ) → Judged (not_its_layout if BodyShort l b ∷ out_of_range if Strays l b ∷ []) (judge_listed l b)
by_body (listed m) b = by_message m b
by_body unlisted b = later (λ z. z) (later (λ z. z) success)

-- ---- the writer

module _ (m : Message) (zs : List ℤ) (ts gs : List ℕ) where
  -- groups that the bytes lack end behind the bytes, so where they end with the bytes they are there
  even_by : (b : Bool) → fit (group.group m) gs 0 (stated m zs) ≡ b → length gs ≡ group_offset (group.group m) gs 0 (stated m zs) → even (group.group m) gs (stated m zs) ≡ true
  unfolding even
  even_by true e f = rw (e, eq-eqb _ _ (sym f))
  even_by false e f = absurd (omega (arith, offset_beyond (group.group m) gs 0 (stated m zs) e, f))

  exactly_yes : exact m zs ts gs ≡ true → Exactly m zs ts gs
  unfolding even
  exactly_yes e =
      let a = and_both (eqb (length ts) (text_size (fields m))) _ e in
      let b = and_both (fit (group.group m) gs 0 (stated m zs)) _ a.1 in
      (eqb-true _ _ a.0, sym (eqb-true _ _ b.1))

  exactly_no : exact m zs ts gs ≡ false → Exactly m zs ts gs → ⊥
  exactly_no e x =
      let a = eq-eqb _ _ x.0 in
      let b = even_by (fit (group.group m) gs 0 (stated m zs)) refl x.1 in
      true≢false (sym (rw (a, b)) ∙ e)

pub by_judging : (x : record_of.Reading) (ts gs : List ℕ) (room : ℕ) → Judged (writer_rules x ts gs room) (write_judged x ts gs room)
unfolding writer.write_known
by_judging (known m zs) ts gs room =
    tested (not (exact m zs ts gs)) (λ e. exactly_no m zs ts gs (not-true _ e)) (λ e x. x (exactly_yes m zs ts gs (not-false _ e)))
    (λ e.
    tested (not (all_in m zs gs)) (λ f. strays_written m zs gs (not-true _ f)) (λ f. keeps_written m zs gs (not-false _ f))
    (λ f.
    tested (ltb body_limit (body_length m gs)) (ltb-true body_limit (body_length m gs)) (λ h. above (ltb-false body_limit (body_length m gs) h))
    (λ h.
    tested (ltb room (frame_length (body_length m gs))) (λ k. omega (arith, ltb-true room (frame_length (body_length m gs)) k))
    (λ k. above (omega (arith, ltb-false room (frame_length (body_length m gs)) k))) (λ k. success))))
by_judging (unknown type) ts gs room = here tt
