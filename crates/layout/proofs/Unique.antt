-- Two verdicts that meet a promise are equal: a refusal is known by its number.
-- Assumes nothing.
use Prim.Native.Nat.{ℕ}
use mathlib.Core.Path.{◌≡◌, refl, ap, sym, ◌∙◌}
use mathlib.Core.Bool.{cond}
use lib.Dec.{eqb}
use Rattle.wire.specs.Answer.{Answer, accepted, refused}
use Rattle.wire.specs.Refusal.{not_its_layout}
use Rattle.layout.specs.Paper.{body_refusal, Verdict, means_verdict}
use Rattle.layout.specs.declared.group.Refusal.{Refusal}
use Rattle.layout.specs.declared.group.Refusal.TheVariants.{NotItsLayout, OutOfRange}
use Rattle.std.specs.Prelude.{Ok, Err}

-- the refusal of a number
abbrev pub code_refusal : ℕ → Refusal
code_refusal n = cond (eqb n not_its_layout) NotItsLayout OutOfRange

pub back_refusal : (x : Refusal) → code_refusal (body_refusal x) ≡ x
back_refusal NotItsLayout = refl
back_refusal OutOfRange = refl

code : Answer Unit → Verdict
code (accepted u) = Ok u
code (refused n vs) = Err (code_refusal n)

back : (v : Verdict) → code (means_verdict v) ≡ v
unfolding code
back (Ok u) = refl
back (Err x) = ap Err (back_refusal x)

pub one-verdict : (a b : Verdict) → means_verdict a ≡ means_verdict b → a ≡ b
one-verdict a b e = sym (back a) ∙ ap code e ∙ back b
