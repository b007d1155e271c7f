use Rattle.std.proofs.Common.{rules}
use mathlib.Core.Path.{◌≡◌, sym, subst, ◌∙◌}
use Rattle.std.specs.Prelude.{Result, Err, ℕ}
use Rattle.seats.specs.Arrays.{held}
use Rattle.tracker.specs.declared.Refusal.{Refusal}
use Rattle.tracker.specs.declared.Refusal.TheVariants.{Malformed}
use Rattle.tracker.specs.Places.{made}
use Rattle.tracker.specs.Inside.{Judges}
use Rattle.tracker.proofs.Judge.{judges_10, judges_7, judges_8, judges_at}
use Rattle.tracker.proofs.refused.judge.Goals as goal

pub returns-in_err-at : goal.returns-in_err-at
returns-in_err-at c = let s = c.args in
    let e : c.from_residual.result ≡ Err Malformed = search rules in
    subst (λ (r : Result ℕ Refusal). Judges (made (held s.fields)) s.channel s.low r) (sym e)
    (judges_10 (held s.fields) s.channel s.low c.in_err-at.field-0.0 (sym c.in_err-at.was ∙ c.seat_of.ensures))

pub returns-in_default : goal.returns-in_default
returns-in_default c = let s = c.args in
    judges_7 (held s.fields) s.channel s.low c.in_ok-at.field-0 (sym c.in_ok-at.was ∙ c.seat_of.ensures) c.in_default.is

pub returns-then-low : goal.returns-then-low
returns-then-low c = let s = c.args in
    judges_8 (held s.fields) s.channel s.low c.in_ok-at.field-0 (sym c.in_ok-at.was ∙ c.seat_of.ensures) c.in-Some.at c.in-Some.is c.if-low.true

pub returns : goal.returns
returns c = let s = c.args in
    judges_at (held s.fields) s.channel s.low c.in_ok-at.field-0 (sym c.in_ok-at.was ∙ c.seat_of.ensures) c.in-Some.at c.in-Some.is c.if-low.false
