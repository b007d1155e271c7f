use native.Mathlib.Omega.{arith}
use Prim.Native.Nat.{◌*◌}
use mathlib.Core.Path.{◌≡◌, ap, sym, ◌∙◌}
use Rattle.std.proofs.Common.{rules}
use Rattle.std.specs.Prelude.{Err}
use lib.ListN.{get_or}
use Rattle.wire.specs.Answer.{accepted}
use Rattle.gaps.specs.Limits.{run_limit}
use Rattle.seats.specs.Arrays.{held}
use Rattle.tracker.specs.FirstRun.{Lost}
use Rattle.tracker.specs.Inside.{lost_of}
use Rattle.tracker.specs.declared.RequestRefusal.TheVariants.{Malformed}
use Rattle.tracker.proofs.FirstRun.{seat_10, seat_7, seat_at, no_run, run-first}
use Rattle.tracker.proofs.request.first_run.Goals as goal

pub returns-in_err-at : goal.returns-in_err-at
returns-in_err-at c = let s = c.args in
    let e : c.from_residual.result ≡ Err Malformed = search rules in
    ap lost_of e ∙ sym (seat_10 (held s.fields) s.channel c.in_err-at.field-0.0 (sym c.in_err-at.was ∙ c.seat_of.ensures))

pub returns-in_default : goal.returns-in_default
returns-in_default c = let s = c.args in
    sym (seat_7 (held s.fields) s.channel c.in_ok-at.field-0 (sym c.in_ok-at.was ∙ c.seat_of.ensures) c.in_default.is)

pub offset_bounds-fields-at : goal.offset_bounds-fields-at
offset_bounds-fields-at c = let s = c.args in
    let w = seat_at (held s.fields) s.channel c.in_ok-at.field-0 (sym c.in_ok-at.was ∙ c.seat_of.ensures) c.in-Some.at c.in-Some.is in
    omega (arith, w.0)

pub bounds-fields-at : goal.bounds-fields-at
bounds-fields-at c = let s = c.args in
    let w = seat_at (held s.fields) s.channel c.in_ok-at.field-0 (sym c.in_ok-at.was ∙ c.seat_of.ensures) c.in-Some.at c.in-Some.is in
    omega (arith, w.0)

pub overflow_mul-b : goal.overflow_mul-b
overflow_mul-b c = let s = c.args in
    let w = seat_at (held s.fields) s.channel c.in_ok-at.field-0 (sym c.in_ok-at.was ∙ c.seat_of.ensures) c.in-Some.at c.in-Some.is in
    omega (arith, w.0)

pub offset_bounds-fields-b : goal.offset_bounds-fields-b
offset_bounds-fields-b c = let s = c.args in
    let w = seat_at (held s.fields) s.channel c.in_ok-at.field-0 (sym c.in_ok-at.was ∙ c.seat_of.ensures) c.in-Some.at c.in-Some.is in
    omega (arith, w.0)

pub bounds-fields-b : goal.bounds-fields-b
bounds-fields-b c = let s = c.args in
    let w = seat_at (held s.fields) s.channel c.in_ok-at.field-0 (sym c.in_ok-at.was ∙ c.seat_of.ensures) c.in-Some.at c.in-Some.is in
    omega (arith, w.0)

pub offset_bounds-fields-b-2 : goal.offset_bounds-fields-b-2
offset_bounds-fields-b-2 c = let s = c.args in
    let w = seat_at (held s.fields) s.channel c.in_ok-at.field-0 (sym c.in_ok-at.was ∙ c.seat_of.ensures) c.in-Some.at c.in-Some.is in
    omega (arith, w.0)

pub bounds-fields-b-2 : goal.bounds-fields-b-2
bounds-fields-b-2 c = let s = c.args in
    let w = seat_at (held s.fields) s.channel c.in_ok-at.field-0 (sym c.in_ok-at.was ∙ c.seat_of.ensures) c.in-Some.at c.in-Some.is in
    omega (arith, w.0)

pub returns-then-fields-at-eq0 : goal.returns-then-fields-at-eq0
returns-then-fields-at-eq0 c = let s = c.args in
    let w = seat_at (held s.fields) s.channel c.in_ok-at.field-0 (sym c.in_ok-at.was ∙ c.seat_of.ensures) c.in-Some.at c.in-Some.is in
    let i = c.in-Some.at in
    sym (w.1 ∙ ap (λ (x : Lost). accepted x) (no_run s.fields.first.now s.fields.last.now (i * run_limit) (get_or s.fields.counts.now i 0) c.if-fields-at-eq0.true))

pub returns : goal.returns
returns c = let s = c.args in
    let w = seat_at (held s.fields) s.channel c.in_ok-at.field-0 (sym c.in_ok-at.was ∙ c.seat_of.ensures) c.in-Some.at c.in-Some.is in
    let i = c.in-Some.at in
    sym (w.1 ∙ ap (λ (x : Lost). accepted x) (run-first s.fields.first.now s.fields.last.now (i * run_limit) (get_or s.fields.counts.now i 0) c.if-fields-at-eq0.false))
