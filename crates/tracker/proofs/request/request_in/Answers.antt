use Rattle.std.proofs.Common.{rules}
use mathlib.Core.Path.{◌≡◌, ap, sym, ◌∙◌}
use lib.ListN.{length}
use Rattle.std.specs.Prelude.{Option, Ok, Err}
use Rattle.wire.specs.Answer.{and_then}
use Rattle.gaps.specs.declared.Run.{Run}
use Rattle.seats.specs.Arrays.{held}
use Rattle.tracker.specs.Places.{made}
use Rattle.tracker.specs.Inside.{lost_of}
use Rattle.tracker.specs.Request.{room_for_request, means_requested}
use Rattle.tracker.proofs.FirstRun.{first_lies}
use Rattle.tracker.proofs.Fitting.{answers_by, leaves_by, refused-said, refused-left}
use Rattle.tracker.proofs.request.request_in.Goals as goal

pub returns-in_err-run-clause-result_value : goal.returns-in_err-run-clause-result_value
returns-in_err-run-clause-result_value c = let s = c.args in
    let why = c.in_err-run.field-0.0 in
    let r : c.from_residual.result ≡ Err why = search rules in
    ap means_requested r ∙ refused-said why (room_for_request (length s.out.now)) ∙ sym (answers_by (made (held s.fields)) s.channel s.out.now (sym c.in_err-run.ensures))

pub returns-in_err-run-clause-out_after : goal.returns-in_err-run-clause-out_after
returns-in_err-run-clause-out_after c = let s = c.args in
    refused-left c.in_err-run.field-0.0 (room_for_request (length s.out.now)) s.channel s.out.now ∙ sym (leaves_by (made (held s.fields)) s.channel s.out.now (sym c.in_err-run.ensures))

pub ask-requires : goal.ask-requires
ask-requires c = let s = c.args in
    let e = sym c.in_ok-run.ensures ∙ ap (λ (o : Option Run). lost_of (Ok o)) c.in-Some.is in
    let w = first_lies (made (held s.fields)) s.channel c.in-Some.run' e in
    (w.order, w.high)

pub returns-in-Some-clause-result_value : goal.returns-in-Some-clause-result_value
unfolding and_then
returns-in-Some-clause-result_value c = let s = c.args in
    let e = sym c.in_ok-run.ensures ∙ ap (λ (o : Option Run). lost_of (Ok o)) c.in-Some.is in
    c.ask.ensures.result_value ∙ sym (answers_by (made (held s.fields)) s.channel s.out.now e)

pub returns-in-Some-clause-out_after : goal.returns-in-Some-clause-out_after
unfolding and_then
returns-in-Some-clause-out_after c = let s = c.args in
    let e = sym c.in_ok-run.ensures ∙ ap (λ (o : Option Run). lost_of (Ok o)) c.in-Some.is in
    c.ask.ensures.out_after ∙ sym (leaves_by (made (held s.fields)) s.channel s.out.now e)

pub returns-in-None-clause-result_value : goal.returns-in-None-clause-result_value
unfolding and_then
returns-in-None-clause-result_value c = let s = c.args in
    let e = sym c.in_ok-run.ensures ∙ ap (λ (o : Option Run). lost_of (Ok o)) c.in-None.is in
    sym (answers_by (made (held s.fields)) s.channel s.out.now e)

pub returns-in-None-clause-out_after : goal.returns-in-None-clause-out_after
unfolding and_then
returns-in-None-clause-out_after c = let s = c.args in
    let e = sym c.in_ok-run.ensures ∙ ap (λ (o : Option Run). lost_of (Ok o)) c.in-None.is in
    sym (leaves_by (made (held s.fields)) s.channel s.out.now e)
