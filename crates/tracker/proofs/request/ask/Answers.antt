use native.Mathlib.Omega.{arith}
use mathlib.Core.Path.{ap, ◌∙◌}
use Rattle.gaps.specs.declared.Run.{Run}
use Rattle.tracker.specs.Request.{resend_of}
use Rattle.tracker.proofs.Batch.{asked-within}
use Rattle.tracker.proofs.Fitting.{whole, short}
use Rattle.tracker.proofs.request.ask.Goals as goal

pub resend-requires : goal.resend-requires
resend-requires c = let w = asked-within c.args.run in
    rw c.asked.ensures (omega (arith, w.low, w.high), omega (arith, w.high))

pub returns-in-Ok : goal.returns-in-Ok
returns-in-Ok c =
    let s = c.args in
    let w = asked-within s.run in
    let e = c.resend.ensures ∙ ap (λ (r : Run). resend_of s.channel r) c.asked.ensures in
    let m = whole s.channel s.run s.out.now (omega (arith, w.low, w.high)) (omega (arith, w.high)) e c.in-Ok.n _ c.in-Ok.ensures.result_value c.in-Ok.ensures.out_after in
    record { result_value = m.0; out_after = m.1 }

pub returns-in-Err : goal.returns-in-Err
returns-in-Err c =
    let s = c.args in
    let w = asked-within s.run in
    let e = c.resend.ensures ∙ ap (λ (r : Run). resend_of s.channel r) c.asked.ensures in
    let m = short s.channel s.run s.out.now (omega (arith, w.low, w.high)) (omega (arith, w.high)) e _ _ _ c.in-Err.ensures.result_value c.in-Err.ensures.out_after in
    record { result_value = m.0; out_after = m.1 }
