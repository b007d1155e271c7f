use Rattle.std.proofs.Common.{rules, ◌≡◌, refl, ap, sym, ◌∙◌, arith}
use Rattle.frame.specs.Framing.{header_width, body_limit, refusal_values, missing_by, means_framed}
use Rattle.frame.specs.declared.Refusal.{Refusal}
use Rattle.frame.specs.declared.Refusal.TheVariants.{TooShort, TooLong, WrongSum}
use Rattle.frame.proofs.Far.{wanting-of}
use Rattle.frame.proofs.Lacking.{told}
use Rattle.streams.proofs.Pushes.{begin_frame, none_lacking, begin_stop}
use Rattle.streams.proofs.cut.begin.Goals as goal

pub keep_all-requires : goal.keep_all-requires
keep_all-requires c =
    let e = rw c.in-Err-TooShort.field-0-is at c.in-Err-TooShort.ensures in
    let n = told header_width body_limit _ _ (sym e) in
    none_lacking header_width body_limit c.args.buffer.now c.args.cut.now c.requires (ap missing_by n.0) (omega (arith, ap missing_by n.0, n.1))

pub returns-in-Ok : goal.returns-in-Ok
returns-in-Ok c =
    let p = begin_frame header_width body_limit c.args.cut.now c.args.buffer.now _ (sym c.read.ensures ∙ ap means_framed c.in-Ok.is) in
    record { result_value = rw c.new.ensures p.0; buffer_after = p.1 }

pub returns-in-Err : goal.returns-in-Err
returns-in-Err c =
    let e = sym c.in-Err.ensures in
    let p = begin_stop header_width body_limit c.args.cut.now c.args.buffer.now _ _ (wanting-of header_width body_limit _ e ∙ none c.in-Err.why refl) e in
    record { result_value = c.stopped.ensures ∙ rw c.reach.ensures p.0; buffer_after = p.1 } where
      none : (x : Refusal) → c.in-Err.why ≡ x → missing_by (refusal_values c.in-Err.why) ≡ 0
      none (TooShort n) w = absurd (search rules)
      none TooLong w = ap (λ (x : Refusal). missing_by (refusal_values x)) w
      none WrongSum w = ap (λ (x : Refusal). missing_by (refusal_values x)) w
