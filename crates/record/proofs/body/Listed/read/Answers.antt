use Rattle.std.proofs.Common.{◌≡◌, ℕ, List, IsErrAnd, ap, sym, ◌∙◌}
use Rattle.layout.specs.Layout.{fields, texts}
use Rattle.layout.proofs.Walk.{has_all}
use Rattle.record.specs.Record.{numbers_as}
use Rattle.record.specs.Paper.{means_record}
use Rattle.record.proofs.Had.{had_all}
use Rattle.record.proofs.Tell.{tell, refuse_as}
use Rattle.record.proofs.body.Listed.read.Goals as goal

pub returns-in_err-judge : goal.returns-in_err-judge
returns-in_err-judge g c =
    let e : IsErrAnd c.from_residual.result (λ x. x ≡ c.in_err-judge.field-0.0) = c.from_residual.ensures.1 in
    refuse_as g.Self.Listed.layout c.args.body.now c.from_residual.result _ e c.in_err-judge.ensures

pub returns : goal.returns
returns g c =
    let m = g.Self.Listed.layout in
    let s = c.args.body.now in
    let good = c.in_ok-judge.ensures in
    let h = had_all m s (has_all m s (sym good)).long in
    tell m s (sym good) (ap means_record c.as_record.ensures ∙ c.numbers.ensures ∙ ap (numbers_as m) h)
    (ap (λ (l : List ℕ). texts (fields m) l 0) h) c.texts.ensures.0 c.texts.ensures.1
