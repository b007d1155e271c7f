use Rattle.std.proofs.Common.{◌≡◌, IsErrAnd, sym, ◌∙◌, arith}
use Rattle.layout.specs.Layout.{statistics, security_status}
use Rattle.record.proofs.Grouped.{group_as_lem, group_refused_as, group_rest}
use Rattle.record.proofs.group.group_of.Goals as goal

pub returns-in-390090 : goal.returns-in-390090
returns-in-390090 c = c.group_at.ensures ∙ group_as_lem _ _ statistics _ c.in-390090.is

pub returns-in-390013 : goal.returns-in-390013
returns-in-390013 c = c.group_at-in-390013.ensures ∙ group_as_lem _ _ security_status _ c.in-390013.is

pub returns-in_err-judge-in_default : goal.returns-in_err-judge-in_default
returns-in_err-judge-in_default c =
    let e : IsErrAnd c.from_residual.result (λ x. x ≡ c.in_err-judge-in_default.field-0.0) = c.from_residual.ensures.1 in
    group_refused_as c.args.kind c.args.body.now c.args.i c.from_residual.result _ e c.in_err-judge-in_default.ensures

pub returns-in_ok-judge-in_default : goal.returns-in_ok-judge-in_default
returns-in_ok-judge-in_default c = group_rest _ c.args.body.now _ (λ e. omega arith) (λ e. omega arith) (sym c.in_ok-judge-in_default.ensures)
