use Rattle.std.proofs.Common.{sym}
use Rattle.entries.proofs.Entries.{fits}
use Rattle.prices.proofs.Told.{none_left, refused-there, stepped-over}
use Rattle.prices.proofs.step.step_in.Goals as goal

pub returns-then-at-eq0 : goal.returns-then-at-eq0
returns-then-at-eq0 g c =
    let r = none_left g.E.Steps.whose c.args.body.now c.args.at.offset c.args.at.left c.args.price.now c.if-at-eq0.true c.none.ensures in
    record { value = r.0; price_after = r.1 }

pub over-requires : goal.over-requires
over-requires g c = fits _ _ _ _ (sym (rw c.groups.ensures at c.in-Ok.ensures))

pub returns-in-Ok : goal.returns-in-Ok
returns-in-Ok g c =
    let r =
    stepped-over g.E.Steps.whose c.args.body.now c.args.at.offset c.args.at.left c.args.price.now c.if-at-eq0.false (sym (rw c.groups.ensures at c.in-Ok.ensures))
    (c.over.ensures.value, c.over.ensures.price_after)
    in
    record { value = r.0; price_after = r.1 }

pub returns-in-Err : goal.returns-in-Err
returns-in-Err g c =
    let r =
    refused-there g.E.Steps.whose c.args.body.now c.args.at.offset c.args.at.left c.args.price.now c.if-at-eq0.false c.in-Err.why
    (sym (rw c.groups.ensures at c.in-Err.ensures)) (rw c.from.ensures at c.none-in-Err.ensures)
    in
    record { value = r.0; price_after = r.1 }
