use Rattle.std.proofs.lemmas.Result.{err_from_is_err_and}
use Rattle.std.proofs.Common.{◌-◌, sym, ◌∙◌}
use Rattle.wire.specs.Answer.{accepted}
use Rattle.record.specs.Asked.{found}
use Rattle.entries.proofs.Entries.{fits, step-none, step-refused, step-found}
use Rattle.entries.proofs.cursor.step_in.Goals as goal

pub returns-then-at-eq0 : goal.returns-then-at-eq0
returns-then-at-eq0 g c =
    sym (step-none g.E.Entries.whose c.args.body.now c.args.at.offset c.args.at.left c.if-at-eq0.true)

pub behind-requires : goal.behind-requires
behind-requires g c = fits _ _ _ _ (sym (rw c.groups.ensures at c.in_ok-judge.ensures))

pub entry_at-requires : goal.entry_at-requires
entry_at-requires g c = fits _ _ _ _ (sym (rw c.groups.ensures at c.in_ok-judge.ensures))

pub returns : goal.returns
returns g c =
    (λ i.
    accepted
    (found
    (record {
      entry = c.entry_at.ensures i;
      onward = record { offset = c.behind.ensures i; left = c.args.at.left - 1 };
    })))
    ∙ sym (step-found g.E.Entries.whose c.args.body.now c.args.at.offset c.args.at.left c.if-at-eq0.false (sym (rw c.groups.ensures at c.in_ok-judge.ensures)))

pub returns-in_err-judge : goal.returns-in_err-judge
returns-in_err-judge g c =
    let p = err_from_is_err_and c.from_residual.result c.from_residual.ensures.1 in
    rw (p.1, p.2)
    (sym (step-refused g.E.Entries.whose c.args.body.now c.args.at.offset c.args.at.left c.if-at-eq0.false (sym (rw c.groups.ensures at c.in_err-judge.ensures))))
