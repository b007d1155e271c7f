use Rattle.std.proofs.lemmas.Result.{err_from_is_err_and}
use Rattle.std.proofs.Common.{ap, sym, arith}
use Rattle.wire.specs.Answer.{accepted}
use Rattle.layout.specs.Layout.{snapshot, index, size}
use Rattle.record.proofs.Choice.{named_as}
use Rattle.entries.proofs.Entries.{no_entries, no_quantity, snapshot_fits, index_fits, quantity-refused, quantity-accepted}
use Rattle.entries.proofs.entry.quantity_of.Goals as goal

pub quantity_in-requires : goal.quantity_in-requires
quantity_in-requires c = snapshot_fits _ _ c.in-300111.is (sym c.in_ok-judge.ensures)

pub quantity_in-requires-in-309011 : goal.quantity_in-requires-in-309011
quantity_in-requires-in-309011 c = index_fits _ _ c.in-309011.is (sym c.in_ok-judge.ensures)

pub returns-in-300111 : goal.returns-in-300111
unfolding size
returns-in-300111 c =
    rw (quantity-accepted _ _ _ _ (sym c.in_ok-judge.ensures), named_as snapshot c.in-300111.is) (ap accepted c.quantity_in.ensures)

pub returns-in-309011 : goal.returns-in-309011
unfolding size
returns-in-309011 c =
    rw (quantity-accepted _ _ _ _ (sym c.in_ok-judge.ensures), named_as index c.in-309011.is) (ap accepted c.quantity_in-in-309011.ensures)

pub returns-in_default : goal.returns-in_default
returns-in_default c =
    rw (quantity-accepted _ _ _ _ (sym c.in_ok-judge.ensures))
    (ap accepted (sym (no_quantity _ _ _ (no_entries _ (λ e. omega arith) (λ e. omega arith)))))

pub returns-in_err-judge : goal.returns-in_err-judge
returns-in_err-judge c =
    let p = err_from_is_err_and c.from_residual.result c.from_residual.ensures.1 in
    rw (p.1, p.2) (sym (quantity-refused c.args.kind c.args.body.now c.args.i c.args.j (sym c.in_err-judge.ensures)))
