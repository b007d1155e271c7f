use Rattle.std.proofs.lemmas.Result.{err_from_is_err_and}
use Rattle.std.proofs.Common.{ap, sym, arith}
use Rattle.wire.specs.Answer.{accepted}
use Rattle.layout.specs.Layout.{snapshot, index, size}
use Rattle.record.proofs.Choice.{named_as}
use Rattle.entries.proofs.Entries.{no_entries, no_entry_lem, snapshot_fits, index_fits, entry-refused, entry-accepted}
use Rattle.entries.proofs.entry.entry_of.Goals as goal

pub entry_in-requires : goal.entry_in-requires
entry_in-requires c = snapshot_fits _ _ c.in-300111.is (sym c.in_ok-judge.ensures)

pub entry_in-requires-in-309011 : goal.entry_in-requires-in-309011
entry_in-requires-in-309011 c = index_fits _ _ c.in-309011.is (sym c.in_ok-judge.ensures)

pub returns-in-300111 : goal.returns-in-300111
unfolding size
returns-in-300111 c =
    rw (entry-accepted _ _ _ (sym c.in_ok-judge.ensures), named_as snapshot c.in-300111.is) (ap accepted c.entry_in.ensures)

pub returns-in-309011 : goal.returns-in-309011
unfolding size
returns-in-309011 c =
    rw (entry-accepted _ _ _ (sym c.in_ok-judge.ensures), named_as index c.in-309011.is) (ap accepted c.entry_in-in-309011.ensures)

pub returns-in_default : goal.returns-in_default
returns-in_default c =
    rw (entry-accepted _ _ _ (sym c.in_ok-judge.ensures))
    (ap accepted (sym (no_entry_lem _ _ (no_entries _ (λ e. omega arith) (λ e. omega arith)))))

pub returns-in_err-judge : goal.returns-in_err-judge
returns-in_err-judge c =
    let p = err_from_is_err_and c.from_residual.result c.from_residual.ensures.1 in
    rw (p.1, p.2) (sym (entry-refused c.args.kind c.args.body.now c.args.i (sym c.in_err-judge.ensures)))
