use Rattle.std.proofs.Common.{refl, arith}
use Rattle.layout.specs.Layout.{snapshot, index}
use Rattle.record.proofs.Choice.{named_as}
use Rattle.entries.specs.Entry.{step}
use Rattle.entries.proofs.Entries.{no_entries, no_step}
use Rattle.prices.specs.Entries.{step_answer, priced_left}
use Rattle.prices.proofs.step.next.Goals as goal

pub returns-in-300111 : goal.returns-in-300111
unfolding step
returns-in-300111 c =
    let l = named_as snapshot c.in-300111.is in
    record { value = rw l c.step_in.ensures.value; price_after = rw l c.step_in.ensures.price_after }

pub returns-in-309011 : goal.returns-in-309011
unfolding step
returns-in-309011 c =
    let l = named_as index c.in-309011.is in
    record { value = rw l c.step_in-in-309011.ensures.value; price_after = rw l c.step_in-in-309011.ensures.price_after }

pub returns-in_default : goal.returns-in_default
unfolding step_answer priced_left
returns-in_default c =
    let n = no_step c.args.body.now (record { offset = c.args.at.offset; left = c.args.at.left }) (no_entries c.args.kind (λ e. omega arith) (λ e. omega arith)) in
    record { value = rw n c.none.ensures; price_after = rw n refl }
