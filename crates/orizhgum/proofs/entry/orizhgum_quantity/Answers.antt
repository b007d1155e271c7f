use Rattle.std.proofs.Common.{refl, ap}
use Rattle.record.proofs.Tell.{kept}
use Rattle.orizhgum.specs.Quantity.{quantity_answer}
use Rattle.orizhgum.proofs.entry.orizhgum_quantity.Goals as goal
use Rattle.orizhgum.proofs.entry.orizhgum_quantity.Goals.{in-Ok-Some, in-Ok-None, in-Err}

pub returns : goal.returns
unfolding quantity_answer
returns c =
    elim c.match-quantity_of.branch [
      | in-Ok-Some w ↦ let t = rw (w.in-Ok-Some.is, w.in-Ok-Some.field-0-is) at c.quantity_of.type_inv in let k = kept {z = w.in-Ok-Some.quantity} t.1.1.1.1.0.1.1.1.1.0.1 refl in rw (w.answer-is, k, k) (ap quantity_answer (rw w.in-Ok-Some.field-0-is at w.in-Ok-Some.ensures))
      | in-Ok-None w ↦ rw w.answer-is (ap quantity_answer (rw w.in-Ok-None.field-0-is at w.in-Ok-None.ensures))
      | in-Err w ↦ rw (w.answer-is, w.from.ensures) (ap quantity_answer w.in-Err.ensures)
    ]
