use Rattle.std.proofs.Common.{pos, ◌∙◌}
use Rattle.layout.specs.Layout.{values}
use Rattle.record.proofs.Tell.{kept}
use Rattle.entries.proofs.Sayings.{zero_fits, same_bits, other_bits}
use Rattle.prices.proofs.step.leveled.Goals as goal
use Rattle.prices.proofs.step.leveled.Goals.{then-own-eq0, else-own-eq0}

pub returns : goal.returns
unfolding values
returns c = elim c.if-own-eq0.branch [
  | then-own-eq0 w ↦
      let none = rw c.at-own.ensures at (same_bits c.at-own.result (pos 0) (record { sfits = c.at-own.type_inv }) zero_fits w.if-own-eq0.true) in
      record {
        value = rw (w.says-is, none, c.at.ensures, kept c.at-2.type_inv c.at-2.ensures, kept c.at-3.type_inv c.at-3.ensures, c.at-4.ensures);
        price_after = w.price-is ∙ rw none;
      }
  | else-own-eq0 w ↦
      let some = rw c.at-own.ensures at (other_bits c.at-own.result (pos 0) w.if-own-eq0.false) in
      record {
        value = rw (w.says-is, some, c.at.ensures, kept c.at-2.type_inv c.at-2.ensures, kept c.at-3.type_inv c.at-3.ensures, c.at-4.ensures);
        price_after = w.price-is ∙ rw some (kept c.at-own.type_inv c.at-own.ensures);
      }
]
