use Rattle.std.proofs.Common.{refl, sym, ◌∙◌}
use Rattle.layout.specs.Layout.{of_index, values}
use Rattle.record.proofs.Tell.{kept}
use Rattle.entries.proofs.Sayings.{says-index, says-index-unknown}
use Rattle.prices.proofs.Told.{told}
use Rattle.prices.proofs.step.index_entry.Goals as goal

pub returns-then-is_index_price : goal.returns-then-is_index_price
unfolding values
returns-then-is_index_price c =
    let r =
    told of_index c.args.e.now c.args.price.now c.at-characters.ensures
    (says-index _ _ (sym c.is_index_price.ensures ∙ c.if-is_index_price.true))
    c.priced.ensures.value (c.priced.ensures.price_after ∙ kept c.at.type_inv c.at.ensures)
    in
    record { value = r.0; price_after = r.1 }

pub returns : goal.returns
returns c =
    let r =
    told of_index c.args.e.now c.args.price.now c.at-characters.ensures
    (says-index-unknown _ _ (sym c.is_index_price.ensures ∙ c.if-is_index_price.false))
    c.bare_entry.ensures refl
    in
    record { value = r.0; price_after = r.1 }
