use Rattle.std.proofs.Common.{refl, sym, ◌∙◌, arith, eq-eqb, ne_eqb}
use Rattle.layout.specs.Layout.{of_snapshot, values}
use Rattle.record.proofs.Tell.{kept}
use Rattle.entries.proofs.Sayings.{says-leveled, says-price, says-xe, says-xf, says-xg, says_both, says-unknown}
use Rattle.prices.proofs.Told.{told}
use Rattle.prices.proofs.step.snapshot_entry.Goals as goal

pub returns-then-is_level : goal.returns-then-is_level
returns-then-is_level c =
    let r =
    told of_snapshot c.args.e.now c.args.price.now c.at-characters.ensures
    (says-leveled _ _ (sym c.is_level.ensures ∙ c.if-is_level.true))
    c.leveled.ensures.value c.leveled.ensures.price_after
    in
    record { value = r.0; price_after = r.1 }

pub returns-then-is_price : goal.returns-then-is_price
unfolding values
returns-then-is_price c =
    let r =
    told of_snapshot c.args.e.now c.args.price.now c.at-characters.ensures
    (says-price _ _ (sym c.is_level.ensures ∙ c.if-is_level.false) (sym c.is_price.ensures ∙ c.if-is_price.true))
    c.priced.ensures.value (c.priced.ensures.price_after ∙ kept c.at-own.type_inv c.at-own.ensures)
    in
    record { value = r.0; price_after = r.1 }

pub returns-in-30821 : goal.returns-in-30821
unfolding values
returns-in-30821 c =
    let r =
    told of_snapshot c.args.e.now c.args.price.now c.at-characters.ensures
    (says-xe _ _ (sym c.is_level.ensures ∙ c.if-is_level.false) (sym c.is_price.ensures ∙ c.if-is_price.false) (eq-eqb _ _ c.in-30821.is))
    (rw (kept c.at-own.type_inv c.at-own.ensures) at c.limit.ensures.value) (rw (kept c.at-own.type_inv c.at-own.ensures) at c.limit.ensures.price_after)
    in
    record { value = r.0; price_after = r.1 }

pub returns-in-30822 : goal.returns-in-30822
unfolding values
returns-in-30822 c =
    let r =
    told of_snapshot c.args.e.now c.args.price.now c.at-characters.ensures
    (says-xf _ _ (sym c.is_level.ensures ∙ c.if-is_level.false) (sym c.is_price.ensures ∙ c.if-is_price.false) (ne_eqb _ _ (λ e. omega arith)) (eq-eqb _ _ c.in-30822.is))
    (rw (kept c.at-own.type_inv c.at-own.ensures) at c.limit-in-30822.ensures.value) (rw (kept c.at-own.type_inv c.at-own.ensures) at c.limit-in-30822.ensures.price_after)
    in
    record { value = r.0; price_after = r.1 }

pub returns-in-30823 : goal.returns-in-30823
unfolding values
returns-in-30823 c =
    let r =
    told of_snapshot c.args.e.now c.args.price.now c.at-characters.ensures
    (says-xg _ _ (sym c.is_level.ensures ∙ c.if-is_level.false) (sym c.is_price.ensures ∙ c.if-is_price.false) (ne_eqb _ _ (λ e. omega arith)) (ne_eqb _ _ (λ e. omega arith)) (eq-eqb _ _ c.in-30823.is))
    (rw (kept c.at.type_inv c.at.ensures) at c.bare_entry.ensures) refl
    in
    record { value = r.0; price_after = r.1 }

pub returns-in_default-3 : goal.returns-in_default-3
unfolding values
returns-in_default-3 c =
    let r =
    told of_snapshot c.args.e.now c.args.price.now c.at-characters.ensures
    (says_both _ _ (sym c.is_level.ensures ∙ c.if-is_level.false) (sym c.is_price.ensures ∙ c.if-is_price.false) (ne_eqb _ _ (λ e. omega arith)) (ne_eqb _ _ (λ e. omega arith)) (ne_eqb _ _ (λ e. omega arith)) (sym c.is_both.ensures ∙ c.if-is_both.true))
    (rw (kept c.at-in_default-3.type_inv c.at-in_default-3.ensures) at c.priced-in_default-3.ensures.value) (c.priced-in_default-3.ensures.price_after ∙ kept c.at-own.type_inv c.at-own.ensures)
    in
    record { value = r.0; price_after = r.1 }

pub returns-in_default-4 : goal.returns-in_default-4
returns-in_default-4 c =
    let r =
    told of_snapshot c.args.e.now c.args.price.now c.at-characters.ensures
    (says-unknown _ _ (sym c.is_level.ensures ∙ c.if-is_level.false) (sym c.is_price.ensures ∙ c.if-is_price.false) (ne_eqb _ _ (λ e. omega arith)) (ne_eqb _ _ (λ e. omega arith)) (ne_eqb _ _ (λ e. omega arith)) (sym c.is_both.ensures ∙ c.if-is_both.false))
    c.bare_entry-in_default-4.ensures refl
    in
    record { value = r.0; price_after = r.1 }
