use Rattle.std.proofs.Common.{pos, sym, ◌∙◌, arith, eq-eqb, ne_eqb}
use Rattle.wire.proofs.Signs.{kept}
use Rattle.entries.proofs.Sayings.{zero_fits, same_bits, other_bits, says-without, says-level, says-price, says-xe, says-xf, says-xg, says_both, says-unknown}
use Rattle.entries.proofs.entry.said.Goals as goal

pub returns-then-price-eq0 : goal.returns-then-price-eq0
returns-then-price-eq0 c =
    rw (kept c.args.size c.ranges.size, kept c.args.orders c.ranges.orders)
    (sym (says-without _ _ (sym c.is_level.ensures ∙ c.if-is_level.true) (same_bits c.args.price (pos 0) c.ranges.price zero_fits c.if-price-eq0.true)))

pub returns-else-price-eq0 : goal.returns-else-price-eq0
returns-else-price-eq0 c =
    rw (kept c.args.price c.ranges.price, kept c.args.size c.ranges.size, kept c.args.orders c.ranges.orders)
    (sym (says-level _ _ (sym c.is_level.ensures ∙ c.if-is_level.true) (other_bits c.args.price (pos 0) c.if-price-eq0.false)))

pub returns-then-is_price : goal.returns-then-is_price
returns-then-is_price c =
    rw (kept c.args.price c.ranges.price)
    (sym (says-price _ _ (sym c.is_level.ensures ∙ c.if-is_level.false) (sym c.is_price.ensures ∙ c.if-is_price.true)))

pub returns-in-30821 : goal.returns-in-30821
returns-in-30821 c =
    rw (kept c.args.price c.ranges.price) at c.limit.ensures
    ∙ sym (says-xe _ _ (sym c.is_level.ensures ∙ c.if-is_level.false) (sym c.is_price.ensures ∙ c.if-is_price.false) (eq-eqb _ _ c.in-30821.is))

pub returns-in-30822 : goal.returns-in-30822
returns-in-30822 c =
    rw (kept c.args.price c.ranges.price) at c.limit-in-30822.ensures
    ∙ sym (says-xf _ _ (sym c.is_level.ensures ∙ c.if-is_level.false) (sym c.is_price.ensures ∙ c.if-is_price.false) (ne_eqb _ _ (λ e. omega arith)) (eq-eqb _ _ c.in-30822.is))

pub returns-in-30823 : goal.returns-in-30823
returns-in-30823 c =
    rw (kept c.args.size c.ranges.size)
    (sym (says-xg _ _ (sym c.is_level.ensures ∙ c.if-is_level.false) (sym c.is_price.ensures ∙ c.if-is_price.false) (ne_eqb _ _ (λ e. omega arith)) (ne_eqb _ _ (λ e. omega arith)) (eq-eqb _ _ c.in-30823.is)))

pub returns-in_default-3 : goal.returns-in_default-3
returns-in_default-3 c =
    rw (kept c.args.price c.ranges.price, kept c.args.size c.ranges.size)
    (sym (says_both _ _ (sym c.is_level.ensures ∙ c.if-is_level.false) (sym c.is_price.ensures ∙ c.if-is_price.false) (ne_eqb _ _ (λ e. omega arith)) (ne_eqb _ _ (λ e. omega arith)) (ne_eqb _ _ (λ e. omega arith)) (sym c.is_both.ensures ∙ c.if-is_both.true)))

pub returns-in_default-4 : goal.returns-in_default-4
returns-in_default-4 c =
    sym (says-unknown _ _ (sym c.is_level.ensures ∙ c.if-is_level.false) (sym c.is_price.ensures ∙ c.if-is_price.false) (ne_eqb _ _ (λ e. omega arith)) (ne_eqb _ _ (λ e. omega arith)) (ne_eqb _ _ (λ e. omega arith)) (sym c.is_both.ensures ∙ c.if-is_both.false))
