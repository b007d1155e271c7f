use Rattle.std.proofs.Common.{◌≡◌, ◌+◌, ◌-◌, ap, sym, ◌∙◌, arith}
use Rattle.wire.specs.Bytes.{be_at}
use Rattle.wire.proofs.Be.{be_at-here}
use Rattle.layout.specs.Kind.{quantity, ranged}
use Rattle.layout.proofs.Walk.{quantities-step, quantities-none}
use Rattle.layout.proofs.group.quantities_in.Goals as goal

pub overflow_add-q : goal.overflow_add-q
overflow_add-q c = omega arith

pub returns-then-not-quantity_in_range : goal.returns-then-not-quantity_in_range
returns-then-not-quantity_in_range c =
    let p = c.loop.p in
    let here : c.quantity_in_range.result ≡ ranged quantity (be_at c.args.s.now p 8) = c.quantity_in_range.ensures ∙ ap (ranged quantity) (c.at.ensures ∙ be_at-here c.args.s.now p (p + 8 - p) 8 (omega arith)) in
    sym (c.loop.invariant.same ∙ quantities-step (c.args.n - c.loop.counter) _ _ (omega arith) ∙ rw (sym here ∙ c.if-not-quantity_in_range.true))

pub loop-preserved : goal.loop-preserved
loop-preserved c =
    let p = c.loop.p in
    let here : c.quantity_in_range.result ≡ ranged quantity (be_at c.args.s.now p 8) = c.quantity_in_range.ensures ∙ ap (ranged quantity) (c.at.ensures ∙ be_at-here c.args.s.now p (p + 8 - p) 8 (omega arith)) in
    let left : c.args.n - c.loop.counter - 1 ≡ c.args.n - (c.loop.counter + 1) = omega arith in
    record {
      there = omega arith;
      same = c.loop.invariant.same ∙ quantities-step (c.args.n - c.loop.counter) _ _ (omega arith) ∙ rw (sym here ∙ c.if-not-quantity_in_range.false, left);
    }

pub returns : goal.returns
returns c = sym (c.loop.invariant.same ∙ quantities-none _ _ _ (omega arith))
