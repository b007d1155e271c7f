use Rattle.std.proofs.Common.{◌≡◌, ◌+◌, ◌-◌, ◌*◌, ◌&&◌, sym, ◌∙◌, arith}
use Rattle.layout.specs.Layout.{ranges}
use Rattle.layout.specs.Paper.{means_groups}
use Rattle.layout.specs.Group as of
use Rattle.layout.specs.Group.{next_offset, quantities, shown_offset}
use Rattle.layout.proofs.Walk.{Ahead, ahead, group_ranges-step, group_ranges-none, shown-here, ranges-here}
use Rattle.layout.proofs.group.groups_in.Goals as goal

pub overflow_add-q : goal.overflow_add-q
overflow_add-q c =
    let there : Ahead (means_groups c.args.g) c.args.s.now c.loop.p (c.args.k - c.loop.counter) = ahead _ _ _ _ (omega arith) c.loop.invariant.there in
    omega arith

pub slice_bounds-e-end : goal.slice_bounds-e-end
slice_bounds-e-end c =
    let there : Ahead (means_groups c.args.g) c.args.s.now c.loop.p (c.args.k - c.loop.counter) = ahead _ _ _ _ (omega arith) c.loop.invariant.there in
    omega arith

pub quantities_in-requires : goal.quantities_in-requires
quantities_in-requires c =
    let there : Ahead (means_groups c.args.g) c.args.s.now c.loop.p (c.args.k - c.loop.counter) = ahead _ _ _ _ (omega arith) c.loop.invariant.there in
    let shown : c.shown-m.result ≡ of.shown (means_groups c.args.g) c.args.s.now c.loop.p = c.shown-m.ensures.0 ∙ shown-here (means_groups c.args.g) _ c.loop.p _ (omega arith) (omega arith) in
    omega (arith, there.whole)

pub returns-then-not-fields_in-quantities_in : goal.returns-then-not-fields_in-quantities_in
returns-then-not-fields_in-quantities_in c =
    let shown : c.shown-m.result ≡ of.shown (means_groups c.args.g) c.args.s.now c.loop.p = c.shown-m.ensures.0 ∙ shown-here (means_groups c.args.g) _ c.loop.p _ (omega arith) (omega arith) in
    let f : c.fields_in.result ≡ ranges (means_groups c.args.g).fields c.args.s.now c.loop.p = c.fields_in.ensures ∙ ranges-here (means_groups c.args.g).fields c.args.s.now c.loop.p _ (omega arith) in
    let q : c.loop.p + c.width-w.result ≡ shown_offset (means_groups c.args.g) c.loop.p = omega arith in
    let tests : c.fields_in.result && c.quantities_in.result ≡ ranges (means_groups c.args.g).fields c.args.s.now c.loop.p && quantities (of.shown (means_groups c.args.g) c.args.s.now c.loop.p) c.args.s.now (shown_offset (means_groups c.args.g) c.loop.p) = λ i. f i && (c.quantities_in.ensures ∙ (λ j. quantities (shown j) c.args.s.now (q j))) i in
    sym (c.loop.invariant.same ∙ group_ranges-step _ _ _ (c.args.k - c.loop.counter) (omega arith) ∙ rw (sym tests ∙ c.if-not-fields_in-quantities_in.true))

pub loop-preserved : goal.loop-preserved
loop-preserved c =
    let there : Ahead (means_groups c.args.g) c.args.s.now c.loop.p (c.args.k - c.loop.counter) = ahead _ _ _ _ (omega arith) c.loop.invariant.there in
    let shown : c.shown-m.result ≡ of.shown (means_groups c.args.g) c.args.s.now c.loop.p = c.shown-m.ensures.0 ∙ shown-here (means_groups c.args.g) _ c.loop.p _ (omega arith) (omega arith) in
    let onward : c.loop.p + c.width-w.result + 8 * c.shown-m.result ≡ next_offset (means_groups c.args.g) c.args.s.now c.loop.p = omega arith in
    let left : c.args.k - c.loop.counter - 1 ≡ c.args.k - (c.loop.counter + 1) = omega arith in
    let f : c.fields_in.result ≡ ranges (means_groups c.args.g).fields c.args.s.now c.loop.p = c.fields_in.ensures ∙ ranges-here (means_groups c.args.g).fields c.args.s.now c.loop.p _ (omega arith) in
    let q : c.loop.p + c.width-w.result ≡ shown_offset (means_groups c.args.g) c.loop.p = omega arith in
    let tests : c.fields_in.result && c.quantities_in.result ≡ ranges (means_groups c.args.g).fields c.args.s.now c.loop.p && quantities (of.shown (means_groups c.args.g) c.args.s.now c.loop.p) c.args.s.now (shown_offset (means_groups c.args.g) c.loop.p) = λ i. f i && (c.quantities_in.ensures ∙ (λ j. quantities (shown j) c.args.s.now (q j))) i in
    record {
      there = rw (onward, ← left) there.rest;
      same = c.loop.invariant.same ∙ group_ranges-step _ _ _ (c.args.k - c.loop.counter) (omega arith) ∙ rw (sym tests ∙ c.if-not-fields_in-quantities_in.false, ← onward, left);
    }

pub returns : goal.returns
returns c = sym (c.loop.invariant.same ∙ group_ranges-none _ _ _ _ (omega arith))
