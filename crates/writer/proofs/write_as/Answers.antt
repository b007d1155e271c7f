use Rattle.std.proofs.Common.{◌≡◌, ℕ, ◌+◌, ◌-◌, ap, sym, ◌∙◌, arith}
use Rattle.std.proofs.lemmas.Result.{err_from_is_err_and}
use Rattle.layout.specs.Layout.{fields, size}
use Rattle.writer.proofs.Judging.{fields_fit, by_reading}
use Rattle.writer.proofs.Typed.{told_refused, told_fitted, kept, ends, ungrouped, sealing, left}
use Rattle.writer.proofs.write_as.Goals as goal

pub returns-in_err-verdict : goal.returns-in_err-verdict
returns-in_err-verdict g c =
    let p = err_from_is_err_and c.from_residual.result c.from_residual.ensures.1 in
    let t = told_refused g.T.Listed.layout c.args.out.now c.in_err-verdict.field-0.0 c.in_err-verdict.ensures p.2 in
    let k = by_reading _ _ _ (g.met.T.Body.record_is c.args.r) (kept t) in
    record { result_value = rw p.1 k.0; out_after = k.1 }

pub fitted-requires : goal.fitted-requires
fitted-requires g c =
    let s = c.SIZE.ensures ∙ sym g.met.T.Listed.size_is in
    rw s (fields_fit g.T.Listed.layout)

pub returns-in_err-total : goal.returns-in_err-total
returns-in_err-total g c =
    let s = c.SIZE.ensures ∙ sym g.met.T.Listed.size_is in
    let p = err_from_is_err_and c.from_residual-in_err-total.result c.from_residual-in_err-total.ensures.1 in
    let t = told_fitted g.T.Listed.layout c.args.out.now c.in_ok-verdict.ensures (rw s at c.in_err-total.ensures) in
    let k = by_reading _ _ _ (g.met.T.Body.record_is c.args.r) (kept t) in
    record { result_value = rw (p.1, p.2) k.0; out_after = k.1 }

pub overflow_add-SIZE : goal.overflow_add-SIZE
overflow_add-SIZE g c =
    let s = c.SIZE-2.ensures ∙ sym g.met.T.Listed.size_is in
    let f = fields_fit g.T.Listed.layout in
    record { fits = omega (arith, s, f) }

pub slice_bounds-put-end : goal.slice_bounds-put-end
slice_bounds-put-end g c =
    let s = c.SIZE.ensures ∙ sym g.met.T.Listed.size_is in
    let s2 = c.SIZE-2.ensures ∙ sym g.met.T.Listed.size_is in
    let t = told_fitted g.T.Listed.layout c.args.out.now c.in_ok-verdict.ensures (rw s at c.in_ok-total.ensures) in
    omega (arith, s2, ends t)

pub own-requires : goal.own-requires
own-requires g c =
    let s = c.SIZE.ensures ∙ sym g.met.T.Listed.size_is in
    ungrouped (told_fitted g.T.Listed.layout c.args.out.now c.in_ok-verdict.ensures (rw s at c.in_ok-total.ensures))

pub seal-requires : goal.seal-requires
seal-requires g c =
    let m = g.T.Listed.layout in
    let e : 8 + size (fields m) - 8 ≡ size (fields m) = omega arith in
    let s = c.SIZE.ensures ∙ sym g.met.T.Listed.size_is in
    let s2 = c.SIZE-2.ensures ∙ sym g.met.T.Listed.size_is in
    let s3 = c.SIZE-3.ensures ∙ sym g.met.T.Listed.size_is in
    let t = told_fitted m c.args.out.now c.in_ok-verdict.ensures (rw s at c.in_ok-total.ensures) in
    rw (s2, s3, e, c.own.ensures) (sealing t (rw (s2, e) at c.put.ensures))

pub returns : goal.returns
returns g c =
    let m = g.T.Listed.layout in
    let e : 8 + size (fields m) - 8 ≡ size (fields m) = omega arith in
    let s = c.SIZE.ensures ∙ sym g.met.T.Listed.size_is in
    let s2 = c.SIZE-2.ensures ∙ sym g.met.T.Listed.size_is in
    let s3 = c.SIZE-3.ensures ∙ sym g.met.T.Listed.size_is in
    let k = c.KIND.ensures ∙ sym g.met.T.Listed.kind_is in
    let t = told_fitted m c.args.out.now c.in_ok-verdict.ensures (rw s at c.in_ok-total.ensures) in
    let l = left t (rw (s2, e) at c.put.ensures) s3 (ap (λ (n : ℕ). 8 + n - 8) s2 ∙ e) k (rw c.own.ensures at c.seal.ensures) in
    let a = by_reading _ _ _ (g.met.T.Body.record_is c.args.r) l in
    record { result_value = a.0; out_after = a.1 }
