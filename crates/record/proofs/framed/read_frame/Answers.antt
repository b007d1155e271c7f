use Rattle.std.proofs.Common.{◌≡◌, IsErrAnd, sym, ◌∙◌, arith}
use Rattle.frame.specs.Framing.{header_width, body_limit}
use Rattle.frame.proofs.Framing.{Accepted, told}
use Rattle.record.specs.declared.framed.FrameRefusal.TheVariants.{Frame, Body}
use Rattle.record.proofs.Tell.{frame-whole, frame_refused_as, body_refused_as}
use Rattle.record.proofs.framed.read_frame.Goals as goal
use Rattle.record.proofs.framed.read_frame.Goals.{In_ok-f}

whole : (c : In_ok-f) → Accepted header_width body_limit c.args.s.now c.in_ok-f.f
whole c = told header_width body_limit _ _ _ c.read.ensures c.in_ok-f.was

pub overflow_add-f : goal.overflow_add-f
overflow_add-f c = let a = whole c in omega arith

pub slice_bounds-read-end : goal.slice_bounds-read-end
slice_bounds-read-end c = let a = whole c in omega arith

pub returns-in_err-f : goal.returns-in_err-f
returns-in_err-f c =
    let e : IsErrAnd c.from_residual.result (λ x. x ≡ Frame c.in_err-f.field-0.0) = c.from_residual.ensures.1 in
    frame_refused_as c.args.s.now c.from_residual.result _ e c.in_err-f.ensures

pub returns-in_err-read : goal.returns-in_err-read
returns-in_err-read c =
    let e : IsErrAnd c.from_residual-in_err-read.result (λ x. x ≡ Body c.in_err-read.field-0.0) = c.from_residual-in_err-read.ensures.1 in
    body_refused_as c.args.s.now c.in_ok-f.f (sym c.in_ok-f.ensures) c.from_residual-in_err-read.result _ e c.in_err-read.ensures

pub returns : goal.returns
returns c = c.in_ok-read.ensures ∙ frame-whole c.args.s.now c.in_ok-f.f (sym c.in_ok-f.ensures)
