use Rattle.std.proofs.Common.{arith}
use Rattle.frame.specs.Framing.{header_width, body_limit}
use Rattle.frame.proofs.Framing.{Accepted, told}
use Rattle.frame.proofs.body.Goals as goal
use Rattle.frame.proofs.body.Goals.{In-Ok}

whole : (c : In-Ok) → Accepted header_width body_limit c.args.s.now c.in-Ok.f
whole c = told header_width body_limit _ _ _ c.read.ensures c.in-Ok.is

pub overflow_add-result : goal.overflow_add-result
overflow_add-result c = let a = whole c in omega arith

pub slice_bounds-result-end : goal.slice_bounds-result-end
slice_bounds-result-end c = let a = whole c in omega arith
