use Rattle.std.proofs.Common.{ℕ, ◌≤◌, List, sym, ◌∙◌, arith, length-take-le}
use lib.Dec.{lit≤}
use Rattle.frame.specs.Framing.{header_width, body_limit}
use Rattle.streams.specs.Steps.{Brought}
use Rattle.streams.proofs.Pushes.{Ends, end-comes}
use Rattle.streams.proofs.cut.finish.Goals as goal

ends :
    (buffer : List ℕ) (held lacks : ℕ) (cut : List ℕ) → Brought header_width body_limit buffer held lacks cut × (header_width ≤ held) →
    Ends header_width body_limit buffer held cut lacks
ends buffer held lacks cut q = end-comes header_width body_limit buffer held lacks cut (lit≤ tt) q.0 q.1

pub keep-requires : goal.keep-requires
keep-requires c = let a = c.args in (ends a.buffer.now a.held a.lacks a.cut.now c.requires).fits

pub slice_bounds-judge-end : goal.slice_bounds-judge-end
slice_bounds-judge-end c =
    let a = c.args in
    let e = ends a.buffer.now a.held a.lacks a.cut.now c.requires in
    rw c.keep.ensures (omega (arith, e.room, e.size))

pub slice_bounds-judge-end-2 : goal.slice_bounds-judge-end-2
slice_bounds-judge-end-2 c = sym (length-take-le _ _ (slice_bounds-judge-end c))

pub judge-requires : goal.judge-requires
judge-requires c = let a = c.args in rw c.keep.ensures (ends a.buffer.now a.held a.lacks a.cut.now c.requires).enough

pub returns : goal.returns
returns c =
    let a = c.args in
    let e = ends a.buffer.now a.held a.lacks a.cut.now c.requires in
    record { result_value = rw c.keep.ensures at c.judge.ensures ∙ e.told; buffer_after = c.keep.ensures ∙ e.kept }
