use Rattle.std.proofs.Common.{◌≡◌, ℕ, ◌-◌, List, length, take, drop, ap, sym, ◌∙◌, arith}
use lib.ListN.{length-drop, drop_of_length-le}
use lib.Seq.{take_all, drop-drop}
use Rattle.frame.specs.Framing.{read, header_width, body_limit, Framed, means_framed as framed}
use Rattle.frame.proofs.Frames.{taken, count-frame, count_none, count-refusal}
use Rattle.frame.proofs.walking.walk.Goals as goal

-- the frame reader is lent all that is left
read-rest :
    (s : List ℕ) (at : ℕ) (r : Framed) → framed r ≡ read header_width body_limit (take (length s - at) (drop at s)) →
    read header_width body_limit (drop at s) ≡ framed r
read-rest s at r e =
    ap (read header_width body_limit) (sym (take_all (length s - at) (drop at s) (omega (arith, length-drop at s)))) ∙ sym e

-- a whole frame takes bytes of those that are left
pub overflow_add-at : goal.overflow_add-at
overflow_add-at c =
    let t = taken header_width body_limit c.args.s.now c.loop-at.at c.read.result c.in-Ok.f (omega arith) c.read.ensures c.in-Ok.is in
    omega arith

pub loop-at-smaller : goal.loop-at-smaller
loop-at-smaller c =
    let t = taken header_width body_limit c.args.s.now c.loop-at.at c.read.result c.in-Ok.f (omega arith) c.read.ensures c.in-Ok.is in
    omega arith

pub loop-at-preserved : goal.loop-at-preserved
loop-at-preserved c =
    let l = c.loop-at in
    let s = c.args.s.now in
    let f = c.in-Ok.f in
    let t = taken header_width body_limit s l.at c.read.result f (omega arith) c.read.ensures c.in-Ok.is in
    let e = read-rest s l.at c.read.result c.read.ensures ∙ ap framed c.in-Ok.is in (
      omega arith,
      omega arith,
      sym (count-frame header_width body_limit (drop l.at s) f l.at l.frames e ∙ rw drop-drop) ∙ l.invariant.2,
    )

pub returns-in-Err : goal.returns-in-Err
returns-in-Err c =
    let l = c.loop-at in
    let s = c.args.s.now in
    sym
    (count-refusal header_width body_limit (drop l.at s) l.at l.frames _ _ (omega (arith, length-drop l.at s))
    (read-rest s l.at c.read.result c.read.ensures ∙ ap framed c.in-Err.is))
    ∙ l.invariant.2

pub returns : goal.returns
returns c =
    let l = c.loop-at in
    let e = drop_of_length-le c.args.s.now {i = l.at} (omega arith) in
    sym (count_none header_width body_limit l.at l.frames) ∙ rw e at l.invariant.2
