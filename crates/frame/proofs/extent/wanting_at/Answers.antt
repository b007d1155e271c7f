use mathlib.Core.Path.{sym}
use Rattle.frame.proofs.Far.{in_header, above, in_body, at-end, wants}
use Rattle.frame.proofs.extent.wanting_at.Goals as goal

pub returns-then-s-h : goal.returns-then-s-h
returns-then-s-h c = sym (wants (in_header c.if-s-h.true))

pub returns-then-limit-len : goal.returns-then-limit-len
returns-then-limit-len c = sym (wants (above c.if-s-h.false (rw c.at-len.ensures at c.if-limit-len.true)))

pub returns-then-s-end : goal.returns-then-s-end
returns-then-s-end c = let e = c.at-len.ensures in
    rw e (sym (wants (in_body c.if-s-h.false (rw e at c.if-limit-len.false) (rw e at c.if-s-end.true))))

pub returns : goal.returns
returns c = let e = c.at-len.ensures in
    sym (wants (at-end c.if-s-h.false (rw e at c.if-limit-len.false) (rw e at c.if-s-end.false)))
