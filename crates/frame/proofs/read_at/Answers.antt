use mathlib.Core.Path.{refl, sym, ◌∙◌}
use Rattle.frame.proofs.Framing.{no_header, is_too_long, cut, is_wrong_sum, whole, read_as_lem}
use Rattle.frame.proofs.read_at.Goals as goal

pub returns-then-s-h : goal.returns-then-s-h
returns-then-s-h c = sym (read_as_lem (no_header c.if-s-h.true))

pub returns-then-limit-len : goal.returns-then-limit-len
returns-then-limit-len c = sym (read_as_lem (is_too_long c.if-s-h.false c.at-len.ensures c.if-limit-len.true))

pub returns-then-s-end : goal.returns-then-s-end
returns-then-s-end c = sym (read_as_lem (cut c.if-s-h.false c.at-len.ensures c.if-limit-len.false c.if-s-end.true))

pub returns-then-at-checksum : goal.returns-then-at-checksum
returns-then-at-checksum c = sym
    (read_as_lem
    (is_wrong_sum c.if-s-h.false c.at-len.ensures c.if-limit-len.false c.if-s-end.false
    (λ w. c.if-at-checksum.true (c.at.ensures ∙ w ∙ sym c.checksum.ensures))))

pub returns : goal.returns
returns c = sym
    (read_as_lem
    (whole
    (record {
      header = c.if-s-h.false;
      len = c.at-len.ensures;
      within = c.if-limit-len.false;
      total = refl;
      there = c.if-s-end.false;
      sum = sym c.at.ensures ∙ c.if-at-checksum.false ∙ c.checksum.ensures;
      kind = c.at-2.ensures;
    })))
