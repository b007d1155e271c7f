use native.Mathlib.Omega.{arith}
use mathlib.Core.Path.{◌∙◌, sym}
use Rattle.seats.specs.Arrays.{held_mut}
use Rattle.tracker.specs.Places.{made}
use Rattle.tracker.proofs.Put.{kept_row, byte}
use Rattle.tracker.proofs.Judge.{heard-ahead, heard-behind}
use Rattle.tracker.proofs.lent.heard.Goals as goal

pub returns-then-fields-at-clause-steps : goal.returns-then-fields-at-clause-steps
returns-then-fields-at-clause-steps c = let s = c.args in
    let t = made (held_mut s.fields.now) in
    c.raise.ensures.raises ∙ sym (heard-ahead t s.at (kept_row c.requires) s.m s.end (omega (arith, c.if-fields-at.true)))

pub returns-clause-steps : goal.returns-clause-steps
returns-clause-steps c = let s = c.args in
    let t = made (held_mut s.fields.now) in
    rw (c.from.ensures, byte _) (sym (heard-behind t s.at (kept_row c.requires) s.m s.end (omega (arith, c.if-fields-at.false))))
