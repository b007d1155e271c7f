use native.Mathlib.Omega.{arith}
use mathlib.Core.Path.{◌∙◌, sym}
use Rattle.rows.proofs.Shift.{places_yes, opened-there, opened-none}
use Rattle.rows.proofs.Moved.{opening_copied}
use Rattle.rows.proofs.open.Goals as goal

pub returns-then-p-q : goal.returns-then-p-q
returns-then-p-q c = let s = c.args in
    let h = places_yes s.p s.q c.if-p-q.true in
    rw c.copy_within.ensures.after (opening_copied s.all.now s.p s.q s.number h.0 (omega (arith, h, c.told-all)) ∙ sym (opened-there s.all.now s.p s.q s.number c.if-p-q.true))

pub returns-else-p-q : goal.returns-else-p-q
returns-else-p-q c = let s = c.args in
    sym (opened-none s.all.now s.p s.q s.number c.if-p-q.false)
