use Rattle.std.proofs.Common.{◌≡◌, false, nat_eq, ◌∙◌, rules}
use Rattle.text.proofs.Pieces.{more}
use Rattle.text.proofs.last_line.Goals as goal

pub returns-in-0 : goal.returns-in-0
returns-in-0 c = rw c.in-0.is (more _ _ _ _ c.followed-a.ensures c.followed.ensures)

pub returns-in-1 : goal.returns-in-1
returns-in-1 c =
    let e = more _ _ _ _ (more _ _ _ _ c.followed-a-in-1.ensures c.followed-b.ensures) c.followed-in-1.ensures in
    rw c.in-1.is (rw (c.from.ensures ∙ c.in-1.is) at e)

pub returns-in_default : goal.returns-in_default
returns-in_default c = let a : nat_eq c.args.refused 0 ≡ false = search rules in
    let b : nat_eq c.args.refused 1 ≡ false = search rules in
    let e = more _ _ _ _ c.followed-a-in_default.ensures c.followed-in_default.ensures in
    rw (a, b) (rw c.from-in_default.ensures at e)
