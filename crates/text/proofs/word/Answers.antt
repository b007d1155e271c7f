use Rattle.std.proofs.Common.{◌≡◌, ◌+◌, length, sym, ◌∙◌, arith, rules}
use Rattle.text.proofs.Decimals.{next_fits, next_short}
use Rattle.text.proofs.word.Goals as goal

pub returns-in-Some : goal.returns-in-Some
returns-in-Some c = let a = c.args in
    let e : c.in-Some.behind ≡ a.at + length a.bytes.now = search rules in
    (c.copy.ensures, e ∙ sym (next_fits _ _ _ (omega arith)))

pub returns-in_default : goal.returns-in_default
returns-in_default c = let a = c.args in
    let e : c.in-Some.behind ≡ a.at + length a.bytes.now = search rules in
    (c.copy.ensures, sym (next_short _ _ _ (omega arith)))

pub returns-in_default-2 : goal.returns-in_default-2
returns-in_default-2 c = (c.copy.ensures, sym (next_short _ _ _ (omega (arith, c.in_default.ensures))))
