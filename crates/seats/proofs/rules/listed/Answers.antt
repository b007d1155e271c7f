use native.Mathlib.Omega.{arith}
use mathlib.Core.Path.{◌∙◌, sym}
use lib.ListN.{length}
use borrow.Author.Tests.{eq-eqb, ne_eqb, lt-ltb, le-ltb}
use Rattle.seats.specs.Rules.{channels_listed}
use Rattle.seats.proofs.rules.listed.Goals as goal

pub returns-then-n-eq0 : goal.returns-then-n-eq0
unfolding channels_listed
returns-then-n-eq0 c = let l = c.args.numbers.now in
    rw (eq-eqb (length l) 0 (omega arith))

pub returns-then-n-gt-COUNT : goal.returns-then-n-gt-COUNT
unfolding channels_listed
returns-then-n-gt-COUNT c = let l = c.args.numbers.now in
    rw (ne_eqb (length l) 0 (omega arith), lt-ltb 8 (length l) (omega arith))

pub returns-then-n-from : goal.returns-then-n-from
unfolding channels_listed
returns-then-n-from c = let s = c.args in
    let l = s.numbers.now in
    rw (ne_eqb (length l) 0 (omega arith), le-ltb 8 (length l) (omega arith), ne_eqb (length l) (length s.from.now) (λ e. omega (arith, c.if-n-from.true, e)))

pub returns-then-ascending : goal.returns-then-ascending
unfolding channels_listed
returns-then-ascending c = let s = c.args in
    let l = s.numbers.now in
    rw (ne_eqb (length l) 0 (omega arith), le-ltb 8 (length l) (omega arith), eq-eqb (length l) (length s.from.now) (omega (arith, c.if-n-from.false)), sym c.ascending.ensures ∙ c.if-ascending.true) c.counted.ensures

pub returns : goal.returns
unfolding channels_listed
returns c = let s = c.args in
    let l = s.numbers.now in
    rw (ne_eqb (length l) 0 (omega arith), le-ltb 8 (length l) (omega arith), eq-eqb (length l) (length s.from.now) (omega (arith, c.if-n-from.false)), sym c.ascending.ensures ∙ c.if-ascending.false)
