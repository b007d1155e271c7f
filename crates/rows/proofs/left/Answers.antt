use native.Mathlib.Omega.{arith}
use borrow.Author.Tests.{lt-ltb, le-ltb, eq-eqb, ne_eqb}
use Rattle.rows.specs.Held.{left_at}
use Rattle.rows.proofs.left.Goals as goal

pub returns-then-n-a : goal.returns-then-n-a
unfolding left_at
returns-then-n-a c = let s = c.args in
    rw (lt-ltb s.n s.a (omega arith))

pub returns-then-n-e : goal.returns-then-n-e
unfolding left_at
returns-then-n-e c = let s = c.args in
    rw (le-ltb s.n s.a (omega arith), eq-eqb s.n s.a (omega arith), lt-ltb s.n s.e (omega arith))

pub returns-then-n-a-2 : goal.returns-then-n-a-2
unfolding left_at
returns-then-n-a-2 c = let s = c.args in
    rw (le-ltb s.n s.a (omega arith), eq-eqb s.n s.a (omega arith), le-ltb s.n s.e (omega arith))

pub returns-then-n-e-2 : goal.returns-then-n-e-2
unfolding left_at
returns-then-n-e-2 c = let s = c.args in
    rw (le-ltb s.n s.a (omega arith), ne_eqb s.n s.a c.if-n-a-2.false, eq-eqb s.n s.e (omega arith))

pub returns : goal.returns
unfolding left_at
returns c = let s = c.args in
    rw (le-ltb s.n s.a (omega arith), ne_eqb s.n s.a c.if-n-a-2.false, ne_eqb s.n s.e c.if-n-e-2.false)
