use native.Mathlib.Omega.{arith}
use borrow.Author.Tests.{leb-true, eq-eqb, ne_eqb, lt-ltb, le-ltb}
use lib.ListN.{get_or}
use Prim.Native.Nat.{◌*◌, ◌+◌, ◌-◌}
use Rattle.gaps.proofs.Numbers.{and_split}
use Rattle.rows.specs.Row.{row_there}
use Rattle.rows.specs.Gap.{room}
use Rattle.rows.proofs.Row.{there_yes}
use Rattle.rows.proofs.room.Goals as goal

pub overflow_add-result : goal.overflow_add-result
overflow_add-result c = let s = c.args in
    let g = and_split (row_there s.at s.count) _ (rw c.there.ensures at c.if-there-highest.true) in
    let h = there_yes s.at s.count g.0 in
    let m = leb-true s.highest 9223372036854775807 g.1 in
    omega (arith, m)

pub returns-then-count-eq0 : goal.returns-then-count-eq0
unfolding room
returns-then-count-eq0 c = let s = c.args in
    let g = and_split (row_there s.at s.count) _ (rw c.there.ensures at c.if-there-highest.true) in
    let h = there_yes s.at s.count g.0 in
    let m = leb-true s.highest 9223372036854775807 g.1 in
    rw (g.0, g.1, eq-eqb s.count 0 (omega arith))

pub overflow_mul-p : goal.overflow_mul-p
overflow_mul-p c = let s = c.args in
    let g = and_split (row_there s.at s.count) _ (rw c.there.ensures at c.if-there-highest.true) in
    let h = there_yes s.at s.count g.0 in
    let m = leb-true s.highest 9223372036854775807 g.1 in
    omega (arith, h)

pub overflow_add-p : goal.overflow_add-p
overflow_add-p c = let s = c.args in
    let g = and_split (row_there s.at s.count) _ (rw c.there.ensures at c.if-there-highest.true) in
    let h = there_yes s.at s.count g.0 in
    let m = leb-true s.highest 9223372036854775807 g.1 in
    omega (arith, h)

pub offset_bounds-last-p : goal.offset_bounds-last-p
offset_bounds-last-p c = let s = c.args in
    let g = and_split (row_there s.at s.count) _ (rw c.there.ensures at c.if-there-highest.true) in
    let h = there_yes s.at s.count g.0 in
    omega (arith, h)

pub bounds-last-p : goal.bounds-last-p
bounds-last-p c = let s = c.args in
    let g = and_split (row_there s.at s.count) _ (rw c.there.ensures at c.if-there-highest.true) in
    let h = there_yes s.at s.count g.0 in
    let m = leb-true s.highest 9223372036854775807 g.1 in
    omega (arith, h)

pub offset_bounds-first-p : goal.offset_bounds-first-p
offset_bounds-first-p c = let s = c.args in
    let g = and_split (row_there s.at s.count) _ (rw c.there.ensures at c.if-there-highest.true) in
    let h = there_yes s.at s.count g.0 in
    omega (arith, h)

pub bounds-first-p : goal.bounds-first-p
bounds-first-p c = let s = c.args in
    let g = and_split (row_there s.at s.count) _ (rw c.there.ensures at c.if-there-highest.true) in
    let h = there_yes s.at s.count g.0 in
    omega (arith, h)

pub returns-then-last-p : goal.returns-then-last-p
unfolding room
returns-then-last-p c = let s = c.args in
    let g = and_split (row_there s.at s.count) _ (rw c.there.ensures at c.if-there-highest.true) in
    let h = there_yes s.at s.count g.0 in
    let m = leb-true s.highest 9223372036854775807 g.1 in
    rw (g.0, g.1, ne_eqb s.count 0 c.if-count-eq0.false, eq-eqb (get_or s.last.now (s.at * 32 + (s.count - 1)) 0) s.highest c.if-last-p.true)

pub overflow_add-result-then-count-lt-LIMIT : goal.overflow_add-result-then-count-lt-LIMIT
overflow_add-result-then-count-lt-LIMIT c = let s = c.args in
    let g = and_split (row_there s.at s.count) _ (rw c.there.ensures at c.if-there-highest.true) in
    let h = there_yes s.at s.count g.0 in
    let m = leb-true s.highest 9223372036854775807 g.1 in
    omega (arith, m)

pub returns-then-count-lt-LIMIT : goal.returns-then-count-lt-LIMIT
unfolding room
returns-then-count-lt-LIMIT c = let s = c.args in
    let g = and_split (row_there s.at s.count) _ (rw c.there.ensures at c.if-there-highest.true) in
    let h = there_yes s.at s.count g.0 in
    let m = leb-true s.highest 9223372036854775807 g.1 in
    rw (g.0, g.1, ne_eqb s.count 0 c.if-count-eq0.false, ne_eqb (get_or s.last.now (s.at * 32 + (s.count - 1)) 0) s.highest c.if-last-p.false, lt-ltb s.count 32 (omega arith))

pub returns-else-count-lt-LIMIT : goal.returns-else-count-lt-LIMIT
unfolding room
returns-else-count-lt-LIMIT c = let s = c.args in
    let g = and_split (row_there s.at s.count) _ (rw c.there.ensures at c.if-there-highest.true) in
    let h = there_yes s.at s.count g.0 in
    let m = leb-true s.highest 9223372036854775807 g.1 in
    rw (g.0, g.1, ne_eqb s.count 0 c.if-count-eq0.false, ne_eqb (get_or s.last.now (s.at * 32 + (s.count - 1)) 0) s.highest c.if-last-p.false, le-ltb s.count 32 (omega arith))

pub returns-else-there-highest : goal.returns-else-there-highest
unfolding room
returns-else-there-highest c = rw (rw c.there.ensures at c.if-there-highest.false)
