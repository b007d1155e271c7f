use native.Mathlib.Omega.{arith}
use Prim.Native.Nat.{◌≤◌}
use mathlib.Core.Path.{◌∙◌, sym}
use lib.ListN.{get_or}
use Rattle.seats.specs.Arrays.{held_mut}
use Rattle.tracker.specs.Places.{made}
use Rattle.tracker.proofs.Put.{kept_row, starts}
use Rattle.tracker.proofs.Judge.{tick-next, tick-ahead, tick_early, sought, found_none, found_some}
use Rattle.tracker.proofs.lent.ticked.Goals as goal

pub returns-then-before-n-clause-steps : goal.returns-then-before-n-clause-steps
returns-then-before-n-clause-steps c = let s = c.args in
    let g = c.requires in
    let f = starts g.0 in
    let t = made (held_mut s.fields.now) in
    sym (tick-next t s.at (kept_row g.0) s.n g.1 (omega (arith, f)) (omega arith))

pub returns-then-before-n-2-clause-steps : goal.returns-then-before-n-2-clause-steps
returns-then-before-n-2-clause-steps c = let s = c.args in
    let g = c.requires in
    let f = starts g.0 in
    let t = made (held_mut s.fields.now) in
    c.raise.ensures.raises ∙ sym (tick-ahead t s.at (kept_row g.0) s.n g.1 (omega (arith, f, c.if-before-n-2.true)) (omega (arith, c.if-before-n-2.true, c.if-before-n.false)))

pub returns-then-n-fields-clause-steps : goal.returns-then-n-fields-clause-steps
returns-then-n-fields-clause-steps c = let s = c.args in
    let g = c.requires in
    let t = made (held_mut s.fields.now) in
    sym (tick_early t s.at (kept_row g.0) s.n g.1 c.if-n-fields.true)

pub returns-in_default-clause-steps : goal.returns-in_default-clause-steps
returns-in_default-clause-steps c = let s = c.args in
    let g = c.requires in
    let t = made (held_mut s.fields.now) in
    sym (found_none t s.at s.n c.in_default.is (sought t s.at s.n g.0 g.1 (omega (arith, c.if-n-fields.false)) (omega (arith, c.if-before-n-2.false)) c.search.result c.search.ensures))

pub late-requires : goal.late-requires
late-requires c = let s = c.args in
    let g = c.requires in
    let t = made (held_mut s.fields.now) in
    let w = kept_row g.0 in
    let h : s.n ≤ get_or s.fields.now.highest.now s.at 0 = omega (arith, c.if-before-n-2.false) in
    ((g.0.place, w.room), g.1, omega (arith, h, w.high), (found_some t s.at s.n c.in-Some.is (sought t s.at s.n g.0 g.1 (omega (arith, c.if-n-fields.false)) h c.search.result c.search.ensures)).0)

pub returns-clause-steps : goal.returns-clause-steps
returns-clause-steps c = let s = c.args in
    let g = c.requires in
    let t = made (held_mut s.fields.now) in
    c.late.ensures.steps ∙ sym (found_some t s.at s.n c.in-Some.is (sought t s.at s.n g.0 g.1 (omega (arith, c.if-n-fields.false)) (omega (arith, c.if-before-n-2.false)) c.search.result c.search.ensures)).1
