use native.Mathlib.Omega.{arith}
use mathlib.Core.Path.{◌∙◌, sym}
use borrow.Author.Tests.{le-leb, lt-leb, eq-eqb, ne_eqb}
use Rattle.seats.specs.Rules.{sound}
use Rattle.seats.proofs.Fields.sound.Goals as goal

pub returns-then-self-eq0 : goal.returns-then-self-eq0
unfolding sound
returns-then-self-eq0 c = let s = c.args.self in
    rw (eq-eqb s.count 0 (omega arith))

pub returns-then-self-gt-COUNT : goal.returns-then-self-gt-COUNT
unfolding sound
returns-then-self-gt-COUNT c = let s = c.args.self in
    rw (ne_eqb s.count 0 (omega arith), lt-leb s.count 8 (omega arith))

pub returns-then-channels : goal.returns-then-channels
unfolding sound
returns-then-channels c = let s = c.args.self in
    rw (ne_eqb s.count 0 (omega arith), le-leb s.count 8 (omega arith), sym c.channels.ensures ∙ c.if-channels.true) c.unused.ensures

pub returns : goal.returns
unfolding sound
returns c = let s = c.args.self in
    rw (ne_eqb s.count 0 (omega arith), le-leb s.count 8 (omega arith), sym c.channels.ensures ∙ c.if-channels.false)
