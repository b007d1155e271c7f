use mathlib.Core.Path.{◌≡◌, ◌∙◌, sym}
use lib.Dec.{ltb}
use mir.Facts.{to_z-of_z}
use borrow.Author.Tests.{ltb-false}
use Rattle.gaps.specs.Channel.{natural}
use Rattle.seats.specs.Arrays.{held, held_mut}
use Rattle.tracker.specs.Places.{made}
use Rattle.tracker.proofs.Judge.{told_at, tick_seat}
use Rattle.tracker.proofs.lent.tick_in.Goals as goal

pub returns-clause-arrives : goal.returns-clause-arrives
returns-clause-arrives c = let s = c.args in
    let b = held_mut s.fields.now in
    let n = c.natural-n.result in
    let i = c.in_ok-at.at in
    let z : n ≡ natural s.number = rw (to_z-of_z c.ranges.number) at c.natural-n.ensures in
    let w = told_at (held c.read.result) b s.channel (ltb n 1) c.judge.result c.read.ensures c.judge.ensures i c.in_ok-at.was in
    c.ticked.ensures.steps ∙ sym (tick_seat (made b) s.channel (ltb n 1) i w s.number n z (ltb-false n 1 w.0))
