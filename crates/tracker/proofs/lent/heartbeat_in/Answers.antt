use mathlib.Core.Path.{◌≡◌, ◌∙◌, sym}
use lib.IntN.{pos}
use lib.Signed.{lt_z}
use mir.Facts.{to_z-of_z}
use Rattle.gaps.specs.Channel.{natural}
use Rattle.seats.specs.Arrays.{held, held_mut}
use Rattle.tracker.specs.Places.{made}
use Rattle.tracker.proofs.Judge.{told_at, heartbeat_seat}
use Rattle.tracker.proofs.lent.heartbeat_in.Goals as goal

pub returns-clause-arrives : goal.returns-clause-arrives
returns-clause-arrives c = let s = c.args in
    let b = held_mut s.fields.now in
    let m = c.natural-m in
    let i = c.in_ok-at.at in
    let z : m.result ≡ natural s.number = rw (to_z-of_z c.ranges.number) at m.ensures in
    let w = told_at (held c.read.result) b s.channel (lt_z s.number (pos 0)) c.judge.result c.read.ensures (rw (to_z-of_z c.ranges.number) at c.judge.ensures) i c.in_ok-at.was in
    c.heard.ensures.steps ∙ sym (heartbeat_seat (made b) s.channel (lt_z s.number (pos 0)) i w s.number s.end m.result z w.0)
