use Rattle.std.proofs.Common.{◌≡◌, ℕ, zero, suc, ◌≤◌, ◌<◌, true, false, ◌&&◌, [], length, take, leb, eqb, ap, sym, ◌∙◌, arith, le-leb, eq-eqb}
use borrow.Author.Tests.{leb-true, eqb-true}
use lib.Dec.{lit≤}
use Rattle.std.proofs.lemmas.Bool.{and_parts}
use Rattle.frame.specs.Framing.{header_width, body_limit, frame_limit}
use Rattle.streams.specs.Stream.{going}
use Rattle.streams.specs.Steps.{Holding}
use Rattle.streams.proofs.States.{led-going, push-on}
use Rattle.streams.proofs.Readings.{holds-none}
use Rattle.streams.proofs.Stream.push.Goals as goal

-- where the first test fails of a stream that goes on, some bytes are held
some : (mark held n : ℕ) → eqb mark going && eqb held 0 && leb frame_limit n ≡ false → mark ≡ going → frame_limit ≤ n → 0 < held
some mark zero n e m b = let y : true ≡ false = rw (eq-eqb mark going m, le-leb frame_limit n b) at e in absurd cc
some mark (suc held) n e m b = omega arith

pub returns-then-self-buffer : goal.returns-then-self-buffer
returns-then-self-buffer c =
    let a = c.args in
    let s = a.buffer.now in
    let g = eqb a.self.mark going in
    let x = and_parts (g && eqb a.self.held 0) (leb frame_limit (length s)) c.if-self-buffer.true in
    let y = and_parts g (eqb a.self.held 0) x.0 in
    let m : a.self.mark ≡ going = eqb-true a.self.mark going y.0 in
    let z : a.self.held ≡ 0 = eqb-true a.self.held 0 y.1 in
    let k : Holding header_width body_limit s a.self.held = rw z (holds-none header_width body_limit (lit≤ tt) s (leb-true frame_limit (length s) x.1)) in
    let p = push-on header_width body_limit s a.self a.cut.now (led-going header_width body_limit s a.self k m) m in
    let n : take a.self.held s ≡ [] = ap (λ (i : ℕ). take i s) z in
    record { result_value = c.begin.ensures.result_value ∙ sym (p.0 ∙ rw n); buffer_after = c.begin.ensures.buffer_after ∙ sym (p.1 ∙ rw n) }

pub behind-requires : goal.behind-requires
behind-requires c =
    let a = c.args in
    let g = c.in-Ok.ensures.ok in
    (g.holding, some a.self.mark a.self.held (length a.buffer.now) c.if-self-buffer.false g.goes g.holding.room, g.wants)

pub returns-in-Ok : goal.returns-in-Ok
returns-in-Ok c =
    let a = c.args in
    let g = c.in-Ok.ensures.ok in
    let l = led-going header_width body_limit a.buffer.now a.self g.holding g.goes in
    let p = push-on header_width body_limit a.buffer.now a.self a.cut.now l g.goes in
    record { result_value = c.behind.ensures.result_value ∙ sym p.0; buffer_after = c.behind.ensures.buffer_after ∙ sym p.1 }
