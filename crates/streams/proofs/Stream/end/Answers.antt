use Rattle.std.proofs.Common.{ap, sym, ◌∙◌}
use Rattle.wire.specs.Answer.{Answer}
use Rattle.frame.specs.Framing.{header_width, body_limit}
use Rattle.streams.specs.Stream.{over, Said, state, stay}
use Rattle.streams.proofs.States.{led-going, end_on}
use Rattle.streams.proofs.Stream.end.Goals as goal

pub returns-in-Ok : goal.returns-in-Ok
returns-in-Ok c =
    let a = c.args in
    let g = c.in-Ok.ensures.ok in
    let l = led-going header_width body_limit a.buffer.now a.self g.holding g.goes in
    c.stay.ensures
    ∙ ap (λ (x : Answer Said). stay x (state over a.self.held)) (rw g.wants at c.at_end.ensures)
    ∙ sym (end_on header_width body_limit a.buffer.now a.self l g.goes)
