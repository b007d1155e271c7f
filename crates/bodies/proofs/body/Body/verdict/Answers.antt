use Rattle.std.proofs.Common.{sym, ◌∙◌}
use Rattle.bodies.proofs.Parts.{other_words, parts}
use Rattle.bodies.proofs.body.Body.verdict.Goals as goal

pub returns-then-texts-TEXTS_SIZE : goal.returns-then-texts-TEXTS_SIZE
returns-then-texts-TEXTS_SIZE g c =
    let size = c.TEXTS_SIZE.ensures ∙ sym g.met.Self.Body.texts_size_is in
    other_words g.Self.Listed.layout _ _ _ (rw size at c.if-texts-TEXTS_SIZE.true)

pub returns : goal.returns
returns g c =
    let size = c.TEXTS_SIZE.ensures ∙ sym g.met.Self.Body.texts_size_is in
    parts g.Self.Listed.layout _ _ _ (c.if-texts-TEXTS_SIZE.false ∙ size) c.also.ensures c.numbers_in_range.ensures c.judge_groups.ensures
