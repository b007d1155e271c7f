use Rattle.std.proofs.Common.{sym, ◌∙◌}
use Rattle.bodies.proofs.Stores.{other_texts, other_room, fits}
use Rattle.bodies.proofs.body.Body.put.Goals as goal

pub returns-then-texts-TEXTS_SIZE : goal.returns-then-texts-TEXTS_SIZE
returns-then-texts-TEXTS_SIZE g c =
    let size = c.TEXTS_SIZE.ensures ∙ sym g.met.Self.Body.texts_size_is in
    other_texts g.Self.Listed.layout _ _ _ (rw size at c.if-texts-TEXTS_SIZE.true)

pub returns-then-out-SIZE : goal.returns-then-out-SIZE
returns-then-out-SIZE g c =
    let t = c.if-texts-TEXTS_SIZE.false ∙ c.TEXTS_SIZE.ensures ∙ sym g.met.Self.Body.texts_size_is in
    let size = c.SIZE.ensures ∙ sym g.met.Self.Listed.size_is in
    other_room g.Self.Listed.layout _ _ _ t (rw size at c.if-out-SIZE.true)

pub returns : goal.returns
returns g c =
    let t = c.if-texts-TEXTS_SIZE.false ∙ c.TEXTS_SIZE.ensures ∙ sym g.met.Self.Body.texts_size_is in
    let o = c.if-out-SIZE.false ∙ c.SIZE.ensures ∙ sym g.met.Self.Listed.size_is in
    c.store.ensures t o ∙ sym (fits g.Self.Listed.layout _ _ _ t o)
