use Rattle.std.proofs.Common.{ap, sym, ◌∙◌}
use Rattle.record.specs.Record.{numbers_as}
use Rattle.record.proofs.Had.{had-none, had_all}
use Rattle.record.proofs.body.Listed.numbers.Goals as goal

pub returns-then-body-SIZE : goal.returns-then-body-SIZE
returns-then-body-SIZE g c =
    let m = g.Self.Listed.layout in
    c.fields.ensures ∙ ap (numbers_as m) (sym (had-none m c.args.body.now (rw (g.met.Self.Listed.size_is, ← c.SIZE.ensures) c.if-body-SIZE.true)))

pub returns : goal.returns
returns g c =
    let m = g.Self.Listed.layout in
    c.fields-2.ensures ∙ ap (numbers_as m) (sym (had_all m c.args.body.now (rw (g.met.Self.Listed.size_is, ← c.SIZE.ensures) c.if-body-SIZE.false)))
