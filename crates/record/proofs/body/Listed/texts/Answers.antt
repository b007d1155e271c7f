use Rattle.layout.specs.Layout.{fields}
use Rattle.record.proofs.Had.{had-none, had_all, texts-none}
use Rattle.record.proofs.body.Listed.texts.Goals as goal

pub returns-then-body-SIZE : goal.returns-then-body-SIZE
returns-then-body-SIZE g c =
    let m = g.Self.Listed.layout in
    rw (had-none m c.args.body.now (rw (g.met.Self.Listed.size_is, ← c.SIZE.ensures) c.if-body-SIZE.true), texts-none (fields m) 0) c.no_texts.ensures

pub returns : goal.returns
returns g c =
    let m = g.Self.Listed.layout in
    rw (had_all m c.args.body.now (rw (g.met.Self.Listed.size_is, ← c.SIZE.ensures) c.if-body-SIZE.false)) c.gathered.ensures
