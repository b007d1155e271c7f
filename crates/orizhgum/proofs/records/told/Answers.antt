use Prim.Native.Nat.{ℕ}
use mathlib.Core.List.{List}
use mathlib.Core.Path.{refl, ap, sym, ◌∙◌}
use Rattle.layout.proofs.Walk.{has_all}
use Rattle.layout.specs.Layout.{fields, texts}
use Rattle.record.specs.Asked.{filled}
use Rattle.record.specs.Record.{numbers_as}
use Rattle.record.proofs.Had.{had_all}
use Rattle.orizhgum.proofs.Shown.{had_of_none, shown-accepted, shown-refused}
use Rattle.orizhgum.proofs.records.told.Goals as goal

pub returns-in-Ok : goal.returns-in-Ok
returns-in-Ok g c =
    let m = g.T.Listed.layout in
    let s = c.args.body.now in
    let e = sym c.in-Ok.ensures in
    let h = had_all m s (has_all m s e).long in
    shown-accepted m s e (c.numbers.ensures ∙ ap (numbers_as m) h) (c.texts.ensures.0 ∙ ap (λ (l : List ℕ). filled (texts (fields m) l 0)) h)

pub returns-in-Err : goal.returns-in-Err
returns-in-Err g c =
    let m = g.T.Listed.layout in
    rw c.from.ensures
    (shown-refused m c.args.body.now (sym c.in-Err.ensures) (c.numbers-in-Err.ensures ∙ ap (numbers_as m) (had_of_none m)) refl)
