use mathlib.Core.Path.{refl}
use Rattle.seats.specs.Arrays.{held}
use Rattle.joins.proofs.Pass.{alike-by}
use Rattle.joins.proofs.same_set_up.Goals as goal

pub returns : goal.returns
returns c = let s = c.args in
    let n = c.same.ensures in
    let f = c.same-2.ensures in
    alike-by (held s.mine) (held s.other) n.0 n.1 f.0 f.1 _ _ _ refl n.2 f.2
