use native.Mathlib.Omega.{arith}
use mathlib.Core.Path.{sym, ap, ◌∙◌}
use Prim.Native.Nat.{◌*◌}
use lib.Seq.{sets}
use Rattle.joins.proofs.Rows.{part_sets}
use Rattle.joins.proofs.laying.copy.Goals as goal

pub returns-then-runs-eq0 : goal.returns-then-runs-eq0
returns-then-runs-eq0 c = sym (c.requires.2 c.if-runs-eq0.true)

pub returns : goal.returns
returns c = let s = c.args in
    part_sets s.all.now _ (s.at * 32) _ 32 (omega arith) (omega (arith, c.copy_from_slice.ensures.len)) (omega (arith, c.requires.0))
    ∙ ap (sets s.all.now (s.at * 32)) c.copy_from_slice.ensures.after
