use native.Mathlib.Omega.{arith}
use Prim.Native.Nat.{◌*◌}
use mathlib.Core.Path.{refl, ap, ◌∙◌}
use lib.ListN.{replicate}
use lib.Seq.{sets}
use Rattle.seats.specs.Arrays.{held, held_mut}
use Rattle.joins.proofs.Steps.{max-larger}
use Rattle.joins.proofs.Laid.{row_count, row_first, row_last, first-length, last-length, row-first-same, row-last-same}
use Rattle.joins.specs.Meet.{laid, laid_all}
use Rattle.joins.proofs.Rows.{rows-met}
use Rattle.joins.proofs.Places.{laid-joined}
use Rattle.joins.proofs.laying.lay.Goals as goal

pub overflow_add-has : goal.overflow_add-has
overflow_add-has c = let s = c.args in
    let m = c.meet.ensures ∙ ap (laid_all (laid 0 (replicate 32 0) (replicate 32 0))) (rows-met c.read.result s.other (held_mut s.mine.now) (held s.other) s.at _ _ c.read.ensures refl c.of.ensures c.of-2.ensures) in
    omega (arith, c.requires.count, row_count _ _ _ _ c.requires.room m, c.requires.room)

pub copy-requires : goal.copy-requires
copy-requires c = let s = c.args in
    let m = c.meet.ensures ∙ ap (laid_all (laid 0 (replicate 32 0) (replicate 32 0))) (rows-met c.read.result s.other (held_mut s.mine.now) (held s.other) s.at _ _ c.read.ensures refl c.of.ensures c.of-2.ensures) in
    (c.requires.place, first-length _ _ _ _ c.requires.room m, λ e. row-first-same _ _ _ _ c.requires.room m s.mine.now.first.now s.mine.now.last.now (s.at * 32) _ c.requires.zero e)

pub overflow_add-has-2 : goal.overflow_add-has-2
overflow_add-has-2 c = let s = c.args in
    let m = c.meet.ensures ∙ ap (laid_all (laid 0 (replicate 32 0) (replicate 32 0))) (rows-met c.read.result s.other (held_mut s.mine.now) (held s.other) s.at _ _ c.read.ensures refl c.of.ensures c.of-2.ensures) in
    omega (arith, c.requires.count, row_count _ _ _ _ c.requires.room m, c.requires.room)

pub copy-requires-2 : goal.copy-requires-2
copy-requires-2 c = let s = c.args in
    let m = c.meet.ensures ∙ ap (laid_all (laid 0 (replicate 32 0) (replicate 32 0))) (rows-met c.read.result s.other (held_mut s.mine.now) (held s.other) s.at _ _ c.read.ensures refl c.of.ensures c.of-2.ensures) in
    (c.requires.place, last-length _ _ _ _ c.requires.room m, λ e. row-last-same _ _ _ _ c.requires.room m s.mine.now.first.now s.mine.now.last.now (s.at * 32) _ c.requires.zero e)

pub returns-clause-joined : goal.returns-clause-joined
returns-clause-joined c = let s = c.args in
    let a = held_mut s.mine.now in
    let m = c.meet.ensures ∙ ap (laid_all (laid 0 (replicate 32 0) (replicate 32 0))) (rows-met c.read.result s.other (held_mut s.mine.now) (held s.other) s.at _ _ c.read.ensures refl c.of.ensures c.of-2.ensures) in
    let room = c.requires.room in
    laid-joined a (held s.other) s.at _ _ _ _ _ (c.max.ensures ∙ max-larger _ _) c.either.ensures (row_count _ _ _ _ room m)
    (c.copy.ensures ∙ ap (sets a.first (s.at * 32)) (row_first _ _ _ _ room m))
    (c.copy-2.ensures ∙ ap (sets a.last (s.at * 32)) (row_last _ _ _ _ room m))
