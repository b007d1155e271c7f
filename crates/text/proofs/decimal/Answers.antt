use Prim.Native.Nat.{◌+◌, ◌-◌, ◌≤◌}
use mathlib.Core.Path.{◌≡◌, sym, ap, ◌∙◌}
use native.Mathlib.Omega.{arith}
use lib.ListN.{length, take, drop, set, length-drop, length-set}
use lib.Seq.{take_all}
use Rattle.wire.specs.Bytes.{put_at}
use Rattle.text.specs.Text.{decimal_of, offset_behind}
use Rattle.text.proofs.Decimals.{two_places, fewer_digits, one_more, the_last}
use Rattle.text.proofs.decimal.Goals as goal

pub loop-rest-preserved : goal.loop-rest-preserved
loop-rest-preserved c = let l = c.loop-rest in
    let t = two_places l.i l.rest c.loop-rest-test.true l.invariant.3 in (
      length-set l.digits _ _ ∙ l.invariant.0,
      omega arith,
      omega arith,
      fewer_digits l.i l.rest c.loop-rest-test.true l.invariant.3,
      sym (one_more l.digits l.i l.rest c.loop-rest-test.true l.invariant.3 (omega arith)) ∙ l.invariant.4,
    )

pub returns : goal.returns
returns c = let l = c.loop-rest in
    let a = c.args in
    let d = set l.digits (l.i - 1) (48 + l.rest) in
    let n : length (drop (l.i - 1) d) ≤ 20 - (l.i - 1) =
    omega (arith, length-drop (l.i - 1) d, length-set l.digits (l.i - 1) (48 + l.rest), l.invariant.0)
    in
    let e : take (20 - (l.i - 1)) (drop (l.i - 1) d) ≡ decimal_of a.v =
    take_all (20 - (l.i - 1)) (drop (l.i - 1) d) n
    ∙ sym (the_last l.digits l.i l.rest (omega arith) (omega arith) (omega arith))
    ∙ l.invariant.4
    in
    (c.word.ensures.0 ∙ ap (put_at a.out.now a.at) e, c.word.ensures.1 ∙ ap (offset_behind a.out.now a.at) e)
