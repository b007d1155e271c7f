use Rattle.std.proofs.Common.{◌≡◌, ◌+◌, ◌-◌, length, refl, sym, ◌∙◌, arith}
use Rattle.std.proofs.lemmas.Slice.{put_mid-paste}
use Rattle.wire.proofs.PutAt.{put_fits, put_short, paste_all}
use Rattle.wire.proofs.put.copy.Goals as goal

pub returns-then-out-n : goal.returns-then-out-n
returns-then-out-n c = sym (put_short _ _ _ (omega arith))

pub returns-then-out-n-2 : goal.returns-then-out-n-2
returns-then-out-n-2 c = sym (put_short _ _ _ (omega arith))

pub returns : goal.returns
returns c = let a = c.args in
    let n : length a.bytes.now ≡ a.at + length a.bytes.now - a.at = omega arith in
    put_mid-paste a.at _ a.out.now _ a.bytes.now _ c.copy_from_slice.ensures.after n refl
    ∙ paste_all a.out.now a.at a.bytes.now
    ∙ sym (put_fits a.out.now a.at a.bytes.now (omega arith))
