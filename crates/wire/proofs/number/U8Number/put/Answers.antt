use Rattle.std.proofs.Common.{◌≡◌, ◌/◌, ◌%◌, ◌∙◌, arith}
use Rattle.wire.specs.Bytes.{digits}
use Rattle.wire.proofs.number.U8Number.put.Goals as goal

pub returns : goal.returns
unfolding digits
returns c = let v = c.args.self in
    let e : v / 1 % 256 ≡ v = omega arith in
    c.copy.ensures ∙ rw (c.to_be_bytes.ensures, e)
