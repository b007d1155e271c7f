use Rattle.std.proofs.Common.{length, refl, ◌∙◌, arith}
use Rattle.std.proofs.lemmas.Slice.{put_mid-paste}
use Rattle.wire.proofs.PutAt.{paste_all}
use Rattle.streams.proofs.keep.keep.Goals as goal

pub returns : goal.returns
returns c =
    let a = c.args in
    put_mid-paste a.at _ a.buffer.now _ a.bytes.now (length a.bytes.now) c.copy_from_slice.ensures.after (omega arith) refl
    ∙ paste_all a.buffer.now a.at a.bytes.now
