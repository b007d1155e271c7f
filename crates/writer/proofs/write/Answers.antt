use Rattle.std.proofs.Common.{refl, ap}
use Rattle.record.specs.Paper.{means_record}
use Rattle.writer.specs.Write.{write, write_leaves}
use Rattle.writer.proofs.Judging.{by_reading}
use Rattle.writer.proofs.write.Goals as goal

pub returns-in-Unknown : goal.returns-in-Unknown
unfolding write write_leaves
returns-in-Unknown c =
    let a = c.args in
    let u = by_reading a.texts.now a.groups.now a.out.now (ap means_record c.in-Unknown.is) (refl, refl) in
    record { result_value = u.0; out_after = u.1 }
