use Rattle.std.proofs.Common.{arith, sym, ◌∙◌}
use Rattle.layout.specs.Kind.{time}
use Rattle.bodies.proofs.Tests.{by_bits, statistics_in}
use Rattle.bodies.proofs.statistics.StatisticsBody.numbers_in_range.Goals as goal

pub returns : goal.returns
returns c =
    let r = c.args.self in
    let t1 = by_bits time r.time (omega arith) c.unsigned.ensures c.time_in_range.ensures in
    t1 ∙ sym (statistics_in r)
