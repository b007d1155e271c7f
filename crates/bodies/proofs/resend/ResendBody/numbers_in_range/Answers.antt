use Rattle.std.proofs.Common.{arith, ◌&&◌, sym, ◌∙◌}
use Rattle.layout.specs.Kind.{last_number}
use Rattle.bodies.proofs.Tests.{by_bits, resend_in}
use Rattle.bodies.proofs.resend.ResendBody.numbers_in_range.Goals as goal

pub returns : goal.returns
returns c =
    let r = c.args.self in
    let t1 = c.resend_type_in_range.ensures in
    let t2 = by_bits last_number r.first_number (omega arith) c.unsigned.ensures c.natural_in_range.ensures in
    let t3 = by_bits last_number r.last_number (omega arith) c.unsigned-2.ensures c.natural_in_range-2.ensures in
    let t4 = c.status_in_range.ensures in
    (λ i. t1 i && (t2 i && (t3 i && t4 i))) ∙ sym (resend_in r)
