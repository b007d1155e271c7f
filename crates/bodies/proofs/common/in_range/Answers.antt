use Rattle.std.proofs.Common.{arith, ◌&&◌, sym, ◌∙◌}
use Rattle.layout.specs.Kind.{amount, last_number, order_price, quantity, time}
use Rattle.bodies.proofs.Tests.{by_bits, common_in}
use Rattle.bodies.proofs.common.in_range.Goals as goal

pub returns : goal.returns
returns c =
    let r = c.args.r in
    let t1 = by_bits time r.time (omega arith) c.unsigned.ensures c.time_in_range.ensures in
    let t2 = by_bits order_price r.previous_close (omega arith) c.unsigned-2.ensures c.price_in_range.ensures in
    let t3 = by_bits last_number r.trade_count (omega arith) c.unsigned-3.ensures c.natural_in_range.ensures in
    let t4 = by_bits quantity r.volume (omega arith) c.unsigned-4.ensures c.quantity_in_range.ensures in
    let t5 = by_bits amount r.amount (omega arith) c.unsigned-5.ensures c.amount_in_range.ensures in
    (λ i. t1 i && (t2 i && (t3 i && (t4 i && t5 i)))) ∙ sym (common_in r)
