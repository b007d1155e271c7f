use Rattle.std.proofs.Common.{arith, ◌&&◌, sym, ◌∙◌}
use Rattle.layout.specs.Kind.{last_number, number, order_price, quantity, time}
use Rattle.bodies.proofs.Tests.{by_bits, trade_in}
use Rattle.bodies.proofs.trade.TradeBody.numbers_in_range.Goals as goal

pub returns : goal.returns
returns c =
    let r = c.args.self in
    let t1 = by_bits number r.number (omega arith) c.unsigned.ensures c.number_in_range.ensures in
    let t2 = by_bits last_number r.bid_number (omega arith) c.unsigned-2.ensures c.natural_in_range.ensures in
    let t3 = by_bits last_number r.offer_number (omega arith) c.unsigned-3.ensures c.natural_in_range-2.ensures in
    let t4 = by_bits order_price r.trade_price (omega arith) c.unsigned-4.ensures c.price_in_range.ensures in
    let t5 = by_bits quantity r.quantity (omega arith) c.unsigned-5.ensures c.quantity_in_range.ensures in
    let t6 = c.execution_in_range.ensures in
    let t7 = by_bits time r.time (omega arith) c.unsigned-6.ensures c.time_in_range.ensures in
    (λ i. t1 i && (t2 i && (t3 i && (t4 i && (t5 i && (t6 i && t7 i)))))) ∙ sym (trade_in r)
