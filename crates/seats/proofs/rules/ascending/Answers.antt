use native.Mathlib.Omega.{arith}
use mathlib.Core.Path.{refl, ◌∙◌, sym}
use Rattle.seats.proofs.Ascends.{ascends_low, ascends_pass, ascends-end}
use Rattle.seats.proofs.rules.ascending.Goals as goal

pub loop-channel-init : goal.loop-channel-init
loop-channel-init c = (omega arith, refl)

pub returns-then-number-low : goal.returns-then-number-low
returns-then-number-low c = let k = c.loop-channel in
    sym (k.invariant.1 ∙ ascends_low _ k.channel-index (omega arith) k.low (omega arith))

pub loop-channel-preserved : goal.loop-channel-preserved
loop-channel-preserved c = let k = c.loop-channel in
    (omega arith, rw c.from-number.ensures (k.invariant.1 ∙ ascends_pass _ k.channel-index (omega arith) k.low (omega arith)))

pub returns : goal.returns
returns c = let k = c.loop-channel in
    sym (k.invariant.1 ∙ ascends-end _ k.channel-index k.low (omega arith))
