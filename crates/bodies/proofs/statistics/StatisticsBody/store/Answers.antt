use Rattle.std.proofs.Common.{arith, refl}
use Rattle.layout.specs.Layout.{statistics, size}
use Rattle.bodies.specs.Body.{text_size}
use Rattle.bodies.proofs.Stores.{field, signed_field, done, stored}
use Rattle.bodies.proofs.statistics.StatisticsBody.store.Goals as goal

pub returns : goal.returns
unfolding size text_size
returns c t o =
    stored statistics _ _ _ t o
    (signed_field refl (omega arith) c.put.ensures
    (field c.put-2.ensures
    (field c.put-3.ensures
    done)))
