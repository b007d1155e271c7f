use Rattle.std.proofs.Common.{[], ◌∷◌, refl, arith}
use Rattle.layout.specs.Kind.{stream, security, source}
use Rattle.layout.specs.Layout.{order, size}
use Rattle.bodies.specs.Body.{text_size}
use Rattle.bodies.proofs.Stores.{field, signed_field, all_words, done, stored}
use Rattle.bodies.proofs.order.OrderBody.store.Goals as goal

pub returns : goal.returns
unfolding size text_size
returns c t o =
    stored order _ _ _ t o
    (field c.put.ensures
    (signed_field refl (omega arith) c.put-2.ensures
    (all_words (stream ∷ security ∷ source ∷ []) t c.copy.ensures
    (signed_field refl (omega arith) c.put-3.ensures
    (signed_field refl (omega arith) c.put-4.ensures
    (field c.put-5.ensures
    (signed_field refl (omega arith) c.put-6.ensures
    (field c.put-7.ensures
    done))))))))
