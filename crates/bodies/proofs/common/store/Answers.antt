use Rattle.std.proofs.Common.{arith, [], ◌∷◌, refl}
use Rattle.layout.specs.Kind.{stream, security, source, phase}
use Rattle.layout.specs.Layout.{snapshot, size}
use Rattle.bodies.specs.Body.{text_size}
use Rattle.bodies.proofs.Stores.{field, signed_field, all_words, done, stored}
use Rattle.bodies.proofs.common.store.Goals as goal

pub returns : goal.returns
unfolding size text_size
returns c t o =
    stored snapshot _ _ _ t o
    (signed_field refl (omega arith) c.put.ensures
    (field c.put-2.ensures
    (all_words (stream ∷ security ∷ source ∷ phase ∷ []) t c.copy.ensures
    (signed_field refl (omega arith) c.put-3.ensures
    (signed_field refl (omega arith) c.put-4.ensures
    (signed_field refl (omega arith) c.put-5.ensures
    (signed_field refl (omega arith) c.put-6.ensures
    (field c.put-7.ensures
    done))))))))
