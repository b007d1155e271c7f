use Rattle.std.proofs.Common.{arith, [], ◌∷◌, refl}
use Rattle.layout.specs.Kind.{security, source, financial_status}
use Rattle.layout.specs.Layout.{security_status, size}
use Rattle.bodies.specs.Body.{text_size}
use Rattle.bodies.proofs.Stores.{field, signed_field, all_words, done, stored}
use Rattle.bodies.proofs.security_status.SecurityStatusBody.store.Goals as goal

pub returns : goal.returns
unfolding size text_size
returns c t o =
    stored security_status _ _ _ t o
    (signed_field refl (omega arith) c.put.ensures
    (field c.put-2.ensures
    (all_words (security ∷ source ∷ financial_status ∷ []) t c.copy.ensures
    (field c.put-3.ensures
    done))))
