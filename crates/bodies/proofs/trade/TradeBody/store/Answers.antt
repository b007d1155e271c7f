use Rattle.std.proofs.Common.{[], ◌∷◌, refl, arith}
use Rattle.layout.specs.Kind.{stream, security, source}
use Rattle.layout.specs.Layout.{trade, size}
use Rattle.bodies.specs.Body.{text_size}
use Rattle.bodies.proofs.Stores.{field, signed_field, words_as, words_left, done, stored}
use Rattle.bodies.proofs.trade.TradeBody.store.Goals as goal

pub returns-in_default : goal.returns-in_default
unfolding text_size
returns-in_default c t o = absurd (omega (arith, t, c.in_default.ensures.cases))

pub returns : goal.returns
unfolding size text_size
returns c t o =
    let parts = c.in-Some.ensures.cases in
    stored trade _ _ _ t o
    (field c.put.ensures
    (signed_field refl (omega arith) c.put-2.ensures
    (words_as (stream ∷ []) parts.1 c.copy.ensures
    (signed_field refl (omega arith) c.put-3.ensures
    (signed_field refl (omega arith) c.put-4.ensures
    (words_left (security ∷ source ∷ []) parts.2 t c.copy-2.ensures
    (signed_field refl (omega arith) c.put-5.ensures
    (signed_field refl (omega arith) c.put-6.ensures
    (field c.put-7.ensures
    (signed_field refl (omega arith) c.put-8.ensures
    done))))))))))
