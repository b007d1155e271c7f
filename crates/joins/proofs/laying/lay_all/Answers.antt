use native.Mathlib.Omega.{arith}
use mathlib.Core.Path.{◌≡◌, refl, ◌∙◌}
use Rattle.seats.specs.Arrays.{held, held_mut}
use Rattle.joins.specs.Join.{put_all}
use Rattle.joins.proofs.Places.{joined_fits, joined-more}
use Rattle.joins.proofs.laying.lay_all.Goals as goal

pub loop-i-init : goal.loop-i-init
unfolding put_all
loop-i-init c = ((refl, refl, refl, refl, refl), (refl, refl, refl), refl)

pub lay-requires : goal.lay-requires
lay-requires c = joined_fits c.loop-i.invariant.2 (λ j h. c.requires j (omega arith))

pub loop-i-preserved : goal.loop-i-preserved
loop-i-preserved c = let s = c.args in
    let p = c.loop-i.invariant.0 in
    let q = c.lay.ensures.same_places in
    let h = c.loop-i.invariant.1 in
    let k = c.lay.ensures.same_channels in (
      (q.0 ∙ p.0, q.1 ∙ p.1, q.2 ∙ p.2, q.3 ∙ p.3, q.4 ∙ p.4),
      (k.0 ∙ h.0, k.1 ∙ h.1, k.2 ∙ h.2),
      joined-more (held_mut s.mine.now) (held s.other) c.loop-i.i (λ j h. (c.requires j (omega arith)).room) c.loop-i.invariant.2 c.lay.ensures.joined,
    )

pub returns : goal.returns
returns c = let e : c.loop-i.i ≡ c.args.mine.now.count = omega arith in
    record { same_places = c.loop-i.invariant.0; same_channels = c.loop-i.invariant.1; joined = rw e at c.loop-i.invariant.2 }
