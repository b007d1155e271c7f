use native.Mathlib.Omega.{arith}
use mathlib.Core.Path.{◌∙◌}
use Rattle.seats.proofs.Walks.{place_found}
use Rattle.seats.proofs.rules.find.Goals as goal

pub returns : goal.returns
returns c = let s = c.args in
    c.place.ensures ∙ place_found s.numbers.now s.channel s.count (omega (arith, c.told-numbers, c.requires))
