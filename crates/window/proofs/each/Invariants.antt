use Rattle.window.specs.Window.{LeftOf}
use Rattle.window.proofs.each.Given as goal

abbrev pub invariant-loop : goal.invariant-loop
invariant-loop g l = LeftOf (g.R.Read.remaining l.initial.input) (g.R.Read.remaining l.input) l.held l.window
