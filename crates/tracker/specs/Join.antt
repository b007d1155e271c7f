-- A join's answer: `joins` has the definition, over the arrays of two trackers.
use Rattle.joins.specs.Join.{Outcome, answered}
use Rattle.tracker.specs.declared.Joined.{Joined}
use Rattle.tracker.specs.Places.{arrays_of}

-- T14: what the answer says, and the arrays of the next tracker
abbrev pub means_joined : Joined → Outcome
means_joined r = answered r.verdict (arrays_of r.next)
