-- Whether a tracker keeps the rules, which are in `seats`.
use Rattle.std.specs.Prelude.{Bool}
use Rattle.seats.specs.Rules.{sound}
use Rattle.tracker.specs.declared.Tracker.{Tracker}
use Rattle.tracker.specs.Places.{arrays_of}

-- R10: the tracker keeps every rule
unfoldable pub well_formed : Tracker → Bool
well_formed t = sound (arrays_of t)
