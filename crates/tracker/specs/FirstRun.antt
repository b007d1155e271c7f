-- The first run of a channel, which a request asks for.
use Rattle.std.specs.Prelude.{ℕ, List, [], ◌∷◌, not, ltb}
use Rattle.wire.specs.Answer.{Answer, accepted, refused, guard}
use Rattle.wire.specs.Refusal.{no_such_channel, malformed}
use Rattle.gaps.specs.declared.Run.{Run}
use Rattle.tracker.specs.declared.Tracker.{Tracker}
use Rattle.tracker.specs.Places.{channel_at}
use Rattle.tracker.specs.Rules.{well_formed}
use Rattle.tracker.specs.Arrived.{place}

-- Q1, Q3, J8: a run to ask for, or nothing missing
pub data Lost : Type 0 where
  lost : Run → Lost
  nothing_missing : Lost

-- of a channel's runs
abbrev pub foremost : List Run → Lost
foremost [] = nothing_missing
foremost (r ∷ l) = lost r

-- J5: 10, then 7, then the first run, if any
unfoldable pub first_run : Tracker → ℕ → Answer Lost
first_run t k =
    guard (not (well_formed t)) (refused malformed [])
    (guard (not (ltb (place t k) t.count)) (refused no_such_channel [])
    (accepted (foremost (channel_at t (place t k)).runs)))
