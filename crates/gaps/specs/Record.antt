-- The record that a history makes: a channel as its accepted arrivals alone have it. The first number is a parameter.
use Rattle.std.specs.Prelude.{ℕ, zero, suc, ◌+◌, ◌-◌, List, [], ◌∷◌, Bool, false, cond, not, ◌||◌, eqb, pos, negsuc}
use Rattle.gaps.specs.declared.Run.{Run}
use Rattle.gaps.specs.Gaps.{run}
use Rattle.gaps.specs.Channel.{Channel, Event, tick, heartbeat}
use Rattle.gaps.specs.History.{top, ends}

-- D32: n was brought, as a test
unfoldable pub brought_in : List Event → ℕ → Bool
brought_in [] n = false
brought_in (tick (pos k) ∷ h) n = eqb k n || brought_in h n
brought_in (tick (negsuc k) ∷ h) n = brought_in h n
brought_in (heartbeat z end ∷ h) n = brought_in h n

-- T3: n in front of runs that lie behind it: a run of its own, or the first number of a run that begins right behind it
unfoldable pub ahead : ℕ → List Run → List Run
ahead n [] = run n n ∷ []
ahead n (r ∷ l) = cond (eqb r.first (n + 1)) (run n r.last ∷ l) (run n n ∷ r ∷ l)

-- T3: of the k numbers from lo on those that a test holds of, as runs
unfoldable pub gather : (ℕ → Bool) → ℕ → ℕ → List Run
gather p lo zero = []
gather p lo (suc k) = cond (p lo) (ahead lo (gather p (suc lo) k)) (gather p (suc lo) k)

-- D32: the runs of the numbers from the first to the highest that were never brought
unfoldable pub formed : ℕ → List Event → List Run
formed from h = gather (λ (n : ℕ). not (brought_in h n)) from (top from h + 1 - from)

-- D32, D33: the channel's record
abbrev pub record_of : ℕ → List Event → Channel
record_of from h = record { from = from; highest = top from h; ended = ends h; runs = formed from h }
