-- Every list of arrivals plays into lent arrays: what the definition gives, the C interface's calls can answer.
-- Assumes nothing.
use Prim.Native.Nat.{ℕ}
use mathlib.Core.Path.{◌≡◌, refl, ap}
use mathlib.Core.Bool.{true, false, not}
use mathlib.Core.List.{List, [], ◌∷◌}
use lib.Dec.{ltb}
use lib.IntN.{ℤ}
use contract.Lifetimes.{Lfts}
use Rattle.wire.specs.Answer.{Answer, accepted, refused, guard}
use Rattle.wire.specs.Refusal.{no_such_channel, malformed}
use Rattle.gaps.specs.Channel.{Event, tick, heartbeat, Step, judge_event}
use Rattle.tracker.specs.declared.Tracker.{Tracker}
use Rattle.tracker.specs.Places.{channel_at, put}
use Rattle.tracker.specs.Rules.{well_formed}
use Rattle.tracker.specs.Arrived.{Arrival, on, place, settled, arrive}
use Rattle.orizhgum.specs.Arrivals.{said_number, ending, replied, arrival_answer}
use Rattle.demands.specs.CalledFromC.{ArrivesFromC, by_tick, by_heartbeat}
use Rattle.demands.specs.Interface.{done, step, EveryListPlaysFromC}
use Rattle.demands.proofs.Calls.{lent, lent_mut}

-- an arrival leaves the count of channels, their numbers and first numbers, which are lent to be read alone
record Stays (t u : Tracker) : Type 0 where
  pub count : t.count ≡ u.count
  pub numbers : t.numbers ≡ u.numbers
  pub from : t.from ≡ u.from

stays_by : (t : Tracker) (i : ℕ) (x : Answer Step) → Stays t (settled t i x).next
unfolding put
stays_by t i (accepted s) = record { count = refl; numbers = refl; from = refl }
stays_by t i (refused n vs) = record { count = refl; numbers = refl; from = refl }

stays : (t : Tracker) (a : Arrival) → Stays t (arrive t a).next
unfolding arrive
stays t a =
    stays_by t (place t a.channel)
    (guard (not (well_formed t)) (refused malformed [])
    (guard (not (ltb (place t a.channel) t.count)) (refused no_such_channel [])
    (judge_event (channel_at t (place t a.channel)) a.event)))

-- the tracker with these arrays, under the count, the numbers and the first numbers that stood
abbrev under : Tracker → Tracker → Tracker
under t u = record { count = t.count; numbers = t.numbers; from = t.from; highest = u.highest; ended = u.ended; counts = u.counts; first = u.first; last = u.last }

same_next : (t u : Tracker) → Stays t u → under t u ≡ u
same_next t u s = λ i. record { count = s.count i; numbers = s.numbers i; from = s.from i; highest = u.highest; ended = u.ended; counts = u.counts; first = u.first; last = u.last }

gives : (t : Tracker) (a : Arrival) → replied (said_number (arrive t a).said) (under t (arrive t a).next) ≡ arrival_answer (arrive t a)
gives t a = ap (replied (said_number (arrive t a).said)) (same_next t (arrive t a).next (stays t a))

abbrev κs : Lfts 6
κs = ([], ([], ([], ([], ([], ([], tt))))))

heard : (t : Tracker) (k : ℕ) (m : ℤ) (b : ℕ) → ArrivesFromC t (on k (heartbeat m (ending b))) (said_number (arrive t (on k (heartbeat m (ending b)))).said) (under t (arrive t (on k (heartbeat m (ending b)))).next)
heard t k m b =
    let u = (arrive t (on k (heartbeat m (ending b)))).next in
    by_heartbeat κs t.count t.count (lent t.numbers) (lent t.numbers) (lent t.from) (lent t.from) (lent_mut t.highest) (lent_mut u.highest) (lent_mut t.ended) (lent_mut u.ended) (lent_mut t.counts) (lent_mut u.counts) (lent_mut t.first) (lent_mut u.first) (lent_mut t.last) (lent_mut u.last)
    k k m m b b _ (gives t (on k (heartbeat m (ending b))))

arrives : (t : Tracker) (k : ℕ) (e : Event) → ArrivesFromC t (on k e) (said_number (arrive t (on k e)).said) (under t (arrive t (on k e)).next)
arrives t k (tick n) =
    let u = (arrive t (on k (tick n))).next in
    by_tick κs t.count t.count (lent t.numbers) (lent t.numbers) (lent t.from) (lent t.from) (lent_mut t.highest) (lent_mut u.highest) (lent_mut t.ended) (lent_mut u.ended) (lent_mut t.counts) (lent_mut u.counts) (lent_mut t.first) (lent_mut u.first) (lent_mut t.last) (lent_mut u.last)
    k k n n _ (gives t (on k (tick n)))
arrives t k (heartbeat m true) = heard t k m 1
arrives t k (heartbeat m false) = heard t k m 0

pub every_list_plays_from_c : EveryListPlaysFromC
every_list_plays_from_c t [] c = record { steps = []; end = t; plays = done; same = refl }
every_list_plays_from_c t (a ∷ l) c =
    let x = every_list_plays_from_c (under t (arrive t a).next) l c.1 in
    record {
      steps = record { arrival = a; number = said_number (arrive t a).said } ∷ x.steps;
      end = x.end;
      plays = step a _ c.0 (arrives t a.channel a.event) x.plays;
      same = ap (λ (m : List Arrival). a ∷ m) x.same;
    }
