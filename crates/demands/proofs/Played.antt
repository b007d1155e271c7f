-- A playing into a fresh record, channel by channel: each channel's record and answers are those of its own events.
use Prim.Native.Nat.{◌-◌, ℕ, zero, suc, ◌+◌, ◌≤◌, ◌<◌}
use native.Mathlib.Omega.{arith}
use mathlib.Core.Path.{◌≡◌, refl, ap, sym, ◌∙◌, subst}
use mathlib.Core.Logic.{◌↔◌, ◌⊎◌, inl, inr, ⊎_elim}
use mathlib.Core.List.{List, [], ◌∷◌, ◌++◌, Memᴰ}
use mathlib.Core.Bool.{Bool, true, false, cond}
use lib.Dec.{leb, eqb}
use lib.ListN.{length, get_or, set, replicate, length-set, get_or-append}
use lib.Seq.{set-get_or, get_or-set_same, get_or-set_other}
use mir.Syntax.{w64}
use mir.Val.{SFits}
use borrow.Author.Tests.{le-leb, leb-true, eqb-true, eqb-false, eq-eqb, ne_eqb}
use Rattle.wire.specs.Answer.{Answer, accepted, refused}
use Rattle.wire.specs.Refusal.{no_such_channel}
use Rattle.gaps.specs.Limits.{most_number}
use Rattle.gaps.specs.Channel.{Channel, fresh, Event, ArrivalSaid, Step, natural, taken, judge_event}
use Rattle.gaps.specs.History.{number_of, top}
use Rattle.gaps.proofs.Numbers.{lt_or_le, larger-of, and_split}
use Rattle.gaps.proofs.Sets.{yes_canon}
use Rattle.gaps.proofs.History.{top-more}
use Rattle.gaps.proofs.Exact.{Exact, fresh-exact, taken-exact, early_exact}
use Rattle.gaps.proofs.Alone as alone
use Rattle.gaps.proofs.Alone.{Judged, judge, leaves, words, after, play, answers, from_stays}
use Rattle.tracker.specs.declared.Tracker.{Tracker}
use Rattle.tracker.specs.Rules.{well_formed}
use Rattle.seats.specs.Rules.{ascends, is_first}
use Rattle.seats.specs.Seat.{place_from}
use Rattle.tracker.specs.Arrived.{Arrival, place, Outcome, settled, arrive, arrival_said}
use Rattle.gaps.proofs.Signed.{natural_most}
use Rattle.tracker.proofs.Seated.{arrived_7, arrived_at}
use Rattle.tracker.proofs.Holder.{holder, at, Good, AllGood, holder_put, holder_channel, holder_well, Listed}
use Rattle.demands.proofs.Calls.{arrives_as}
use Rattle.demands.specs.Play.{Callable, Turn, turn, Play, done, step, arrivals}

-- ---- one channel's record, with the history that it is exact for

pub record Known (c : Channel) : Type 0 where
  pub past : List Event
  pub exact : Exact c.from c past
  pub first : is_first c.from ≡ true
  pub size : length c.runs ≤ 32
  pub high : c.highest ≤ most_number

known_good : {c : Channel} → Known c → Good c
known_good {c} k = record { small = k.size; high = k.high; first = k.first; start = k.exact.start; order = yes_canon c.from c.highest c.runs k.exact.order }

known_after : (c : Channel) (e : Event) → SFits w64 (number_of e) → Known c → Known (after c e)
known_after c e f k = go (judge_event c e) (judge c e)
  where
    go : (a : Answer Step) → Judged c e a → Known (leaves c a)
    go a (alone.low p) = k
    go a (alone.early p s) =
        record { past = k.past ++ (e ∷ []); exact = early_exact c.from c k.past k.exact e p s; first = k.first; size = k.size; high = k.high }
    go a (alone.full p s q) = k
    go a (alone.took p s q) =
        let x = taken-exact c.from c k.past k.exact e p in
        let t = x.tops ∙ top-more c.from k.past e in
        let m = natural_most (number_of e) f in
        record {
          past = k.past ++ (e ∷ []);
          exact = subst (λ (y : ℕ). Exact y (taken c e).next (k.past ++ (e ∷ []))) (sym x.own) x;
          first = rw x.own k.first;
          size = q;
          high = ⊎_elim (λ y. omega (arith, t, k.exact.tops, k.high)) (λ y. omega (arith, t, m)) (larger-of (top c.from k.past) (natural (number_of e))).2;
        }

pub known-fresh : (n : ℕ) → 1 ≤ n → n ≤ most_number → Known (fresh n)
known-fresh n p q = record { past = []; exact = fresh-exact n p; first = rw (le-leb 1 n p) (le-leb n most_number q); size = omega arith; high = omega arith }

abbrev pub AllKnown : List Channel → Type 0
AllKnown cs = (i : ℕ) → i < length cs → Known (at cs i)

pub all_good : (cs : List Channel) → AllKnown cs → AllGood cs
all_good [] k = tt
all_good (c ∷ cs) k = (known_good (k 0 (omega arith)), all_good cs (λ i h. k (suc i) (omega arith)))

-- ---- places

pub place-number : (ms : List ℕ) (k i n : ℕ) → place_from ms k i n < i + n → get_or ms (place_from ms k i n) 0 ≡ k
unfolding place_from
place-number ms k i zero h = absurd (omega arith)
place-number ms k i (suc n) h = go (eqb (get_or ms i 0) k) refl h (λ q. place-number ms k (suc i) n q)
  where
    go : (b : Bool) → eqb (get_or ms i 0) k ≡ b → cond b i (place_from ms k (suc i) n) < i + suc n →
        (place_from ms k (suc i) n < suc i + n → get_or ms (place_from ms k (suc i) n) 0 ≡ k) → get_or ms (cond (eqb (get_or ms i 0) k) i (place_from ms k (suc i) n)) 0 ≡ k
    go true e h ih = rw e (eqb-true (get_or ms i 0) k e)
    go false e h ih = rw e (ih (omega arith))

-- a number that stands among the n places from i on is found there
pub place_found : (ms : List ℕ) (k i n j : ℕ) → i ≤ j → j < i + n → get_or ms j 0 ≡ k → place_from ms k i n < i + n
unfolding place_from
place_found ms k i zero j a b e = absurd (omega arith)
place_found ms k i (suc n) j a b e = go (eqb (get_or ms i 0) k) refl (λ c. place_found ms k (suc i) n j c (omega arith) e)
  where
    go : (t : Bool) → eqb (get_or ms i 0) k ≡ t → (suc i ≤ j → place_from ms k (suc i) n < suc i + n) → cond (eqb (get_or ms i 0) k) i (place_from ms k (suc i) n) < i + suc n
    go true d ih = rw d (omega arith)
    go false d ih = let m : (i ≡ j → ⊥) = (λ f. eqb-false (get_or ms i 0) k d (ap (λ (x : ℕ). get_or ms x 0) f ∙ e)) in let y = ih (omega (arith, m)) in rw d (omega arith)

-- where a number stands in a list
record Stands (k : ℕ) (l : List ℕ) : Type 0 where
  spot : ℕ
  inside : spot < length l
  here : get_or l spot 0 ≡ k

stands : {k : ℕ} {l : List ℕ} → Memᴰ k l → Stands k l
stands (Memᴰ.head e) = record { spot = 0; inside = omega arith; here = sym e }
stands (Memᴰ.tail m) = let s = stands m in record { spot = suc s.spot; inside = omega (arith, s.inside); here = s.here }

mem_at : (l : List ℕ) (j : ℕ) → j < length l → Memᴰ (get_or l j 0) l
mem_at [] j h = absurd (omega arith)
mem_at (a ∷ l) zero h = Memᴰ.head refl
mem_at (a ∷ l) (suc j) h = Memᴰ.tail (mem_at l j (omega arith))

-- numbers that ascend, from lo on, are not below lo, and each is above those before it
not-below : (lo : ℕ) (l : List ℕ) → ascends lo l ≡ true → (j : ℕ) → j < length l → lo ≤ get_or l j 0
unfolding ascends
not-below lo [] e j h = absurd (omega arith)
not-below lo (n ∷ l) e zero h = leb-true lo n (and_split (leb lo n) _ e).0
not-below lo (n ∷ l) e (suc j) h =
    let a = and_split (leb lo n) _ e in
    omega (arith, leb-true lo n a.0, not-below (n + 1) l a.1 j (omega arith))

rising : (lo : ℕ) (l : List ℕ) → ascends lo l ≡ true → (i j : ℕ) → i < j → j < length l → get_or l i 0 < get_or l j 0
unfolding ascends
rising lo [] e i j p h = absurd (omega arith)
rising lo (n ∷ l) e i zero p h = absurd (omega arith)
rising lo (n ∷ l) e zero (suc j) p h = omega (arith, not-below (n + 1) l (and_split (leb lo n) _ e).1 j (omega arith))
rising lo (n ∷ l) e (suc i) (suc j) p h = rising (n + 1) l (and_split (leb lo n) _ e).1 i j (omega arith) (omega arith)

module _ (ns : List ℕ) where
  -- the place of channel k in every record of this set-up
  abbrev pub seat : ℕ → ℕ
  seat k = place (holder ns []) k

  pub seat_same : (cs : List Channel) (k : ℕ) → place (holder ns cs) k ≡ seat k
  unfolding place
  seat_same cs k = refl

  -- two channels of the tracker at one place are one channel
  seat_apart : (j k : ℕ) → seat j < length ns → seat k < length ns → seat j ≡ seat k → j ≡ k
  unfolding place
  seat_apart j k p q e =
      let ms = (holder ns []).numbers in
      let a = place-number ms j 0 (length ns) (omega arith) in
      let b = place-number ms k 0 (length ns) (omega arith) in
      sym a ∙ ap (λ (i : ℕ). get_or ms i 0) e ∙ b

  pub seat_test : (j k : ℕ) → seat k < length ns → eqb (seat j) (seat k) ≡ eqb j k
  seat_test j k q = go (eqb j k) refl
    where
      go : (b : Bool) → eqb j k ≡ b → eqb (seat j) (seat k) ≡ b
      go true e = eq-eqb (seat j) (seat k) (ap seat (eqb-true j k e))
      go false e = ne_eqb (seat j) (seat k) (λ d. eqb-false j k e (seat_apart j k (rw (sym d) at q) q d))

  -- a channel stands in the list at its seat
  pub seat_number : (k : ℕ) → seat k < length ns → get_or ns (seat k) 0 ≡ k
  unfolding place
  seat_number k h =
      sym (get_or-append ns (replicate {A = ℕ} (8 - length ns) 0) 0 (seat k) h) ∙ place-number (holder ns []).numbers k 0 (length ns) (omega arith)

  -- a channel has a seat exactly when it is listed
  pub seat_listed : (k : ℕ) → (seat k < length ns) ↔ Memᴰ k ns
  unfolding place
  seat_listed k = (
    λ h. subst (λ (x : ℕ). Memᴰ x ns) (seat_number k h) (mem_at ns (seat k) h),
    λ m. (let s = stands m in
        let d = get_or-append ns (replicate {A = ℕ} (8 - length ns) 0) 0 s.spot s.inside in
        omega (arith, place_found (holder ns []).numbers k 0 (length ns) s.spot (omega arith) (omega (arith, s.inside)) (d ∙ s.here))),
  )

  -- and the seat of a listed one is where it stands in the list
  pub seat_at : Listed ns → (i : ℕ) → i < length ns → seat (get_or ns i 0) ≡ i
  seat_at o i h = go (lt_or_le s i) (lt_or_le i s)
    where
      s : ℕ
      s = seat (get_or ns i 0)

      inside : s < length ns
      inside = (seat_listed (get_or ns i 0)).1 (mem_at ns i h)

      same : get_or ns s 0 ≡ get_or ns i 0
      same = seat_number (get_or ns i 0) inside

      go : (s < i) ⊎ (i ≤ s) → (i < s) ⊎ (s ≤ i) → s ≡ i
      go (inl a) d = absurd (omega (arith, same, rising 0 ns o.order s i a h))
      go (inr a) (inl b) = absurd (omega (arith, same, rising 0 ns o.order i s b inside))
      go (inr a) (inr b) = omega arith

  -- ---- one arrival

  module _ (o : Listed ns) (cs : List Channel) (n : length cs ≡ length ns) (k : AllKnown cs) where
    well : well_formed (holder ns cs) ≡ true
    well = holder_well ns cs o n (all_good cs k)

    settled_holder : (i : ℕ) → i < length cs → (a : Answer Step) → Good (leaves (at cs i) a) → (leaves (at cs i) a).from ≡ (at cs i).from →
        settled (holder ns cs) i a ≡ record { said = words a; next = holder ns (set cs i (leaves (at cs i) a)) }
    settled_holder i h (accepted s) g f = rw (holder_put ns cs i s.next (all_good cs k) h g f)
    settled_holder i h (refused m v) g f = rw (set-get_or cs i (fresh 1))

    arrives : (a : Arrival) → Callable a → seat a.channel < length ns →
        arrive (holder ns cs) a ≡ record { said = words (judge_event (at cs (seat a.channel)) a.event); next = holder ns (set cs (seat a.channel) (after (at cs (seat a.channel)) a.event)) }
    arrives a f h =
        let i = seat a.channel in
        let d : i < length cs = omega arith in
        arrived_at (holder ns cs) a.channel a.event well (rw (seat_same cs a.channel) h)
        ∙ rw (seat_same cs a.channel, holder_channel ns cs (all_good cs k) i d)
        (settled_holder i d (judge_event (at cs i) a.event) (known_good (known_after (at cs i) a.event f (k i d))) (from_stays (at cs i) a.event))

    passes : (a : Arrival) → length ns ≤ seat a.channel → arrive (holder ns cs) a ≡ record { said = refused no_such_channel []; next = holder ns cs }
    passes a h = arrived_7 (holder ns cs) a.channel a.event well (rw (seat_same cs a.channel) h)

-- ---- a playing

-- the events that come to place i
abbrev pub events_at : List ℕ → ℕ → List Arrival → List Event
events_at ns i [] = []
events_at ns i (a ∷ l) = cond (eqb (seat ns a.channel) i) (a.event ∷ events_at ns i l) (events_at ns i l)

-- what they were answered
abbrev pub answers_at : List ℕ → ℕ → List Turn → List (Answer ArrivalSaid)
answers_at ns i [] = []
answers_at ns i (x ∷ l) = cond (eqb (seat ns x.arrival.channel) i) (x.said ∷ answers_at ns i l) (answers_at ns i l)

-- the record at the end, from the records cs at the start
pub record Ends (ns : List ℕ) (cs : List Channel) (l : List Turn) (u : Tracker) : Type 0 where
  pub rows : List Channel
  pub last : u ≡ holder ns rows
  pub size : length rows ≡ length ns
  pub known : AllKnown rows
  pub mine : (j : ℕ) → j < length ns → at rows j ≡ play (at cs j) (events_at ns j (arrivals l))
  pub said : (j : ℕ) → j < length ns → answers_at ns j l ≡ answers (at cs j) (events_at ns j (arrivals l))

module _ (cs : List Channel) (i : ℕ) (e : Event) (h : i < length cs) where
  -- the records with event e at place i
  abbrev stepped : List Channel
  stepped = set cs i (after (at cs i) e)

  stepped-known : SFits w64 (number_of e) → AllKnown cs → AllKnown stepped
  stepped-known f k j m = go (eqb j i) refl
    where
      go : (b : Bool) → eqb j i ≡ b → Known (at stepped j)
      go true p = rw (eqb-true j i p, get_or-set_same cs i (after (at cs i) e) (fresh 1) h) (known_after (at cs i) e f (k i h))
      go false p = rw (get_or-set_other cs i j (after (at cs i) e) (fresh 1) (eqb-false j i p)) (k j (rw (length-set cs i (after (at cs i) e)) at m))

  stepped_play : (j : ℕ) (es : List Event) → play (at stepped j) es ≡ play (at cs j) (cond (eqb i j) (e ∷ es) es)
  stepped_play j es = go (eqb i j) refl
    where
      go : (b : Bool) → eqb i j ≡ b → play (at stepped j) es ≡ play (at cs j) (cond b (e ∷ es) es)
      go true p = rw (sym (eqb-true i j p), get_or-set_same cs i (after (at cs i) e) (fresh 1) h)
      go false p = rw (get_or-set_other cs i j (after (at cs i) e) (fresh 1) (λ d. eqb-false i j p (sym d)))

  stepped-said : (j : ℕ) (es : List Event) → cond (eqb i j) (words (judge_event (at cs i) e) ∷ answers (at stepped j) es) (answers (at stepped j) es) ≡ answers (at cs j) (cond (eqb i j) (e ∷ es) es)
  stepped-said j es = go (eqb i j) refl
    where
      go : (b : Bool) → eqb i j ≡ b → cond b (words (judge_event (at cs i) e) ∷ answers (at stepped j) es) (answers (at stepped j) es) ≡ answers (at cs j) (cond b (e ∷ es) es)
      go true p = rw (sym (eqb-true i j p), get_or-set_same cs i (after (at cs i) e) (fresh 1) h)
      go false p = rw (get_or-set_other cs i j (after (at cs i) e) (fresh 1) (λ d. eqb-false i j p (sym d)))

pub ends : (ns : List ℕ) → Listed ns → {t u : Tracker} {l : List Turn} → Play t l u → (cs : List Channel) → t ≡ holder ns cs → length cs ≡ length ns → AllKnown cs → Ends ns cs l u
ends ns o done cs e n k = record { rows = cs; last = e; size = n; known = k; mine = λ i h. refl; said = λ i h. refl }
ends ns o (step {t} {u} {l} a r f p q) cs e n k = go (lt_or_le (seat ns a.channel) (length ns)) (λ ds d m y. ends ns o q ds d m y)
  where
    i : ℕ
    i = seat ns a.channel

    c : Channel
    c = at cs (seat ns a.channel)

    go : (i < length ns) ⊎ (length ns ≤ i) → ((ds : List Channel) → r.next ≡ holder ns ds → length ds ≡ length ns → AllKnown ds → Ends ns ds l u) → Ends ns cs (turn a (arrival_said r.verdict) ∷ l) u
    go (inl h) ih =
        let w = arrives_as p ∙ ap (λ (x : Tracker). arrive x a) e ∙ arrives ns o cs n k a f h in
        let g : i < length cs = omega arith in
        let x = ih (stepped cs i a.event g) (ap (λ (z : Outcome). z.next) w) (length-set cs i (after c a.event) ∙ n) (stepped-known cs i a.event g f k) in
        let v : arrival_said r.verdict ≡ words (judge_event c a.event) = ap (λ (z : Outcome). z.said) w in
        record {
          rows = x.rows;
          last = x.last;
          size = x.size;
          known = x.known;
          mine = λ j m. x.mine j m ∙ stepped_play cs i a.event g j (events_at ns j (arrivals l));
          said = λ j m. rw (x.said j m, v) (stepped-said cs i a.event g j (events_at ns j (arrivals l)));
        }
    go (inr h) ih =
        let w = arrives_as p ∙ ap (λ (x : Tracker). arrive x a) e ∙ passes ns o cs n k a h in
        let x = ih cs (ap (λ (z : Outcome). z.next) w) n k in
        record {
          rows = x.rows;
          last = x.last;
          size = x.size;
          known = x.known;
          mine = λ j m. rw (ne_eqb i j (λ d. omega (arith, d))) (x.mine j m);
          said = λ j m. rw (ne_eqb i j (λ d. omega (arith, d))) (x.said j m);
        }
