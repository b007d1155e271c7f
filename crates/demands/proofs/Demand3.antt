-- Demand 3, proved.
use Prim.Native.Nat.{ℕ, ◌≤◌, ◌<◌, zero-le}
use native.Mathlib.Omega.{arith}
use mathlib.Core.Path.{◌≡◌, refl, ap, sym, ◌∙◌, subst}
use mathlib.Core.Logic.{◌↔◌}
use mathlib.Core.List.Permᴰ
use mathlib.Core.List.{List, [], ◌∷◌, Permᴰ, Memᴰ}
use mathlib.Core.Bool.{Bool, true, false, cond, not}
use lib.Dec.{eqb, ltb}
use lib.IntN.{ℤ, pos}
use lib.ListN.{length, get_or, length-map}
use lib.Seq.{ext_get_or}
use borrow.Author.Tests.{eqb-true, eqb-false, ltb-false, not-true, le-ltb}
use Rattle.wire.specs.Answer.{Answer, accepted, refused, guard}
use Rattle.wire.specs.Refusal.{table_full, no_such_channel, malformed}
use Rattle.gaps.specs.Channel.{Channel, fresh, Event, tick, ArrivalSaid, new, late, duplicate, heard, before_start, Step, judge_event, natural, too_low, heartbeat, announced}
use Rattle.gaps.specs.Limits.{most_number}
use Rattle.gaps.proofs.Numbers.{and_split}
use Rattle.gaps.proofs.Signed.{natural-one}
use Rattle.gaps.proofs.Exact.{Exact, forms}
use Rattle.gaps.proofs.Alone as alone
use Rattle.gaps.proofs.Alone.{Judged, judge, words, play, answers, history, exact, nine, says_before, says-new, says-late, says-duplicate, Never}
use Rattle.tracker.specs.declared.Tracker.{Tracker}
use Rattle.std.specs.Prelude.{Ok}
use Rattle.tracker.specs.declared.Reply.{Reply}
use Rattle.tracker.specs.Places.{channel_at}
use Rattle.seats.specs.Rules.{ascends, first_numbers, channels_listed}
use Rattle.tracker.specs.SetUp.{blank_of, set_up, Ready, set_up_said as began_of, means_started}
use Rattle.tracker.specs.Arrived.{Arrival, on, place, Outcome, settled, arrive, arrival_said, means_reply}
use Rattle.tracker.specs.Rules.{well_formed}
use Rattle.tracker.proofs.Begin.{set_up_listed, set_up_refused}
use Rattle.tracker.proofs.Seated.{arrived_at}
use Rattle.tracker.proofs.Unique.{named}
use Rattle.tracker.proofs.Holder.{holder, at, start, start-at, first-at, holder_channel, holder_start, holder_well, Listed}
use Rattle.demands.specs.Play.{Fresh, Turn, turn, Play, arrivals, only, answers_to, if_accepted, history_of, NeverFull, Has, channel_of, from_of, done, step}
use Rattle.demands.specs.Demand3.{HoldsItsList, HoldsItsFirsts, TwoOrders, GapsFromHistory, MarksFromHistory, NineFromHistory, TickFromHistory, HeartbeatFromHistory, OthersRemoved, EverySetUpGives, EveryListPlays}
use Rattle.demands.proofs.Calls.{set_up_as, arrives_as, sets_up, arrives}
use Rattle.demands.proofs.Played.{AllKnown, seat, seat_listed, seat_at, seat_same, seat_test, events_at, answers_at, Ends, ends as played, known-fresh, all_good}

-- ---- a fresh record

-- what a set-up that is not refused took, and gave
record Took (numbers : List ℕ) (from : List ℤ) (t : Tracker) : Type 0 where
  listed : Listed numbers
  even : length numbers ≡ length from
  firsts : first_numbers from ≡ true
  gave : t ≡ blank_of numbers from

took : (numbers : List ℕ) (from : List ℤ) (t : Tracker) → Fresh numbers from t → Took numbers from t
unfolding channels_listed
took numbers from t f = go (channels_listed numbers from) refl
  where
    ready : means_started f.answer ≡ set_up numbers from
    ready = set_up_as f.promise

    none : ◌≡◌ {A = Answer Unit} (accepted tt) (refused malformed []) → ⊥
    none e = let z : ◌≡◌ {A = ℕ} 0 1 = cc in omega arith

    go : (b : Bool) → channels_listed numbers from ≡ b → Took numbers from t
    go true e =
        let a = and_split (not (eqb (length numbers) 0)) _ e in
        let b = and_split (not (ltb 8 (length numbers))) _ a.1 in
        let c = and_split (eqb (length numbers) (length from)) _ b.1 in
        let d = and_split (ascends 0 numbers) _ c.1 in
        record {
          listed = record {
            some = omega (arith, eqb-false (length numbers) 0 (not-true _ a.0));
            most = ltb-false 8 (length numbers) (not-true _ b.0);
            order = d.0;
          };
          even = eqb-true (length numbers) (length from) c.0;
          firsts = d.1;
          gave = sym f.gave ∙ ap (λ (r : Ready). r.tracker) (ready ∙ set_up_listed numbers from e);
        }
    go false e = absurd (none (sym (ap began_of f.ready) ∙ ap (λ (r : Ready). r.said) (ready ∙ set_up_refused numbers from e)))

-- ---- the playing as a whole

-- the first number at place j
abbrev first : List ℤ → ℕ → ℕ
first fs j = natural (get_or fs j (pos 0))

module _ (ns : List ℕ) (fs : List ℤ) (t : Tracker) (f : Fresh ns fs t) where
  listed : Listed ns
  listed = (took ns fs t f).listed

  even : length fs ≡ length ns
  even = sym (took ns fs t f).even

  range : (j : ℕ) → j < length ns → (1 ≤ first fs j) × (first fs j ≤ most_number)
  range j h = first-at fs j (took ns fs t f).firsts (omega (arith, even))

  began : t ≡ holder ns (start fs)
  began = (took ns fs t f).gave ∙ holder_start ns fs (omega (arith, even, listed.most))

  starts : (j : ℕ) → j < length ns → at (start fs) j ≡ fresh (first fs j)
  starts j h = start-at fs j (omega (arith, even))

  size : length (start fs) ≡ length ns
  size = length-map fs (λ (z : ℤ). fresh (natural z)) ∙ even

  known : AllKnown (start fs)
  known j h = let m : j < length ns = omega (arith, size) in rw (starts j m) (known-fresh (first fs j) (range j m).0 (range j m).1)

  module _ (k : ℕ) (h : Has t k) where
    seated : seat ns k < length ns
    seated = let g : place (holder ns (start fs)) k < length ns = rw began at h in rw (seat_same ns (start fs) k) at g

    place-first : place t k ≡ seat ns k
    place-first = ap (λ (x : Tracker). place x k) began ∙ seat_same ns (start fs) k

    -- the channel's first number is the one that came with it
    first-is : from_of t k ≡ first fs (seat ns k)
    first-is =
        ap (λ (i : ℕ). (channel_at t i).from) place-first
        ∙ ap (λ (x : Tracker). (channel_at x (seat ns k)).from) began
        ∙ ap (λ (c : Channel). c.from) (holder_channel ns (start fs) (all_good (start fs) known) (seat ns k) (omega (arith, size, seated)) ∙ starts (seat ns k) seated)

module _ (ns : List ℕ) (fs : List ℤ) (t u : Tracker) (l : List Turn) (f : Fresh ns fs t) (p : Play t l u) where
  final : Ends ns (start fs) l u
  final = played ns (listed ns fs t f) p (start fs) (began ns fs t f) (size ns fs t f) (known ns fs t f)

  events : ℕ → List Event
  events j = events_at ns j (arrivals l)

  mine : (j : ℕ) → j < length ns → at final.rows j ≡ play (fresh (first fs j)) (events_at ns j (arrivals l))
  mine j h = final.mine j h ∙ ap (λ (c : Channel). play c (events_at ns j (arrivals l))) (starts ns fs t f j h)

  told_at : (j : ℕ) → j < length ns → answers_at ns j l ≡ answers (fresh (first fs j)) (events_at ns j (arrivals l))
  told_at j h = final.said j h ∙ ap (λ (c : Channel). answers c (events_at ns j (arrivals l))) (starts ns fs t f j h)

  module _ (k : ℕ) (h : Has t k) where
    place-last : place u k ≡ seat ns k
    place-last = ap (λ (x : Tracker). place x k) final.last ∙ seat_same ns final.rows k

    row_last : channel_at u (seat ns k) ≡ at final.rows (seat ns k)
    row_last = ap (λ (x : Tracker). channel_at x (seat ns k)) final.last ∙ (holder_channel ns final.rows (all_good final.rows final.known) (seat ns k) (omega (arith, final.size, seated ns fs t f k h)))

    record_last : channel_of u k ≡ play (fresh (first fs (seat ns k))) (events_at ns (seat ns k) (arrivals l))
    record_last = rw place-last (row_last ∙ mine (seat ns k) (seated ns fs t f k h))

-- ---- the channel's own events, answers and history

module _ (ns : List ℕ) (k : ℕ) (h : seat ns k < length ns) where
  answers_to_lem : (l : List Turn) → answers_to k l ≡ answers_at ns (seat ns k) l
  answers_to_lem [] = refl
  answers_to_lem (x ∷ l) = rw (seat_test ns x.arrival.channel k h, answers_to_lem l)

  only_events : (l : List Arrival) → events_at ns (seat ns k) (only k l) ≡ events_at ns (seat ns k) l
  only_events [] = refl
  only_events (a ∷ l) = go (eqb a.channel k) (seat_test ns a.channel k h) (only_events l)
    where
      go : (b : Bool) → eqb (seat ns a.channel) (seat ns k) ≡ b → events_at ns (seat ns k) (only k l) ≡ events_at ns (seat ns k) l →
          events_at ns (seat ns k) (cond b (a ∷ only k l) (only k l)) ≡ cond (eqb (seat ns a.channel) (seat ns k)) (a.event ∷ events_at ns (seat ns k) l) (events_at ns (seat ns k) l)
      go true e ih = rw (e, ih)
      go false e ih = rw (e, ih)

  -- the events that the answers accept
  abbrev sift : List Event → List (Answer ArrivalSaid) → List Event
  sift [] vs = []
  sift (e ∷ es) [] = []
  sift (e ∷ es) (v ∷ vs) = if_accepted v e (sift es vs)

  history_sift : (l : List Turn) → history_of k l ≡ sift (events_at ns (seat ns k) (arrivals l)) (answers_at ns (seat ns k) l)
  history_sift [] = refl
  history_sift (x ∷ l) = rw (seat_test ns x.arrival.channel k h, history_sift l) (go (eqb x.arrival.channel k))
    where
      es : List Event
      es = events_at ns (seat ns k) (arrivals l)

      vs : List (Answer ArrivalSaid)
      vs = answers_at ns (seat ns k) l

      go : (b : Bool) → cond b (if_accepted x.said x.arrival.event (sift es vs)) (sift es vs) ≡ sift (cond b (x.arrival.event ∷ es) es) (cond b (x.said ∷ vs) vs)
      go true = refl
      go false = refl

  sift_answers : (c : Channel) (es : List Event) → sift es (answers c es) ≡ history c es
  sift_answers c [] = refl
  sift_answers c (e ∷ es) = rw (sift_answers (alone.after c e) es) (go (judge_event c e) (history (alone.after c e) es))
    where
      go : (a : Answer Step) (g : List Event) → if_accepted (words a) e g ≡ alone.kept a e g
      go (accepted s) g = refl
      go (refused n v) g = refl

-- ---- a channel after a playing

pub record View (t u : Tracker) (l : List Turn) (k : ℕ) : Type 0 where
  pub right : Exact (from_of t k) (channel_of u k) (history_of k l)
  pub size : length (channel_of u k).runs ≤ 32
  pub answer : (e : Event) (r : Reply) → means_reply r ≡ arrive u (on k e) → arrival_said r.verdict ≡ words (judge_event (channel_of u k) e)

pub view : (ns : List ℕ) (fs : List ℤ) (t u : Tracker) (l : List Turn) → Fresh ns fs t → Play t l u → (k : ℕ) → Has t k → View t u l k
view ns fs t u l f p k h =
    let s = seated ns fs t f k h in
    let e = final ns fs t u l f p in
    let m = record_last ns fs t u l f p k h in
    let c = fresh (first fs (seat ns k)) in
    let d : history_of k l ≡ history c (events_at ns (seat ns k) (arrivals l)) =
    history_sift ns k s l ∙ ap (sift ns k s (events_at ns (seat ns k) (arrivals l))) (told_at ns fs t u l f p (seat ns k) s) ∙ sift_answers ns k s c (events_at ns (seat ns k) (arrivals l)) in
    let g : seat ns k < length e.rows = omega (arith, e.size, s) in
    let z : channel_of u k ≡ at e.rows (seat ns k) = ap (channel_at u) (place-last ns fs t u l f p k h) ∙ row_last ns fs t u l f p k h in
    record {
      right = rw (first-is ns fs t f k h) (subst (λ (x : Channel). Exact (first fs (seat ns k)) x (history_of k l)) (sym m) (rw d (exact (first fs (seat ns k)) (range ns fs t f (seat ns k) s).0 (events_at ns (seat ns k) (arrivals l)))));
      size = subst (λ (x : Channel). length x.runs ≤ 32) (sym z) (e.known (seat ns k) g).size;
      answer = λ x r q. ap (λ (o : Outcome). o.said) (q ∙ at_last x) ∙ settled-said (judge_event (channel_of u k) x);
    }
  where
    settled-said : (a : Answer Step) → (settled u (place u k) a).said ≡ words a
    settled-said (accepted s) = refl
    settled-said (refused n v) = refl

    at_last : (x : Event) → arrive u (on k x) ≡ settled u (place u k) (judge_event (channel_of u k) x)
    at_last x =
        let s = seated ns fs t f k h in
        let e = final ns fs t u l f p in
        arrived_at u k x
        (rw e.last (holder_well ns e.rows (listed ns fs t f) e.size (all_good e.rows e.known)))
        (rw (place-last ns fs t u l f p k h, e.last) s)

-- ---- the statements

pub holds_its_list : HoldsItsList
holds_its_list ns fs t f k =
    let e : Has (holder ns (start fs)) k ↔ Memᴰ k ns = rw (seat_same ns (start fs) k) (seat_listed ns k) in
    rw (began ns fs t f) e

pub holds_its_firsts : HoldsItsFirsts
holds_its_firsts ns fs t f i h =
    let k = get_or ns i 0 in
    let s = seat_at ns (listed ns fs t f) i h in
    let g : seat ns k < length ns = omega (arith, s, h) in
    let has : Has t k = (holds_its_list ns fs t f k).1 ((seat_listed ns k).0 g) in
    ap pos (first-is ns fs t f k has) ∙ sym (natural-one (get_or fs (seat ns k) (pos 0)) (range ns fs t f (seat ns k) g).0) ∙ ap (λ (j : ℕ). get_or fs j (pos 0)) s

pub gaps_from_history : GapsFromHistory
gaps_from_history ns fs t u l f p k h n = (forms (view ns fs t u l f p k h).right).same n

pub marks_from_history : MarksFromHistory
marks_from_history ns fs t u l f p k h = let x = (view ns fs t u l f p k h).right in (x.own, x.tops, x.marks)

pub nine_from_history : NineFromHistory
nine_from_history ns fs t u l f p k h e r low q =
    let v = view ns fs t u l f p k h in
    rw (v.answer e r (arrives_as q)) (nine (from_of t k) (channel_of u k) (history_of k l) v.right v.size e low)

pub tick_from_history : TickFromHistory
tick_from_history ns fs t u l f p k h n r s q =
    let v = view ns fs t u l f p k h in
    let low : too_low (tick (pos n)) ≡ false = le-ltb n 1 s in
    let c = channel_of u k in
    let g = history_of k l in
    let b : (words (judge_event c (tick (pos n))) ≡ accepted before_start) ↔ (n < from_of t k) = rw (sym v.right.own) (says_before c n low) in
    rw (v.answer (tick (pos n)) r (arrives_as q))
    (b, says-new (from_of t k) c g v.right v.size n low, says-late (from_of t k) c g v.right v.size n low, says-duplicate (from_of t k) c g v.right v.size n low)

pub heartbeat_from_history : HeartbeatFromHistory
unfolding announced
heartbeat_from_history ns fs t u l f p k h m end r q =
    let v = view ns fs t u l f p k h in
    let e = heartbeat (pos m) end in
    let low : too_low e ≡ false = le-ltb m 0 zero-le in
    rw (v.answer e r (arrives_as q)) (
      λ w. (alone.accepted-says (from_of t k) (channel_of u k) (history_of k l) v.right v.size e heard (λ d. let z : ◌≡◌ {A = ℕ} 0 1 = cc in omega arith) w).2,
      λ w. alone.accepts (from_of t k) (channel_of u k) (history_of k l) v.right v.size e low refl w,
    )

pub others_removed : OthersRemoved
others_removed ns fs t u v l m f p q k h e =
    let s = seated ns fs t f k h in
    let i = seat ns k in
    let c = fresh (first fs i) in
    let d : events_at ns i (arrivals m) ≡ events_at ns i (arrivals l) = ap (events_at ns i) e ∙ only_events ns k s (arrivals l) in (
      record_last ns fs t v m f q k h ∙ ap (play c) d ∙ sym (record_last ns fs t u l f p k h),
      answers_to_lem ns k s m ∙ told_at ns fs t v m f q i s ∙ ap (answers c) d ∙ sym (answers_to_lem ns k s l ∙ told_at ns fs t u l f p i s),
    )

events_perm : (ns : List ℕ) (j : ℕ) {l m : List Arrival} → Permᴰ l m → Permᴰ (events_at ns j l) (events_at ns j m)
events_perm ns j Permᴰ.nil = Permᴰ.nil
events_perm ns j (Permᴰ.cons {a} {b} {l₁ = l} {l₂ = m} e p) = rw e (go (eqb (seat ns b.channel) j) (events_perm ns j p))
  where
    go : (f : Bool) → Permᴰ (events_at ns j l) (events_at ns j m) → Permᴰ (cond f (b.event ∷ events_at ns j l) (events_at ns j l)) (cond f (b.event ∷ events_at ns j m) (events_at ns j m))
    go true q = Permᴰ.cons refl q
    go false q = q
events_perm ns j (Permᴰ.swap {a} {b} {l = l} e g) = rw (sym e, sym g) (go (eqb (seat ns a.channel) j) (eqb (seat ns b.channel) j))
  where
    go : (x y : Bool) → Permᴰ (cond x (a.event ∷ cond y (b.event ∷ events_at ns j l) (events_at ns j l)) (cond y (b.event ∷ events_at ns j l) (events_at ns j l))) (cond y (b.event ∷ cond x (a.event ∷ events_at ns j l) (events_at ns j l)) (cond x (a.event ∷ events_at ns j l) (events_at ns j l)))
    go true true = Permᴰ.swap refl refl
    go true false = Permᴰ.refl _
    go false true = Permᴰ.refl _
    go false false = Permᴰ.refl _
events_perm ns j (Permᴰ.trans p q) = Permᴰ.trans (events_perm ns j p) (events_perm ns j q)

never_at : (ns : List ℕ) (j : ℕ) (l : List Turn) → NeverFull l → Never (refused table_full []) (answers_at ns j l)
never_at ns j [] f = tt
never_at ns j (x ∷ l) f = go (eqb (seat ns x.arrival.channel) j) (never_at ns j l f.1)
  where
    go : (b : Bool) → Never (refused table_full []) (answers_at ns j l) → Never (refused table_full []) (cond b (x.said ∷ answers_at ns j l) (answers_at ns j l))
    go true n = (f.0, n)
    go false n = n

pub two_orders : TwoOrders
two_orders ns fs t u v l m f p q e a b =
    let x = final ns fs t u l f p in
    let y = final ns fs t v m f q in
    let same : x.rows ≡ y.rows = ext_get_or (fresh 1) x.rows y.rows (x.size ∙ sym y.size) (λ j h. row j (rw x.size at h)) in
    x.last ∙ ap (holder ns) same ∙ sym y.last
  where
    row : (j : ℕ) → j < length ns → at (final ns fs t u l f p).rows j ≡ at (final ns fs t v m f q).rows j
    row j h =
        mine ns fs t u l f p j h
        ∙ alone.orders (first fs j) (range ns fs t f j h).0 (events_at ns j (arrivals l)) (events_at ns j (arrivals m)) (events_perm ns j e)
        (subst (Never (refused table_full [])) (told_at ns fs t u l f p j h) (never_at ns j l a))
        (subst (Never (refused table_full [])) (told_at ns fs t v m f q j h) (never_at ns j m b))
        ∙ sym (mine ns fs t v m f q j h)

-- ---- every set-up gives a fresh record, and every list plays

abbrev ready : Answer Unit → Tracker → Ready
ready v t = record { said = v; tracker = t }

pub every_set_up_gives : EverySetUpGives
every_set_up_gives numbers from e =
    let x = set_up numbers from in
    let y : ready (accepted tt) x.tracker ≡ ready x.said x.tracker = rw e in
    record { answer = record { verdict = Ok tt; tracker = x.tracker }; promise = sets_up numbers from (record { verdict = Ok tt; tracker = x.tracker }) y; ready = refl; gave = refl }

-- the word that an arrival is answered is one of the code's
pub answer-named : (t : Tracker) (a : Arrival) → arrival_said (named (arrive t a).said) ≡ (arrive t a).said
unfolding arrive named guard
answer-named t a = go (not (well_formed t)) (not (ltb i t.count)) (judge_event (channel_at t i) a.event) (judge (channel_at t i) a.event)
  where
    i : ℕ
    i = place t a.channel

    word : (s : ArrivalSaid) → arrival_said (named (accepted s)) ≡ accepted s
    word new = refl
    word late = refl
    word duplicate = refl
    word heard = refl
    word before_start = refl

    go : (x y : Bool) (z : Answer Step) → Judged (channel_at t i) a.event z →
        arrival_said (named (settled t i (guard x (refused malformed []) (guard y (refused no_such_channel []) z))).said) ≡ (settled t i (guard x (refused malformed []) (guard y (refused no_such_channel []) z))).said
    go true y z j = refl
    go false true z j = refl
    go false false z (alone.low p) = refl
    go false false z (alone.early p s) = refl
    go false false z (alone.full p s q) = refl
    go false false z (alone.took p s q) = word _

abbrev pub outcome : Answer ArrivalSaid → Tracker → Outcome
outcome v t = record { said = v; next = t }

pub every_list_plays : EveryListPlays
every_list_plays t [] c = record { steps = []; end = t; plays = done; same = refl }
every_list_plays t (a ∷ l) c =
    let o = arrive t a in
    let r : Reply = record { verdict = named o.said; next = o.next } in
    let e : means_reply r ≡ o = ap (λ (v : Answer ArrivalSaid). outcome v o.next) (answer-named t a) in
    let x = every_list_plays o.next l c.1 in
    record {
      steps = turn a (arrival_said (named o.said)) ∷ x.steps;
      end = x.end;
      plays = step a r c.0 (arrives t a.channel a.event r e) x.plays;
      same = ap (λ (m : List Arrival). a ∷ m) x.same;
    }
