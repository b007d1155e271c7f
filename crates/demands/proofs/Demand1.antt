-- Demand 1: each call's answer is the refusal of the first rule whose condition holds, and leaves things as they stood.
-- Assumes nothing.
use Prim.Native.Nat.{ℕ, zero, suc, ◌+◌, ◌≤◌, ◌<◌, zero-le}
use mathlib.Core.Path.{◌≡◌, refl, ap, sym, subst, ◌∙◌}
use mathlib.Core.Bool.{Bool, true, false, true≢false, false≢true, not, cond, ◌&&◌}
use mathlib.Core.Logic.{◌↔◌, ◌⊎◌, inl, inr, ⊎_elim}
use mathlib.Core.List.{List, [], ◌∷◌}
use native.Mathlib.Omega.{arith}
use borrow.Author.Tests.{lt-ltb, le-ltb, ltb-true, ltb-false, leb-true, leb-false, le-leb, eqb-true, eqb-false, not-true, not-false}
use lib.Dec.{T, ltb, leb, eqb}
use lib.IntN.{ℤ, pos, negsuc}
use lib.ListN.{length, get_or}
use lib.Signed.{◌<ℤ◌, lt_z_yes}
use Rattle.wire.specs.Answer.{Answer, accepted, refused, guard, and_then}
use Rattle.wire.specs.Bytes.{be_at, part}
use Rattle.wire.specs.Refusal.{not_its_layout, out_of_range, output_short, no_such_channel, malformed}
use Rattle.frame.specs.Framing.{read, header_width, body_limit}
use Rattle.frame.specs.declared.Frame.{Frame}
use Rattle.frame.proofs.Framing as frame_laws
use Rattle.layout.specs.Layout.{Listed, listed, unlisted, named, Behind, nothing, groups, entries, Entries, entry_group, behind}
use Rattle.layout.specs.Group.{groups_start, count_at, shown, group_offset, next_offset, fit, group_ranges, judge_groups}
use Rattle.layout.proofs.Walk.{and_both, ahead, offset_beyond}
use Rattle.record.specs.Asked.{WithTexts, once_accepted, Asked, found, no_such_entry, below, judge_listed, judge}
use Rattle.record.specs.Record as record_of
use Rattle.record.specs.Record.{read_listed, read_body, read_frame, group_in, group_as, group_listed, group_of}
use Rattle.entries.specs.Entry.{entry_in, entry_listed, entry_of, quantity_in, quantity_listed, quantity_of, quantity_at, of_found, At, Stepped, step_in, step}
use Rattle.record.specs.Paper.{means_record}
use Rattle.entries.specs.Paper.{means_cursor}
use Rattle.writer.specs.Write.{write_judged as writes, output_written, write, write_leaves}
use Rattle.gaps.specs.Limits.{run_limit, most_number}
use Rattle.gaps.specs.Channel as channel-of
use Rattle.gaps.specs.Channel.{Event, tick, heartbeat, ArrivalSaid, before_start, natural, taken, too_low, too_early}
use Rattle.gaps.proofs.Alone as alone
use Rattle.tracker.specs.declared.Tracker.{Tracker}
use Rattle.seats.specs.Places.{channel_limit}
use Rattle.seats.specs.Rules.{ascends, is_first, first_numbers, channels_listed}
use Rattle.tracker.specs.Rules.{well_formed}
use Rattle.tracker.specs.SetUp.{blank_of, Ready, set_up_gives, set_up}
use Rattle.tracker.specs.Arrived.{on, place as place_of, Outcome, settled, arrive}
use Rattle.gaps.specs.declared.Run.{Run}
use Rattle.tracker.specs.FirstRun.{Lost, lost, nothing_missing, foremost, first_run}
use Rattle.tracker.specs.Request as request
use Rattle.tracker.specs.Request.{request_length, room_for_request, answer_of}
use Rattle.tracker.proofs.Fitting.{request-length}
use Rattle.tracker.proofs.Put.{kept_row, put_same}
use Rattle.tracker.proofs.Seated.{well_row}
use Rattle.demands.specs.Play.{channel_of}
use Rattle.streams.specs.Stream.{Told}
use Rattle.demands.proofs.Streams.{push-judged, end-judged}
use Rattle.demands.proofs.Calls.{frame_read_as, stream_push_as, stream_end_as, read_frame_as, read_as_lem, judge_as, group_of_as, entry_of_as, quantity_of_as, step_as, write_as, set_up_as, arrives_as, request_as}
use Rattle.demands.specs.Rules.{◌if◌, Judged, success, here, later, OrNone, Kept}
use Rattle.demands.specs.Conditions.{L, behind_of, fields_end, groups_in, entries_in, quantities_in, left_in, groups_counted, entry_count, shown_count, entries_left, EntryLacks, EntryStrays, Falls, NoFirst, Early, Keeps, NotIn, Low}
use Rattle.demands.specs.Demand1.{push_rules, end_rules, frame_rules, body_rules, reader_rules, step_rules, writer_rules, set_up_rules, arrival_rules, request_rules}
use Rattle.demands.specs.Receiver.{Demand1}
use Rattle.demands.proofs.Checked.{checked}
use Rattle.demands.proofs.Rules.{above, answered, tested, Alike, both-accepted, both-refused, alike, in_turn, by_reading, by_body, by_judging}
use Rattle.demands.proofs.Keeps.{keeps_yes, keeps_sound}
use Rattle.demands.proofs.Without.{no_body, no_groups, bytes-none, body-none, asked-none, as_defined}
use Rattle.demands.proofs.Out.{only_out, only_in}
use Rattle.demands.proofs.Played.{place-number, place_found}

-- ---- the reader

pub by_frame : (s : List ℕ) → Judged (frame_rules s) (read header_width body_limit s)
by_frame s = by_reading s _ (frame_laws.view header_width body_limit s)

-- what follows a body that was judged
once_alike : {A : Type 0} (v : Answer Unit) (a : A) (t : List ℕ) → Alike v (once_accepted v a t).answer
once_alike (accepted u) a t = both-accepted
once_alike (refused n vs) a t = both-refused

then_alike : {A : Type 0} (v : Answer Unit) (a : A) → Alike v (and_then v (λ (u : Unit). accepted a))
unfolding and_then
then_alike (accepted u) a = both-accepted
then_alike (refused n vs) a = both-refused

read_alike : (l : Listed) (type : ℕ) (b : List ℕ) → Alike (judge_listed l b) (read_listed l type b).answer
unfolding record_of.read_as
read_alike (listed m) type b = once_alike (judge_listed (listed m) b) _ _
read_alike unlisted type b = both-accepted

pub by_type : (type : ℕ) (b : List ℕ) → Judged (body_rules type b) (read_body type b).answer
unfolding read_body
by_type type b = alike (read_alike (named type) type b) (by_body (named type) b)

refused-on : (s : List ℕ) (n : ℕ) (vs : List ℕ) → read header_width body_limit s ≡ refused n vs → (read_frame s).answer ≡ refused n vs
unfolding read_frame
refused-on s n vs e = rw e

accepted-on :
    (s : List ℕ) (f : Frame) → read header_width body_limit s ≡ accepted f →
    Judged (body_rules (be_at s 0 4) (part 8 (8 + L s) s)) (read_frame s).answer
unfolding read_frame
accepted-on s f e =
    let a = frame_laws.known_of header_width body_limit s f e in
    rw (e, a.kind, a.len) (by_type (be_at s 0 4) (part 8 (8 + L s) s))

by_bytes : (s : List ℕ) → Judged (reader_rules s) (read_frame s).answer
by_bytes s = in_turn (read_frame s).answer (by_frame s) (refused-on s) (accepted-on s)

-- ---- by position

-- a position that is not below the count
below_by : {A : Type 0} (i n : ℕ) (a : A) (b : Bool) → ltb i n ≡ b → (cond b (found a) no_such_entry ≡ no_such_entry) ↔ (n ≤ i)
below_by i n a true e = (λ q. let z : ◌≡◌ {A = ℕ} 0 1 = cc in absurd (omega arith), λ h. absurd (above h (ltb-true i n e)))
below_by i n a false e = (λ q. ltb-false i n e, λ h. refl)

below_none : {A : Type 0} (i n : ℕ) (a : A) → (below i n a ≡ no_such_entry) ↔ (n ≤ i)
below_none i n a = below_by i n a (ltb i n) refl

none-there : {A : Type 0} (i : ℕ) → (◌≡◌ {A = Asked A} no_such_entry no_such_entry) ↔ (0 ≤ i)
none-there i = (λ e. omega arith, λ h. refl)

once_value : {A : Type 0} (v : Answer Unit) (a x : A) (t : List ℕ) → (once_accepted v a t).answer ≡ accepted x → a ≡ x
once_value (accepted u) a x t e = cc
once_value (refused n vs) a x t e = let z : ◌≡◌ {A = ℕ} 0 1 = cc in absurd (omega arith)

then_value : {A : Type 0} (v : Answer Unit) (a x : A) → and_then v (λ (u : Unit). accepted a) ≡ accepted x → a ≡ x
unfolding and_then
then_value (accepted u) a x e = cc
then_value (refused n vs) a x e = let z : ◌≡◌ {A = ℕ} 0 1 = cc in absurd (omega arith)

-- groups
group-alike : (l : Listed) (b : List ℕ) (i : ℕ) → Alike (judge_listed l b) (group_listed l b i).answer
unfolding group_as
group-alike (listed m) b i = once_alike (judge_listed (listed m) b) _ _
group-alike unlisted b i = both-accepted

group_in_lem : (h : Behind) (end : ℕ) (b : List ℕ) (i : ℕ) → (group_in h end b i ≡ no_such_entry) ↔ (groups_in h end b ≤ i)
group_in_lem nothing end b i = none-there i
group_in_lem (groups g) end b i = below_none i (count_at (groups g) end b) _
group_in_lem (entries e) end b i = none-there i

group-none :
    (l : Listed) (b : List ℕ) (i : ℕ) (x : Asked (List ℤ)) → (group_listed l b i).answer ≡ accepted x → (x ≡ no_such_entry) ↔ (groups_in (behind_of l) (fields_end l) b ≤ i)
unfolding group_as
group-none (listed m) b i x e =
    let a = once_value (judge_listed (listed m) b) (group_in (behind m) (groups_start m) b i) x _ e in
    rw a at (group_in_lem (behind m) (groups_start m) b i)
group-none unlisted b i x e = (λ f. omega arith, λ h. cc)

pub group-asked : (type : ℕ) (b : List ℕ) (i : ℕ) → OrNone (body_rules type b) no_such_entry (groups_counted type b ≤ i) (group_of type b i).answer
unfolding group_of
group-asked type b i =
    record {
      judged = alike (group-alike (named type) b i) (by_body (named type) b);
      none_when = λ x f. group-none (named type) b i x f;
    }

-- entries
entry_in_lem : (h : Behind) (end : ℕ) (b : List ℕ) (i : ℕ) → (entry_in h end b i ≡ no_such_entry) ↔ (entries_in h end b ≤ i)
entry_in_lem nothing end b i = none-there i
entry_in_lem (groups g) end b i = none-there i
entry_in_lem (entries e) end b i = below_none i (count_at (entries e) end b) _

entry_of_call : (l : Listed) (b : List ℕ) (i : ℕ) → (entry_listed l b i ≡ no_such_entry) ↔ (entries_in (behind_of l) (fields_end l) b ≤ i)
entry_of_call (listed m) b i = entry_in_lem (behind m) (groups_start m) b i
entry_of_call unlisted b i = none-there i

pub entry-asked : (type : ℕ) (b : List ℕ) (i : ℕ) → OrNone (body_rules type b) no_such_entry (entry_count type b ≤ i) (entry_of type b i)
unfolding entry_of
entry-asked type b i =
    record {
      judged = alike (then_alike (judge type b) (entry_listed (named type) b i)) (by_body (named type) b);
      none_when = λ x f. rw (then_value (judge type b) (entry_listed (named type) b i) x f) at (entry_of_call (named type) b i);
    }

-- shown quantities
quantity_by :
    {A : Type 0} (x : Asked A) (h : Type 0) (y : Asked ℤ) (k : Type 0) → (x ≡ no_such_entry) ↔ h → (y ≡ no_such_entry) ↔ k → (of_found x y ≡ no_such_entry) ↔ (h ⊎ k)
quantity_by (found a) h y k p q =
    (λ e. inr (q.0 e), ⊎_elim (λ c. let f = p.1 c in let z : ◌≡◌ {A = ℕ} 0 1 = cc in absurd (omega arith)) (λ c. q.1 c))
quantity_by no_such_entry h y k p q = (λ e. inl (p.0 refl), λ c. refl)

quantity_in_lem :
    (h : Behind) (end : ℕ) (b : List ℕ) (i j : ℕ) → (quantity_in h end b i j ≡ no_such_entry) ↔ ((entries_in h end b ≤ i) ⊎ (quantities_in h end b i ≤ j))
quantity_in_lem nothing end b i j = (λ e. inl (omega arith), λ c. refl)
quantity_in_lem (groups g) end b i j = (λ e. inl (omega arith), λ c. refl)
quantity_in_lem (entries e) end b i j =
    quantity_by (entry_in (entries e) end b i) _ (quantity_at (entry_group e) b (group_offset (entry_group e) b end i) j) _ (entry_in_lem (entries e) end b i)
    (below_none j (shown (entry_group e) b (group_offset (entry_group e) b end i)) _)

quantity_of_call :
    (l : Listed) (b : List ℕ) (i j : ℕ) → (quantity_listed l b i j ≡ no_such_entry) ↔ ((entries_in (behind_of l) (fields_end l) b ≤ i) ⊎ (quantities_in (behind_of l) (fields_end l) b i ≤ j))
quantity_of_call (listed m) b i j = quantity_in_lem (behind m) (groups_start m) b i j
quantity_of_call unlisted b i j = quantity_in_lem nothing 0 b i j

pub quantity-asked :
    (type : ℕ) (b : List ℕ) (i j : ℕ) →
    OrNone (body_rules type b) no_such_entry ((entry_count type b ≤ i) ⊎ (shown_count type b i ≤ j)) (quantity_of type b i j)
unfolding quantity_of
quantity-asked type b i j =
    record {
      judged = alike (then_alike (judge type b) (quantity_listed (named type) b i j)) (by_body (named type) b);
      none_when = λ x f. rw (then_value (judge type b) (quantity_listed (named type) b i j) x f) at (quantity_of_call (named type) b i j);
    }

-- a step
module _ (e : Entries) (b : List ℕ) (c : At) (some : 0 < c.left) where
  short : fit (entry_group e) b c.offset 1 ≡ false → length b < next_offset (entry_group e) b c.offset
  unfolding group_offset
  short f = offset_beyond (entry_group e) b c.offset 1 f

  by_entry :
      Judged (not_its_layout if EntryLacks (entries e) b c ∷ out_of_range if EntryStrays (entries e) b c ∷ []) (judge_groups (entry_group e) b c.offset 1)
  unfolding judge_groups
  by_entry =
      tested (not (fit (entry_group e) b c.offset 1)) (λ f. (some, short (not-true _ f)))
      (λ f k. above (ahead (entry_group e) b c.offset 1 (omega arith) (not-false _ f)).whole k.1)
      (λ f.
      tested (not (group_ranges (entry_group e) b c.offset 1)) (λ g. (some, only_out (entry_group e) b c.offset (not-true _ g)))
      (λ g k. only_in (entry_group e) b c.offset (not-false _ g) k.1) (λ g. success))

step-judged :
    (h : Behind) (b : List ℕ) (c : At) → Judged (not_its_layout if EntryLacks h b c ∷ out_of_range if EntryStrays h b c ∷ []) (step_in h b c)
unfolding guard
step-judged nothing b c = later (λ z. z) (later (λ z. z) success)
step-judged (groups g) b c = later (λ z. z) (later (λ z. z) success)
step-judged (entries e) b c = go (eqb c.left 0) refl
  where
    go : (t : Bool) → eqb c.left 0 ≡ t →
        Judged (not_its_layout if EntryLacks (entries e) b c ∷ out_of_range if EntryStrays (entries e) b c ∷ []) (step_in (entries e) b c)
    go true f =
        let l = eqb-true c.left 0 f in
        rw f (later (λ (k : EntryLacks (entries e) b c). omega (arith, l, k.0)) (later (λ (k : EntryStrays (entries e) b c). omega (arith, l, k.0)) success))
    go false f = rw f (alike (then_alike (judge_groups (entry_group e) b c.offset 1) _) (by_entry e b c (omega (arith, eqb-false c.left 0 f))))

step-none : (h : Behind) (b : List ℕ) (c : At) (x : Asked Stepped) → step_in h b c ≡ accepted x → (x ≡ no_such_entry) ↔ (left_in h c ≡ 0)
unfolding guard
step-none nothing b c x e = (λ f. refl, λ f. cc)
step-none (groups g) b c x e = (λ f. refl, λ f. cc)
step-none (entries e) b c x f = go (eqb c.left 0) refl
  where
    go : (t : Bool) → eqb c.left 0 ≡ t → (x ≡ no_such_entry) ↔ (c.left ≡ 0)
    go true g = let a : accepted no_such_entry ≡ accepted x = rw g at f in (λ k. eqb-true c.left 0 g, λ k. cc)
    go false g =
        let a = then_value (judge_groups (entry_group e) b c.offset 1) _ x (rw g at f) in
        (λ k. let z : ◌≡◌ {A = ℕ} 0 1 = cc in absurd (omega arith), λ k. absurd (eqb-false c.left 0 g k))

step_of : (l : Listed) (b : List ℕ) (c : At) → step l b c ≡ step_in (behind_of l) b c
unfolding step
step_of (listed m) b c = refl
step_of unlisted b c = refl

pub stepped : (type : ℕ) (b : List ℕ) (c : At) → OrNone (step_rules type b c) no_such_entry (entries_left type c ≡ 0) (step (named type) b c)
stepped type b c =
    record {
      judged = answered (step_of (named type) b c) (step-judged (behind_of (named type)) b c);
      none_when = λ x f. step-none (behind_of (named type)) b c x (sym (step_of (named type) b c) ∙ f);
    }

-- ---- the writer

written_same :
    (x : record_of.Reading) (ts gs out : List ℕ) (a : Answer ℕ) (n : ℕ) (vs : List ℕ) → a ≡ refused n vs → output_written a x ts gs out ≡ out
written_same x ts gs out a n vs e = rw e

pub written : (x : record_of.Reading) (ts gs out : List ℕ) → Kept (writer_rules x ts gs (length out)) (write x ts gs out) out (write_leaves x ts gs out)
unfolding write write_leaves
written x ts gs out =
    record {
      judged = by_judging x ts gs (length out);
      same = λ n vs f. written_same x ts gs out (writes x ts gs (length out)) n vs f;
    }

-- ---- the tracker

-- numbers of which the first is above p, and each above the one before it
falls-behind : (p : ℕ) (l : List ℕ) → ascends (p + 1) l ≡ false → Falls (p ∷ l)
unfolding ascends
falls-behind p [] e = absurd (true≢false e)
falls-behind p (n ∷ l) e = go (leb (p + 1) n) refl (λ f. falls-behind n l f)
  where
    go : (b : Bool) → leb (p + 1) n ≡ b → (ascends (n + 1) l ≡ false → Falls (n ∷ l)) → Falls (p ∷ n ∷ l)
    go true h on =
        let f = on (rw h at e) in
        record { place = suc f.place; inside = omega (arith, f.inside); falls = f.falls }
    go false h on = record { place = 0; inside = omega arith; falls = omega (arith, leb-false (p + 1) n h) }

rises_behind : (p : ℕ) (l : List ℕ) → ascends (p + 1) l ≡ true → (i : ℕ) → suc i < suc (length l) → get_or (p ∷ l) (suc i) 0 ≤ get_or (p ∷ l) i 0 → ⊥
unfolding ascends
rises_behind p [] e i h k = omega arith
rises_behind p (n ∷ l) e zero h k = omega (arith, leb-true (p + 1) n (and_both (leb (p + 1) n) _ e).0)
rises_behind p (n ∷ l) e (suc i) h k = rises_behind n l (and_both (leb (p + 1) n) _ e).1 i (omega arith) k

falls_by : (l : List ℕ) → ascends 0 l ≡ false → Falls l
unfolding ascends
falls_by [] e = absurd (true≢false e)
falls_by (n ∷ l) e = falls-behind n l (rw (le-leb 0 n zero-le) at e)

rises_by : (l : List ℕ) → ascends 0 l ≡ true → Falls l → ⊥
unfolding ascends
rises_by [] e f = omega (arith, f.inside)
rises_by (n ∷ l) e f = rises_behind n l (and_both (leb 0 n) _ e).1 f.place f.inside f.falls

-- a first number out of its range
no_first : (z : ℤ) → is_first (natural z) ≡ false → (z <ℤ pos 1) ⊎ (pos most_number <ℤ z)
no_first (negsuc n) e = inl (lt_z_yes tt)
no_first (pos n) e = go (leb 1 n) refl
  where
    go : (b : Bool) → leb 1 n ≡ b → (pos n <ℤ pos 1) ⊎ (pos most_number <ℤ pos n)
    go true f = let g : leb n most_number ≡ false = rw f at e in inr (lt_z_yes (subst T (sym (lt-ltb most_number n (leb-false n most_number g))) tt))
    go false f = inl (lt_z_yes (subst T (sym (lt-ltb n 1 (leb-false 1 n f))) tt))

a_first : (z : ℤ) → is_first (natural z) ≡ true → (z <ℤ pos 1) ⊎ (pos most_number <ℤ z) → ⊥
a_first (negsuc n) e k = false≢true e
a_first (pos n) e k =
    let a = and_both (leb 1 n) _ e in
    ⊎_elim
    (λ l. subst T (le-ltb n 1 (leb-true 1 n a.0)) l.lt)
    (λ l. subst T (le-ltb most_number n (leb-true n most_number a.1)) l.lt)
    k

firsts_by : (l : List ℤ) → first_numbers l ≡ false → NoFirst l
unfolding first_numbers
firsts_by [] e = absurd (true≢false e)
firsts_by (z ∷ l) e = go (is_first (natural z)) refl (λ d. firsts_by l d)
  where
    go : (b : Bool) → is_first (natural z) ≡ b → (first_numbers l ≡ false → NoFirst l) → NoFirst (z ∷ l)
    go true f ih = let r = ih (rw f at e) in record { place = suc r.place; inside = omega (arith, r.inside); out = r.out }
    go false f ih = record { place = 0; inside = omega arith; out = no_first z f }

first_in : (l : List ℤ) → first_numbers l ≡ true → (i : ℕ) → i < length l → (get_or l i (pos 0) <ℤ pos 1) ⊎ (pos most_number <ℤ get_or l i (pos 0)) → ⊥
unfolding first_numbers
first_in [] e i h k = omega arith
first_in (z ∷ l) e zero h k = a_first z (and_both (is_first (natural z)) _ e).0 k
first_in (z ∷ l) e (suc i) h k = first_in l (and_both (is_first (natural z)) _ e).1 i (omega arith) k

firsts_all : (l : List ℤ) → first_numbers l ≡ true → NoFirst l → ⊥
firsts_all l e k = first_in l e k.place k.inside k.out

given-alike : (a : Answer Tracker) → Alike a (set_up_gives a).said
given-alike (accepted t) = both-accepted
given-alike (refused n v) = both-refused

given-same : (a : Answer Tracker) (n : ℕ) (vs : List ℕ) → (set_up_gives a).said ≡ refused n vs → (set_up_gives a).tracker ≡ blank_of [] []
given-same (accepted t) n vs e = let z : ◌≡◌ {A = ℕ} 0 1 = cc in absurd (omega arith)
given-same (refused m v) n vs e = refl

-- two tests in one are one behind the other
guard-both : {A : Type 0} (a b : Bool) (r x : Answer A) → guard (not (a && b)) r x ≡ guard (not a) r (guard (not b) r x)
unfolding guard
guard-both true b r x = refl
guard-both false b r x = refl

-- the set-up's test
abbrev tests : List ℕ → List ℤ → Answer Tracker
tests numbers from = guard (not (channels_listed numbers from)) (refused malformed []) (accepted (blank_of numbers from))

tests_judged : (numbers : List ℕ) (from : List ℤ) → Judged (set_up_rules numbers from) (tests numbers from)
unfolding channels_listed
tests_judged numbers from =
    let n = length numbers in
    answered (guard-both (not (eqb n 0)) _ _ _)
    (tested (not (not (eqb n 0))) (λ e. eqb-true n 0 (not-false _ (not-true _ e))) (λ e. eqb-false n 0 (not-true _ (not-false _ e)))
    (λ e.
    answered (guard-both (not (ltb channel_limit n)) _ _ _)
    (tested (not (not (ltb channel_limit n))) (λ f. ltb-true channel_limit n (not-false _ (not-true _ f)))
    (λ f. above (ltb-false channel_limit n (not-true _ (not-false _ f))))
    (λ f.
    answered (guard-both (eqb n (length from)) _ _ _)
    (tested (not (eqb n (length from))) (λ g. eqb-false n (length from) (not-true _ g)) (λ g d. d (eqb-true n (length from) (not-false _ g)))
    (λ g.
    answered (guard-both (ascends 0 numbers) _ _ _)
    (tested (not (ascends 0 numbers)) (λ h. falls_by numbers (not-true _ h)) (λ h. rises_by numbers (not-false _ h))
    (λ h. tested (not (first_numbers from)) (λ i. firsts_by from (not-true _ i)) (λ i. firsts_all from (not-false _ i)) (λ i. success)))))))))

pub started : (numbers : List ℕ) (from : List ℤ) → Kept (set_up_rules numbers from) (set_up numbers from).said (blank_of [] []) (set_up numbers from).tracker
unfolding set_up
started numbers from =
    record {
      judged = alike (given-alike (tests numbers from)) (tests_judged numbers from);
      same = λ n vs f. given-same (tests numbers from) n vs f;
    }

breaks : (t : Tracker) → well_formed t ≡ false → Keeps t → ⊥
breaks t e k = true≢false (sym (keeps_sound t k) ∙ e)

-- the place of a channel is below the count exactly where its number is one of the tracker's
not_in : (t : Tracker) (k : ℕ) → ltb (place_of t k) t.count ≡ false → NotIn t k
unfolding place_of
not_in t k e i h f = above (ltb-false (place_of t k) t.count e) (omega (arith, place_found t.numbers k 0 t.count i (omega arith) (omega arith) f))

is_in : (t : Tracker) (k : ℕ) → ltb (place_of t k) t.count ≡ true → NotIn t k → ⊥
unfolding place_of
is_in t k e absent =
    let h = ltb-true (place_of t k) t.count e in
    absent (place_of t k) h (place-number t.numbers k 0 t.count (omega arith))

low_yes : (e : Event) → too_low e ≡ true → Low e
low_yes (tick z) h = lt_z_yes (subst T (sym h) tt)
low_yes (heartbeat z end) h = lt_z_yes (subst T (sym h) tt)

low_no : (e : Event) → too_low e ≡ false → Low e → ⊥
low_no (tick z) h k = subst T h k.lt
low_no (heartbeat z end) h k = subst T h k.lt

-- below the first number, where 8 does not refuse it
early_yes : (t : Tracker) (k : ℕ) (e : Event) → too_early (channel_of t k) e ≡ true → too_low e ≡ false → Early t k e
early_yes t k (tick (pos n)) h l = lt_z_yes (subst T (sym h) tt)
early_yes t k (tick (negsuc n)) h l = absurd (true≢false l)
early_yes t k (heartbeat z end) h l = absurd (false≢true h)

early_no : (t : Tracker) (k : ℕ) (e : Event) → too_early (channel_of t k) e ≡ false → too_low e ≡ false → Early t k e → ⊥
early_no t k (tick (pos n)) h l x = subst T h x.lt
early_no t k (tick (negsuc n)) h l x = absurd (true≢false l)
early_no t k (heartbeat z end) h l x = x

settled-alike : (t : Tracker) (i : ℕ) (a : Answer channel-of.Step) → Alike a (settled t i a).said
settled-alike t i (accepted s) = both-accepted
settled-alike t i (refused n v) = both-refused

settled_same : (t : Tracker) (i : ℕ) (a : Answer channel-of.Step) (n : ℕ) (vs : List ℕ) → (settled t i a).said ≡ refused n vs → (settled t i a).next ≡ t
settled_same t i (accepted s) n vs e = let z : ◌≡◌ {A = ℕ} 0 1 = cc in absurd (omega arith)
settled_same t i (refused m v) n vs e = refl

-- an arrival's tests
abbrev steps : Tracker → ℕ → Event → Answer channel-of.Step
steps t k e =
    guard (not (well_formed t)) (refused malformed [])
    (guard (not (ltb (place_of t k) t.count)) (refused no_such_channel []) (channel-of.judge_event (channel_of t k) e))

-- a test that leads to an acceptance, before a last refusal
passed : {A : Type 0} {P : Type 0} {n : ℕ} (x y : A) (a b : Bool) → (a ≡ true → P → ⊥) → (a ≡ false → b ≡ true → P) → (a ≡ false → b ≡ false → P → ⊥) →
    Judged (n if P ∷ []) (guard a (accepted x) (guard b (refused n []) (accepted y)))
unfolding guard
passed x y true b p q r = later (p refl) success
passed x y false true p q r = here (q refl refl)
passed x y false false p q r = later (r refl refl) success

steps-judged : (t : Tracker) (k : ℕ) (e : Event) → Judged (arrival_rules t k e) (steps t k e)
unfolding channel-of.judge_event
steps-judged t k e =
    let runs = (taken (channel_of t k) e).next.runs in
    tested (not (well_formed t)) (λ a. breaks t (not-true _ a)) (λ a x. x (keeps_yes t (not-false _ a)))
    (λ a.
    tested (not (ltb (place_of t k) t.count)) (λ b. not_in t k (not-true _ b)) (λ b. is_in t k (not-false _ b))
    (λ b.
    tested (too_low e) (low_yes e) (low_no e)
    (λ c.
    passed (record { said = before_start; next = channel_of t k }) (taken (channel_of t k) e) (too_early (channel_of t k) e) (ltb run_limit (length runs))
    (λ d x. x.0 (early_yes t k e d c))
    (λ d f. (early_no t k e d c, ltb-true run_limit (length runs) f))
    (λ d f x. above (ltb-false run_limit (length runs) f) x.1))))

pub arrives : (t : Tracker) (k : ℕ) (e : Event) → Kept (arrival_rules t k e) (arrive t (on k e)).said t (arrive t (on k e)).next
unfolding arrive
arrives t k e =
    record {
      judged = alike (settled-alike t (place_of t k) (steps t k e)) (steps-judged t k e);
      same = λ n vs f. settled_same t (place_of t k) (steps t k e) n vs f;
    }

-- what is accepted is before start exactly where the tick is below the first number
before_by : (t : Tracker) (k : ℕ) (e : Event) (x : ArrivalSaid) → (settled t (place_of t k) (steps t k e)).said ≡ accepted x → (x ≡ before_start) ↔ Early t k e
unfolding guard
before_by t k e x = go (not (well_formed t)) (not (ltb (place_of t k) t.count)) (channel-of.judge_event (channel_of t k) e) (alone.judge (channel_of t k) e)
  where
    none : {n : ℕ} {v : List ℕ} → ◌≡◌ {A = Answer ArrivalSaid} (refused n v) (accepted x) → ⊥
    none q = let z : ◌≡◌ {A = ℕ} 0 1 = cc in omega arith

    go : (a b : Bool) (s : Answer channel-of.Step) → alone.Judged (channel_of t k) e s →
        (settled t (place_of t k) (guard a (refused malformed []) (guard b (refused no_such_channel []) s))).said ≡ accepted x → (x ≡ before_start) ↔ Early t k e
    go true b s j q = absurd (none q)
    go false true s j q = absurd (none q)
    go false false s (alone.low p) q = absurd (none q)
    go false false s (alone.early p d) q = (λ y. early_yes t k e d p, λ y. cc)
    go false false s (alone.full p d r) q = absurd (none q)
    go false false s (alone.took p d r) q = (λ y. absurd (alone.taken-apart (channel_of t k) e (cc)), λ y. absurd (early_no t k e d p y))

-- and leaves the tracker as it stood
stands_by : (t : Tracker) (k : ℕ) (e : Event) → (settled t (place_of t k) (steps t k e)).said ≡ accepted before_start → (settled t (place_of t k) (steps t k e)).next ≡ t
unfolding guard
stands_by t k e = go (well_formed t) refl (ltb (place_of t k) t.count) refl (channel-of.judge_event (channel_of t k) e) (alone.judge (channel_of t k) e)
  where
    none : {n : ℕ} {v : List ℕ} → ◌≡◌ {A = Answer ArrivalSaid} (refused n v) (accepted before_start) → ⊥
    none q = let z : ◌≡◌ {A = ℕ} 0 1 = cc in omega arith

    go : (a : Bool) → well_formed t ≡ a → (b : Bool) → ltb (place_of t k) t.count ≡ b → (s : Answer channel-of.Step) → alone.Judged (channel_of t k) e s →
        (settled t (place_of t k) (guard (not a) (refused malformed []) (guard (not b) (refused no_such_channel []) s))).said ≡ accepted before_start →
        (settled t (place_of t k) (guard (not a) (refused malformed []) (guard (not b) (refused no_such_channel []) s))).next ≡ t
    go false f b g s j q = absurd (none q)
    go true f false g s j q = absurd (none q)
    go true f true g s (alone.low p) q = absurd (none q)
    go true f true g s (alone.early p d) q = put_same t (place_of t k) (kept_row (well_row t f (place_of t k) (ltb-true (place_of t k) t.count g)))
    go true f true g s (alone.full p d r) q = absurd (none q)
    go true f true g s (alone.took p d r) q = absurd (alone.taken-apart (channel_of t k) e (cc))

pub before : (t : Tracker) (k : ℕ) (e : Event) → OrNone (arrival_rules t k e) before_start (Early t k e) (arrive t (on k e)).said
unfolding arrive
before t k e = record { judged = alike (settled-alike t (place_of t k) (steps t k e)) (steps-judged t k e); none_when = before_by t k e }

pub before_leaves : (t : Tracker) (k : ℕ) (e : Event) → (arrive t (on k e)).said ≡ accepted before_start → (arrive t (on k e)).next ≡ t
unfolding arrive
before_leaves t k e q = stands_by t k e q

-- ---- the request

then_guard :
    {A B : Type 0} (b : Bool) (n : ℕ) (rest : Answer A) (f : A → Answer B) →
    and_then (guard b (refused n []) rest) f ≡ guard b (refused n []) (and_then rest f)
unfolding guard and_then
then_guard true n rest f = refl
then_guard false n rest f = refl

guard_value : {A : Type 0} (b : Bool) (n : ℕ) (rest : Answer A) (x : A) → guard b (refused n []) rest ≡ accepted x → rest ≡ accepted x
unfolding guard
guard_value true n rest x e = let z : ◌≡◌ {A = ℕ} 0 1 = cc in absurd (omega arith)
guard_value false n rest x e = e

-- a first run, and then 6
fitting_judged : (l : List Run) (room : ℕ) → Judged (output_short if ((l ≡ [] → ⊥) × (room < 12 + 44)) ∷ []) (room_for_request room (foremost l))
fitting_judged [] room = later (λ (k : (◌≡◌ {A = List Run} [] [] → ⊥) × (room < 12 + 44)). k.0 refl) success
fitting_judged (r ∷ l) room =
    tested (ltb room request_length)
    (λ e. (λ f. let z : ◌≡◌ {A = ℕ} 0 1 = cc in omega arith, omega (arith, request-length, ltb-true room request_length e)))
    (λ e k. above (ltb-false room request_length e) (omega (arith, request-length, k.1))) (λ e. success)

module _ (t : Tracker) (k : ℕ) where
  -- the first run of the channel, behind 10 and 7
  abbrev runs : List Run
  runs = (channel_of t k).runs

  abbrev seated : Answer Lost
  seated = guard (not (ltb (place_of t k) t.count)) (refused no_such_channel []) (accepted (foremost runs))

  asks-judged : (room : ℕ) → Judged (request_rules t k room) (request.request_judged t k room)
  unfolding request.request_judged first_run and_then
  asks-judged room =
      answered (then_guard (not (well_formed t)) malformed seated (room_for_request room))
      (tested (not (well_formed t)) (λ a. breaks t (not-true _ a)) (λ a x. x (keeps_yes t (not-false _ a)))
      (λ a.
      answered (then_guard (not (ltb (place_of t k) t.count)) no_such_channel (accepted (foremost runs)) (room_for_request room))
      (tested (not (ltb (place_of t k) t.count)) (λ b. not_in t k (not-true _ b)) (λ b. is_in t k (not-false _ b))
      (λ b. fitting_judged runs room))))

  first_value : (v : Lost) → first_run t k ≡ accepted v → foremost runs ≡ v
  unfolding first_run
  first_value v e =
      let a = guard_value (not (well_formed t)) malformed seated v e in
      let b = guard_value (not (ltb (place_of t k) t.count)) no_such_channel (accepted (foremost runs)) v a in
      cc

answer-alike : (a : Answer Lost) → Alike a (answer_of a)
answer-alike (accepted x) = both-accepted
answer-alike (refused n vs) = both-refused

module _ (x : request.RequestSaid) (room : ℕ) where
  none_by : (l : List Run) (b : Bool) → ltb room request_length ≡ b → answer_of (room_for_request room (foremost l)) ≡ accepted x → (x ≡ request.nothing) ↔ (l ≡ [])
  unfolding guard
  none_by [] b f e = (λ g. refl, λ g. cc)
  none_by (r ∷ l) true f e = let a : refused output_short [] ≡ accepted x = rw f at e in let z : ◌≡◌ {A = ℕ} 0 1 = cc in absurd (omega arith)
  none_by (r ∷ l) false f e =
      let a : accepted (request.written request_length) ≡ accepted x = rw f at e in
      (λ g. let z : ◌≡◌ {A = ℕ} 0 1 = cc in absurd (omega arith), λ g. let z : ◌≡◌ {A = ℕ} 0 1 = cc in absurd (omega arith))

  none_first :
      (t : Tracker) (k : ℕ) (y : Answer Lost) → first_run t k ≡ y → answer_of (and_then y (room_for_request room)) ≡ accepted x →
      (x ≡ request.nothing) ↔ ((channel_of t k).runs ≡ [])
  unfolding and_then
  none_first t k (accepted v) f e =
      none_by (channel_of t k).runs (ltb room request_length) refl (rw (← first_value t k v f) at e)
  none_first t k (refused n vs) f e = let z : ◌≡◌ {A = ℕ} 0 1 = cc in absurd (omega arith)

module _ (k : ℕ) (out : List ℕ) where
  unasked : (a : Answer Lost) (n : ℕ) (vs : List ℕ) → answer_of a ≡ refused n vs → request.output_asked a k out ≡ out
  unasked (accepted v) n vs e = let z : ◌≡◌ {A = ℕ} 0 1 = cc in absurd (omega arith)
  unasked (refused m us) n vs e = refl

  unwritten : (a : Answer Lost) → answer_of a ≡ accepted request.nothing → request.output_asked a k out ≡ out
  unwritten (accepted (lost r)) e = let z : ◌≡◌ {A = ℕ} 0 1 = cc in absurd (omega arith)
  unwritten (accepted nothing_missing) e = refl
  unwritten (refused n vs) e = refl

module _ (t : Tracker) (k : ℕ) (out : List ℕ) where
  asked_by : Judged (request_rules t k (length out)) (request.request t k out)
  unfolding request.request
  asked_by = alike (answer-alike (request.request_judged t k (length out))) (asks-judged t k (length out))

  pub asked : Kept (request_rules t k (length out)) (request.request t k out) out (request.request_leaves t k out)
  unfolding request.request request.request_leaves
  asked = record { judged = asked_by; same = λ n vs f. unasked k out (request.request_judged t k (length out)) n vs f }

  asked-or-none : OrNone (request_rules t k (length out)) request.nothing ((channel_of t k).runs ≡ []) (request.request t k out)
  unfolding request.request request.request_judged
  asked-or-none = record { judged = asked_by; none_when = λ x f. none_first x (length out) t k (first_run t k) refl f }

  pub nothing_written : request.request t k out ≡ accepted request.nothing → request.request_leaves t k out ≡ out
  unfolding request.request request.request_leaves
  nothing_written f = unwritten k out (request.request_judged t k (length out)) f

-- ---- the demand

-- what holds of a definition holds of every answer that meets it
every : {A : Type 0} {definition answer : A} (says : A → Type 1) → answer ≡ definition → says definition → says answer
every says e h = subst says (sym e) h

pub demand1 : Demand1
demand1 =
    record {
      checked = checked;
      frame_read = λ s r c. rw (frame_read_as c) (by_frame s);
      push = λ st buffer c left r h. every (λ (a : Told). Judged (push_rules st buffer c) a.said) (stream_push_as h).0 (push-judged st buffer c);
      end = λ st buffer r h. every (λ (a : Told). Judged (end_rules st buffer) a.said) (stream_end_as h) (end-judged st buffer);
      read_frame_call = λ s r c. every (λ (a : WithTexts record_of.Reading). Judged (reader_rules s) a.answer) (read_frame_as c) (by_bytes s);
      read = λ type b r c. every (λ (a : WithTexts record_of.Reading). Judged (body_rules type b) a.answer) (read_as_lem c) (by_type type b);
      judge = λ type b r c. rw (judge_as c) (by_body (named type) b);
      no_body = no_body;
      no_groups = no_groups;
      no_texts = λ s r c. as_defined (read_frame_as c) (bytes-none s);
      no_texts_of = λ type b r c. as_defined (read_as_lem c) (body-none type b);
      no_texts_in = λ type b i r c. as_defined (group_of_as c) (asked-none type b i);
      group_of_call = λ type b i r c. every (λ (a : WithTexts (Asked (List ℤ))). OrNone (body_rules type b) no_such_entry (groups_counted type b ≤ i) a.answer) (group_of_as c) (group-asked type b i);
      entry_of_call = λ type b i r c. rw (entry_of_as c) (entry-asked type b i);
      quantity_of_call = λ type b i j r c. rw (quantity_of_as c) (quantity-asked type b i j);
      step = λ type b c r e. rw (step_as e) (stepped type b (means_cursor c));
      write = λ x ts gs out after r c. rw ((write_as c).answers, (write_as c).leaves) (written (means_record x) ts gs out);
      set_up_call = λ numbers from r c. every (λ (a : Ready). Kept (set_up_rules numbers from) a.said (blank_of [] []) a.tracker) (set_up_as c) (started numbers from);
      zero_breaks = λ k. omega (arith, k.one);
      arrival = λ t k e r c. every (λ (a : Outcome). Kept (arrival_rules t k e) a.said t a.next) (arrives_as c) (arrives t k e);
      before_start_rule = λ t k e r c. every (λ (a : Outcome). OrNone (arrival_rules t k e) before_start (Early t k e) a.said) (arrives_as c) (before t k e);
      before_stands = λ t k e r c q.
          ap (λ (o : Outcome). o.next) (arrives_as c) ∙ before_leaves t k e (sym (ap (λ (o : Outcome). o.said) (arrives_as c)) ∙ q);
      request = λ t k out after r c. rw ((request_as c).answers, (request_as c).leaves) (asked t k out);
      none_missing = λ t k out after r c. rw (request_as c).answers (asked-or-none t k out);
      none_written = λ t k out after r c e. (request_as c).leaves ∙ nothing_written t k out (sym (request_as c).answers ∙ e);
    }
