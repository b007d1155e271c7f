-- A channel's judgement in the tracker, in each of the code's cases.
use Prim.Native.Nat.{ℕ, zero, suc, ◌+◌, ◌*◌, ◌-◌, ◌≤◌, ◌<◌, zero-le}
use native.Mathlib.Omega.{arith}
use mathlib.Core.Path.{◌≡◌, refl, ap, sym, ◌∙◌, subst}
use mathlib.Core.Logic.{inl, inr}
use mathlib.Core.List.{List, [], ◌∷◌, ◌++◌}
use mathlib.Core.Bool.{Bool, true, false, cond, ◌||◌}
use lib.Dec.{ltb, eqb}
use lib.IntN.{ℤ, pos}
use lib.Signed.{lt_z}
use lib.ListN.{length, take, drop, get_or, set, length-append, length-set}
use lib.Seq.{set_split, set-get_or, length-take-le}
use borrow.Author.Tests.{lt-ltb, le-ltb, lt-leb, le-leb, ltb-true, ltb-false, eqb-true, eqb-false}
use Rattle.wire.specs.Answer.{Answer, accepted, refused, guard}
use Rattle.gaps.specs.declared.Run.{Run}
use Rattle.gaps.specs.Gaps.{run, larger, has, cut, cut_all, grow, fill}
use Rattle.wire.specs.Refusal.{number_too_low, table_full}
use Rattle.gaps.specs.Channel.{Channel, changed, Event, tick, heartbeat, ArrivalSaid, new, late, duplicate, heard, before_start, announced, taken, too_low, too_early, judge_event, natural}
use Rattle.gaps.proofs.Numbers.{larger-is}
use Rattle.gaps.proofs.Cut.{cut_low, cut_high, cut-whole, cut_front, cut_back, cut_mid}
use Rattle.gaps.proofs.Sets.{Canon, canon_yes}
use Rattle.gaps.proofs.Exact.{ticked-new, ticked-late, ticked_again}
use Rattle.gaps.proofs.Alone.{judged_low, judged_early}
use Rattle.tracker.specs.declared.Tracker.{Tracker}
use Rattle.rows.specs.declared.Gap.{Gap}
use Rattle.tracker.specs.Places.{made, mark, channel_at, put}
use Rattle.seats.specs.declared.Malformed as seats
use Rattle.seats.specs.Arrays.{Arrays}
use Rattle.seats.specs.Seat.{seat_of}
use Rattle.tracker.specs.declared.News.TheVariants.{Late, Duplicate}
use Rattle.tracker.specs.declared.Refusal.{Refusal}
use Rattle.tracker.specs.declared.Refusal.TheVariants.{NoSuchChannel, NumberTooLow, TableFull, Malformed}
use Rattle.std.specs.Prelude.{Option, Some, None, Result, Ok, Err}
use Rattle.tracker.specs.Arrived.{Outcome, on, place, settled, arrive, answered}
use Rattle.rows.specs.declared.Held.{Held}
use Rattle.rows.specs.declared.Held.TheVariants.{AtEnd, Alone, Inside}
use Rattle.rows.specs.Held.{left_at, search}
use Rattle.tracker.specs.Inside.{SoundIn, Judges, stepped, stored_or_full, Changeable, replaced, shut, cleft, late_as}
use Rattle.tracker.proofs.Told.{Room, Finds, finds_no, finds_run}
use Rattle.tracker.proofs.Row.{span-length, span-at}
use Rattle.tracker.proofs.Hold.{held_at, search_finds}
use Rattle.gaps.proofs.Signed.{natural-one, natural_pos}
use Rattle.tracker.proofs.Seated.{well_row, arrived_10, arrived_7, arrived_at, ill_seated, well_seated, none_seated, some_seated}
use Rattle.tracker.proofs.Put.{RowOf, mended, mark-same, put-pushed, put-set, put-runs, put_same, kept_row}
use Rattle.tracker.proofs.Shift.{parts_length, put-shut, put-cleft}

-- ---- stored: 9, or the record

module _ (t : Tracker) (i : ℕ) (a : Answer ArrivalSaid) (h : ℕ) (e : Bool) (l : List Run) where
  pub stored_full : 32 < length l → stored_or_full t i a h e l ≡ record { said = refused table_full []; next = t }
  unfolding stored_or_full
  stored_full p = rw (lt-ltb 32 (length l) p)

  pub stored_fits : length l ≤ 32 → stored_or_full t i a h e l ≡ record { said = a; next = put t i (changed (channel_at t i) h e l) }
  unfolding stored_or_full
  stored_fits p = rw (le-ltb 32 (length l) p)

-- an event that 8 does not refuse, and that is not before start
settled_stored : (t : Tracker) (i : ℕ) (c : Channel) (e : Event) → too_low e ≡ false → too_early c e ≡ false →
    settled t i (judge_event c e) ≡ stored_or_full t i (accepted (taken c e).said) (taken c e).next.highest (taken c e).next.ended (taken c e).next.runs
unfolding judge_event stored_or_full guard put
settled_stored t i c e p q = rw (p, q) (go (ltb 32 (length (taken c e).next.runs)))
  where
    go : (b : Bool) → settled t i (guard b (refused table_full []) (accepted (taken c e))) ≡
        cond b (record { said = refused table_full []; next = t }) (record { said = accepted (taken c e).said; next = put t i (taken c e).next })
    go true = refl
    go false = refl

pub settled_low : (t : Tracker) (i : ℕ) (c : Channel) (e : Event) → too_low e ≡ true → settled t i (judge_event c e) ≡ record { said = refused number_too_low []; next = t }
settled_low t i c e p = ap (settled t i) (judged_low c e p)

-- ---- a run's place in the row, where it is grown

-- nothing to add, so the runs stay
fill_none : (l : List Run) (h m : ℕ) → m ≤ h → fill l h m ≡ l
unfolding fill
fill_none l h m p = rw (le-leb m h p)

fill-some : (l : List Run) (h m : ℕ) → h < m → fill l h m ≡ grow l h m
unfolding fill
fill-some l h m p = rw (lt-leb m h p)

module _ (t : Tracker) (i : ℕ) (w : RowOf t i) where
  -- the numbers behind the highest go to one place of the row
  pub raised : (a : Answer ArrivalSaid) (top : ℕ) (e : Bool) (m : ℕ) (g : Gap) → Room t.first t.last (i * 32) (get_or t.counts i 0) (get_or t.highest i 0) g →
      stored_or_full t i a top e (grow (channel_at t i).runs (channel_at t i).highest m) ≡ record { said = a; next = mended t i top e (g.at + 1) (i * 32 + g.at) (run g.first m) }
  raised a top e m g r =
      let l = take g.at (channel_at t i).runs ++ (run g.first m ∷ []) in
      let n : length l ≤ 32 = rw (length-append (take g.at (channel_at t i).runs) (run g.first m ∷ []), length-take-le g.at (channel_at t i).runs (rw (span-length t.first t.last (i * 32) (get_or t.counts i 0)) r.low)) (omega (arith, r.within)) in
      rw (r.grown m, stored_fits t i a top e l n, put-pushed t i w top e g.at (run g.first m) r.low r.high r.within)

  runs_fit : length (channel_at t i).runs ≤ 32
  runs_fit = rw (span-length t.first t.last (i * 32) (get_or t.counts i 0)) w.room

  -- below the first number nothing changes
  pub tick_early : (n : ℕ) → 1 ≤ n → n < get_or t.from i 0 → stepped i (tick (pos n)) t ≡ record { said = accepted before_start; next = t }
  tick_early n p s =
      ap (settled t i) (judged_early (channel_at t i) (tick (pos n)) (le-ltb n 1 p) (lt-ltb n (get_or t.from i 0) s)) ∙ rw (put_same t i w)

  module _ (n : ℕ) (p : 1 ≤ n) (s : get_or t.from i 0 ≤ n) where
    by_step : settled t i (judge_event (channel_at t i) (tick (pos n))) ≡
        stored_or_full t i (accepted (taken (channel_at t i) (tick (pos n))).said) (taken (channel_at t i) (tick (pos n))).next.highest (taken (channel_at t i) (tick (pos n))).next.ended (taken (channel_at t i) (tick (pos n))).next.runs
    by_step = settled_stored t i (channel_at t i) (tick (pos n)) (le-ltb n 1 p) (le-ltb n (get_or t.from i 0) s)

    ahead : get_or t.highest i 0 < n → stepped i (tick (pos n)) t ≡
        stored_or_full t i (accepted new) n (channel_at t i).ended (fill (channel_at t i).runs (channel_at t i).highest (n - 1))
    ahead h = by_step ∙ rw (ticked-new (channel_at t i) n h)

    -- the next number: the highest alone changes
    pub tick-next : get_or t.highest i 0 ≡ n - 1 → stepped i (tick (pos n)) t ≡
        record {
          said = accepted new;
          next = record {
            count = t.count;
            numbers = t.numbers;
            from = t.from;
            highest = set t.highest i n;
            ended = t.ended;
            counts = t.counts;
            first = t.first;
            last = t.last;
          };
        }
    tick-next h =
        ahead (omega arith)
        ∙ rw (fill_none (channel_at t i).runs (channel_at t i).highest (n - 1) (omega arith), stored_fits t i (accepted new) n (channel_at t i).ended (channel_at t i).runs runs_fit, put-runs t i w n (channel_at t i).ended, mark-same t.ended i w.mark)

    pub tick-ahead : get_or t.highest i 0 < n - 1 → stepped i (tick (pos n)) t ≡
        stored_or_full t i (accepted new) n (channel_at t i).ended (grow (channel_at t i).runs (channel_at t i).highest (n - 1))
    tick-ahead h = ahead (omega arith) ∙ rw (fill-some (channel_at t i).runs (channel_at t i).highest (n - 1) h)

    pub tick-late : n ≤ get_or t.highest i 0 → has (channel_at t i).runs n ≡ true → stepped i (tick (pos n)) t ≡
        stored_or_full t i (accepted late) (channel_at t i).highest (channel_at t i).ended (cut_all (channel_at t i).runs n)
    tick-late h q = by_step ∙ rw (ticked-late (channel_at t i) n h q)

    pub tick_again : n ≤ get_or t.highest i 0 → has (channel_at t i).runs n ≡ false → stepped i (tick (pos n)) t ≡ record { said = accepted duplicate; next = t }
    tick_again h q =
        by_step
        ∙ rw (ticked_again (channel_at t i) n h q, stored_fits t i (accepted duplicate) (channel_at t i).highest (channel_at t i).ended (channel_at t i).runs runs_fit, put_same t i w)

  module _ (m : ℕ) (end : Bool) where
    heard-at : stepped i (heartbeat (pos m) end) t ≡
        stored_or_full t i (accepted heard) (larger (channel_at t i).highest m) ((channel_at t i).ended || end) (fill (channel_at t i).runs (channel_at t i).highest m)
    unfolding announced
    heard-at = settled_stored t i (channel_at t i) (heartbeat (pos m) end) (le-ltb m 0 zero-le) refl

    pub heard-ahead : get_or t.highest i 0 < m → stepped i (heartbeat (pos m) end) t ≡
        stored_or_full t i (accepted heard) m ((channel_at t i).ended || end) (grow (channel_at t i).runs (channel_at t i).highest m)
    heard-ahead h = heard-at ∙ rw (fill-some (channel_at t i).runs (channel_at t i).highest m h, larger-is (channel_at t i).highest m m (omega arith) (omega arith) (inr refl))

    -- nothing new is announced: the mark alone may change
    pub heard-behind : m ≤ get_or t.highest i 0 → stepped i (heartbeat (pos m) end) t ≡
        record {
          said = accepted heard;
          next = record {
            count = t.count;
            numbers = t.numbers;
            from = t.from;
            highest = t.highest;
            ended = set t.ended i (mark ((channel_at t i).ended || end));
            counts = t.counts;
            first = t.first;
            last = t.last;
          };
        }
    heard-behind h =
        heard-at
        ∙ rw (
          fill_none (channel_at t i).runs (channel_at t i).highest m h,
          larger-is (channel_at t i).highest m (channel_at t i).highest (omega arith) h (inl refl),
          stored_fits t i (accepted heard) (channel_at t i).highest ((channel_at t i).ended || end) (channel_at t i).runs runs_fit,
          put-runs t i w (channel_at t i).highest ((channel_at t i).ended || end),
          set-get_or t.highest i 0,
        )

-- ---- a late number at an end of its run

canon_ge : (lo h : ℕ) (l : List Run) (j : ℕ) → Canon lo h l → j < length l → lo ≤ (get_or l j (run 0 0)).first
canon_ge lo h [] j c m = absurd (omega arith)
canon_ge lo h (r ∷ l) zero c m = c.0
canon_ge lo h (r ∷ l) (suc j) c m = omega (arith, c.0, c.1, canon_ge (r.last + 2) h l j c.3 (omega arith))

cut_above : (lo h : ℕ) (l : List Run) (n : ℕ) → Canon lo h l → n < lo → cut_all l n ≡ l
unfolding cut_all
cut_above lo h [] n c m = refl
cut_above lo h (r ∷ l) n c m = rw (cut_low r n (omega (arith, c.0)), cut_above (r.last + 2) h l n c.3 (omega (arith, c.0, c.1)))

-- only the run that holds n is cut
cut_at : (lo h : ℕ) (l : List Run) (j n : ℕ) → Canon lo h l → j < length l → (get_or l j (run 0 0)).first ≤ n → n ≤ (get_or l j (run 0 0)).last →
    cut_all l n ≡ take j l ++ (cut (get_or l j (run 0 0)) n ++ drop (suc j) l)
unfolding cut_all
cut_at lo h [] j n c m f g = absurd (omega arith)
cut_at lo h (r ∷ l) zero n c m f g = rw (cut_above (r.last + 2) h l n c.3 (omega arith))
cut_at lo h (r ∷ l) (suc j) n c m f g =
    let q = canon_ge (r.last + 2) h l j c.3 (omega arith) in
    rw (cut_high r n (omega (arith, c.1, q)) (omega (arith, q)), cut_at (r.last + 2) h l j n c.3 (omega arith) f g)

module _ (t : Tracker) (i n j : ℕ) (x : Run) (w : RowOf t i) (m : j < get_or t.counts i 0) where
  -- the run at place j is left as another
  pub tick-end : get_or t.first (i * 32 + j) 0 ≤ n → n ≤ get_or t.last (i * 32 + j) 0 →
      cut (run (get_or t.first (i * 32 + j) 0) (get_or t.last (i * 32 + j) 0)) n ≡ x ∷ [] →
      stored_or_full t i (accepted late) (channel_at t i).highest (channel_at t i).ended (cut_all (channel_at t i).runs n) ≡
      record { said = accepted late; next = replaced t (i * 32 + j) x.first x.last }
  tick-end f g k =
      let l = (channel_at t i).runs in
      let s = span-length t.first t.last (i * 32) (get_or t.counts i 0) in
      let a = span-at t.first t.last (i * 32) (get_or t.counts i 0) j m in
      let c : cut_all l n ≡ set l j x =
      cut_at w.from (channel_at t i).highest l j n (canon_yes w.from (channel_at t i).highest l w.order) (rw s m) (rw a f) (rw a g)
      ∙ rw (a, k) (sym (set_split l j x (rw s m))) in
      rw (
        c,
        stored_fits t i (accepted late) (channel_at t i).highest (channel_at t i).ended (set l j x) (rw (length-set l j x, s) w.room),
        put-set t i w (channel_at t i).highest (channel_at t i).ended j x m,
        set-get_or t.highest i 0,
        mark-same t.ended i w.mark,
        set-get_or t.counts i 0,
      )

-- ---- a late number that goes with its run, or splits it

module _ (t : Tracker) (i n j : ℕ) (w : RowOf t i) (a : i < 8) (m : j < get_or t.counts i 0)
    (f : get_or t.first (i * 32 + j) 0 ≤ n) (g : n ≤ get_or t.last (i * 32 + j) 0) where
  abbrev held : Run
  held = run (get_or t.first (i * 32 + j) 0) (get_or t.last (i * 32 + j) 0)

  cut-there : (xs : List Run) → cut held n ≡ xs → cut_all (channel_at t i).runs n ≡ take j (channel_at t i).runs ++ (xs ++ drop (suc j) (channel_at t i).runs)
  cut-there xs k =
      let l = (channel_at t i).runs in
      let s = span-length t.first t.last (i * 32) (get_or t.counts i 0) in
      let d = span-at t.first t.last (i * 32) (get_or t.counts i 0) j m in
      cut_at w.from (channel_at t i).highest l j n (canon_yes w.from (channel_at t i).highest l w.order) (rw s m) (rw d f) (rw d g) ∙ rw (d, k)

  pub tick-shut : cut held n ≡ [] →
      stored_or_full t i (accepted late) (channel_at t i).highest (channel_at t i).ended (cut_all (channel_at t i).runs n) ≡ record { said = accepted late; next = shut t i (i * 32 + j) }
  tick-shut k =
      let l = take j (channel_at t i).runs ++ drop (suc j) (channel_at t i).runs in
      let c : cut_all (channel_at t i).runs n ≡ l = cut-there [] k in
      rw (
        c,
        stored_fits t i (accepted late) (channel_at t i).highest (channel_at t i).ended l (rw (parts_length t i w a j m []) (omega (arith, w.room))),
        put-shut t i w a j m (channel_at t i).highest (channel_at t i).ended,
        set-get_or t.highest i 0,
        mark-same t.ended i w.mark,
      )

  module _ (k : cut held n ≡ run (get_or t.first (i * 32 + j) 0) (n - 1) ∷ run (n + 1) (get_or t.last (i * 32 + j) 0) ∷ []) where
    abbrev both : List Run
    both = run (get_or t.first (i * 32 + j) 0) (n - 1) ∷ run (n + 1) (get_or t.last (i * 32 + j) 0) ∷ []

    abbrev parted : List Run
    parted = take j (channel_at t i).runs ++ (both ++ drop (suc j) (channel_at t i).runs)

    pub tick-cleft : get_or t.counts i 0 < 32 →
        stored_or_full t i (accepted late) (channel_at t i).highest (channel_at t i).ended (cut_all (channel_at t i).runs n) ≡ record { said = accepted late; next = cleft t i (i * 32 + j) n }
    tick-cleft h =
        rw (
          cut-there both k,
          stored_fits t i (accepted late) (channel_at t i).highest (channel_at t i).ended parted (rw (parts_length t i w a j m both) (omega arith)),
          put-cleft t i w a j m n h (channel_at t i).highest (channel_at t i).ended,
          set-get_or t.highest i 0,
          mark-same t.ended i w.mark,
        )

    pub tick-full : get_or t.counts i 0 ≡ 32 →
        stored_or_full t i (accepted late) (channel_at t i).highest (channel_at t i).ended (cut_all (channel_at t i).runs n) ≡ record { said = refused table_full []; next = t }
    tick-full h =
        rw (cut-there both k) (stored_full t i (accepted late) (channel_at t i).highest (channel_at t i).ended parted (rw (parts_length t i w a j m both) (omega arith)))

-- ---- a number that is not above the highest, by what the search found

-- there is no run with it, or one to change; and this is the tick's answer and the next tracker
abbrev pub Behind : Tracker → ℕ → ℕ → Option Held → Type 0
Behind t i n None = stepped i (tick (pos n)) t ≡ answered (Ok Duplicate) t
Behind t i n (Some s) = Changeable s (get_or t.counts i 0) × (stepped i (tick (pos n)) t ≡ late_as s i n t)

behind : (t : Tracker) (i n : ℕ) → RowOf t i → i < 8 → 1 ≤ n → get_or t.from i 0 ≤ n → n ≤ get_or t.highest i 0 → (s : Option Held) →
    Finds t.first t.last (i * 32) (get_or t.counts i 0) n s → Behind t i n s
unfolding left_at
behind t i n w a p k h s (finds_no e) = tick_again t i w n p k h e
behind t i n w a p low h s (finds_run j m f g) =
    go (ltb n r.first) refl (eqb n r.first) refl (ltb n r.last) refl (eqb n r.last) refl
  where
    r : Run
    r = run (get_or t.first (i * 32 + j) 0) (get_or t.last (i * 32 + j) 0)

    late_by : {o : Outcome} → stored_or_full t i (accepted late) (channel_at t i).highest (channel_at t i).ended (cut_all (channel_at t i).runs n) ≡ o → stepped i (tick (pos n)) t ≡ o
    late_by e = tick-late t i w n p low h (held_at t.first t.last (i * 32) (get_or t.counts i 0) j n m f g) ∙ e

    in_row : i * 32 + j < 256
    in_row = omega (arith, w.room)

    full : (b : Bool) → eqb (get_or t.counts i 0) 32 ≡ b → cut r n ≡ run r.first (n - 1) ∷ run (n + 1) r.last ∷ [] →
        stepped i (tick (pos n)) t ≡ cond b (answered (Err TableFull) t) (answered (Ok Late) (cleft t i (i * 32 + j) n))
    full true e k = late_by (tick-full t i n j w a m f g k (eqb-true (get_or t.counts i 0) 32 e))
    full false e k = late_by (tick-cleft t i n j w a m f g k (omega (arith, w.room, eqb-false (get_or t.counts i 0) 32 e)))

    go : (x : Bool) → ltb n r.first ≡ x → (y : Bool) → eqb n r.first ≡ y → (z : Bool) → ltb n r.last ≡ z → (v : Bool) → eqb n r.last ≡ v →
        Behind t i n (cond x None (cond y (cond z (Some (AtEnd (i * 32 + j) (n + 1) r.last)) (Some (Alone (i * 32 + j)))) (cond v (Some (AtEnd (i * 32 + j) r.first (n - 1))) (Some (Inside (i * 32 + j))))))
    go true b y c z d v e = absurd (omega (arith, ltb-true n r.first b))
    go false b true c true d v e = (in_row, late_by (tick-end t i n j (run (n + 1) r.last) w m f g (cut_front r n (eqb-true n r.first c) (ltb-true n r.last d))))
    go false b true c false d v e = (omega arith, late_by (tick-shut t i n j w a m f g (cut-whole r n (eqb-true n r.first c) (omega (arith, ltb-false n r.last d)))))
    go false b false c z d true e = (in_row, late_by (tick-end t i n j (run r.first (n - 1)) w m f g (cut_back r n (omega (arith, eqb-false n r.first c)) (eqb-true n r.last e))))
    go false b false c z d false e =
        (in_row, full (eqb (get_or t.counts i 0) 32) refl (cut_mid r n (omega (arith, eqb-false n r.first c)) (omega (arith, eqb-false n r.last e))))

-- by what the search answered
pub sought : (t : Tracker) (i n : ℕ) → SoundIn t i → 1 ≤ n → get_or t.from i 0 ≤ n → n ≤ get_or t.highest i 0 → (s : Option Held) → s ≡ search t.first t.last i (get_or t.counts i 0) n → Behind t i n s
sought t i n k p b h s e =
    let w = kept_row k in
    behind t i n w k.place p b h s (search_finds t.first t.last i (get_or t.counts i 0) w.from (get_or t.highest i 0) n k.place w.room w.order s e)

-- what was found is this
pub found_none : (t : Tracker) (i n : ℕ) {s : Option Held} → s ≡ None → Behind t i n s → Behind t i n None
found_none t i n {s} e w = rw e at w

pub found_some : (t : Tracker) (i n : ℕ) {s : Option Held} {x : Held} → s ≡ Some x → Behind t i n s → Behind t i n (Some x)
found_some t i n {s} {x} e w = rw e at w

-- ---- an arrival's refusals by its channel's seat

module _ (a : Arrays) (k : ℕ) (low : Bool) where
  pub judges_10 : (e : seats.Malformed) → Err e ≡ seat_of k a → Judges (made a) k low (Err Malformed)
  judges_10 m q = λ e z. arrived_10 (made a) k e (ill_seated a k m q)

  module _ (o : Option ℕ) (q : Ok o ≡ seat_of k a) where
    pub judges_7 : o ≡ None → Judges (made a) k low (Err NoSuchChannel)
    judges_7 h = λ e z. arrived_7 (made a) k e (well_seated a k o q) (none_seated a k o q h)

    pub judges_8 : (i : ℕ) → o ≡ Some i → low ≡ true → Judges (made a) k low (Err NumberTooLow)
    judges_8 i h l =
        let t = made a in
        let d = some_seated a k o q i h in
        λ e z. arrived_at t k e (well_seated a k o q) (rw d.0 d.1) ∙ settled_low t (place t k) (channel_at t (place t k)) e (z ∙ l)

    pub judges_at : (i : ℕ) → o ≡ Some i → low ≡ false → Judges (made a) k low (Ok i)
    judges_at i h l =
        let d = some_seated a k o q i h in
        let w = well_seated a k o q in
        (l, well_row (made a) w i d.1, λ e. (rw d.0 at (arrived_at (made a) k e w (rw d.0 d.1))))

-- what the judge's answer tells
module _ (a b : Arrays) (k : ℕ) (low : Bool) (r : Result ℕ Refusal) (p : a ≡ b) (w : Judges (made a) k low r) where
  same_judged : Judges (made b) k low r
  same_judged = subst (λ (c : Arrays). Judges (made c) k low r) p w

  pub told_refused : (v : Refusal) → r ≡ Err v → Judges (made b) k low (Err v)
  told_refused v e = subst (λ (x : Result ℕ Refusal). Judges (made b) k low x) e same_judged

  pub told_at : (i : ℕ) → r ≡ Ok i → Judges (made b) k low (Ok i)
  told_at i e = subst (λ (x : Result ℕ Refusal). Judges (made b) k low x) e same_judged

-- ---- from a place to its judgement, for numbers as the code holds them

module _ (t : Tracker) (k : ℕ) (low : Bool) (i : ℕ) (w : Judges t k low (Ok i)) where
  pub tick_seat : (z : ℤ) (n : ℕ) → n ≡ natural z → 1 ≤ n → arrive t (on k (tick z)) ≡ stepped i (tick (pos n)) t
  tick_seat z n e p =
      let d : z ≡ pos n = natural-one z (rw e at p) ∙ ap pos (sym e) in
      w.2 (tick z) ∙ ap (λ (y : ℤ). stepped i (tick y) t) d

  pub heartbeat_seat : (z : ℤ) (end : Bool) (m : ℕ) → m ≡ natural z → lt_z z (pos 0) ≡ false →
      arrive t (on k (heartbeat z end)) ≡ stepped i (heartbeat (pos m) end) t
  heartbeat_seat z end m e p =
      let d : z ≡ pos m = natural_pos z p ∙ ap pos (sym e) in
      w.2 (heartbeat z end) ∙ ap (λ (y : ℤ). stepped i (heartbeat y end) t) d
