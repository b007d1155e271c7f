-- The tracker that holds a list of channels' records: read, put and within the rules.
use Prim.Native.Nat.{ℕ, zero, suc, ◌+◌, ◌*◌, ◌-◌, ◌≤◌, ◌<◌}
use native.Mathlib.Omega.{arith}
use mathlib.Core.Path.{◌≡◌, refl, ap, sym, ◌∙◌}
use mathlib.Core.List.{List, [], ◌∷◌, ◌++◌, append_assoc, map}
use mathlib.Core.Bool.{Bool, true, false}
use lib.Dec.{leb, eqb}
use lib.IntN.{ℤ, pos}
use lib.ListN.{length, take, drop, get_or, set, replicate, length-append, length-replicate, length-map, length-set, get_or-append, get_or-map, replicate-append-replicate}
use lib.Seq.{sets, sets-eq, set-append_left, take_at, drop_at, drop-cons}
use borrow.Author.Tests.{le-leb, leb-true, ne_eqb}
use Rattle.gaps.specs.declared.Run.{Run}
use Rattle.gaps.specs.Gaps.{canon}
use Rattle.gaps.specs.Limits.{most_number}
use Rattle.gaps.specs.Channel.{Channel, fresh, natural}
use Rattle.gaps.specs.Built.{firsts, lasts, padded}
use Rattle.gaps.proofs.Numbers.{and_split}
use Rattle.tracker.specs.declared.Tracker.{Tracker}
use Rattle.seats.specs.Places.{span}
use Rattle.tracker.specs.Places.{arrays_of, mark, channel_at, put}
use Rattle.seats.specs.Arrays.{Arrays}
use Rattle.seats.specs.Rules.{is_first, first_numbers, all_zero, sound_row, sound_rows, sound_channels, marks, blank, unused, sound, ascends}
use Rattle.tracker.specs.Rules.{well_formed}
use Rattle.tracker.specs.SetUp.{blank_of}
use Rattle.tracker.proofs.Row.{cells, cells_add, cells_length}

-- ---- lists in equal parts

module _ {A : Type 0} where
  sets_cons : (a : A) (l : List A) (i : ℕ) (q : List A) → sets (a ∷ l) (suc i) q ≡ a ∷ sets l i q
  sets_cons a l i [] = refl
  sets_cons a l i (x ∷ q) = sets_cons a (set l i x) (suc i) q

  sets_skip : (p l : List A) (k : ℕ) (q : List A) → sets (p ++ l) (length p + k) q ≡ p ++ sets l k q
  sets_skip [] l k q = let e : 0 + k ≡ k = omega arith in rw e
  sets_skip (a ∷ p) l k q =
      let e : suc (length p) + k ≡ suc (length p + k) = omega arith in
      rw (e, sets_cons a (p ++ l) (length p + k) q, sets_skip p l k q)

  sets_front : (p l q : List A) → length p ≡ length q → sets (p ++ l) 0 q ≡ q ++ l
  sets_front p l q e =
      let d : 0 + length q ≡ length q = omega arith in
      sets-eq q (p ++ l) 0 (omega (arith, length-append p l)) ∙ rw (d, drop_at p l (length q) e)

  map-set : {B : Type 0} (f : A → B) (l : List A) (i : ℕ) (a : A) → map f (set l i a) ≡ set (map f l) i (f a)
  map-set f [] i a = refl
  map-set f (b ∷ l) zero a = refl
  map-set f (b ∷ l) (suc i) a = rw (map-set f l i a)

  get_d_pad : (l : List A) (k i : ℕ) (d : A) → length l ≤ i → get_or (l ++ replicate k d) i d ≡ d
  get_d_pad [] zero i d h = refl
  get_d_pad [] (suc k) zero d h = refl
  get_d_pad [] (suc k) (suc i) d h = get_d_pad [] k i d (omega arith)
  get_d_pad (a ∷ l) k zero d h = absurd (omega arith)
  get_d_pad (a ∷ l) k (suc i) d h = get_d_pad l k i d (omega arith)

cells_cons : (a : ℕ) (l : List ℕ) (b n : ℕ) → cells (a ∷ l) (suc b) n ≡ cells l b n
cells_cons a l b zero = refl
cells_cons a l b (suc n) = rw (cells_cons a l (suc b) n)

cells_skip : (p l : List ℕ) (k n : ℕ) → cells (p ++ l) (length p + k) n ≡ cells l k n
cells_skip [] l k n = let e : 0 + k ≡ k = omega arith in rw e
cells_skip (a ∷ p) l k n =
    let e : suc (length p) + k ≡ suc (length p + k) = omega arith in
    rw (e, cells_cons a (p ++ l) (length p + k) n, cells_skip p l k n)

cells_front : (p l : List ℕ) → cells (p ++ l) 0 (length p) ≡ p
cells_front [] l = refl
cells_front (a ∷ p) l = rw (cells_cons a (p ++ l) 0 (length p), cells_front p l)

cells_zero : (k b n : ℕ) → cells (replicate k 0) b n ≡ replicate n 0
cells_zero k b zero = refl
cells_zero k b (suc n) = rw (get_d_pad {A = ℕ} [] k b 0 (omega arith), cells_zero k (suc b) n)

-- ---- the tracker of these channel numbers and records

-- each record's runs in its row
abbrev rows : (List Run → List ℕ) → List Channel → List ℕ
rows g [] = []
rows g (c ∷ cs) = padded 32 (g c.runs) ++ rows g cs

abbrev begins : List Channel → List ℕ
begins cs = map (λ (c : Channel). c.from) cs

abbrev highs : List Channel → List ℕ
highs cs = map (λ (c : Channel). c.highest) cs

abbrev endings : List Channel → List ℕ
endings cs = map (λ (c : Channel). mark c.ended) cs

abbrev sizes : List Channel → List ℕ
sizes cs = map (λ (c : Channel). length c.runs) cs

abbrev pub holder : List ℕ → List Channel → Tracker
holder ns cs =
    record {
      count = length ns;
      numbers = padded 8 ns;
      from = padded 8 (begins cs);
      highest = padded 8 (highs cs);
      ended = padded 8 (endings cs);
      counts = padded 8 (sizes cs);
      first = rows firsts cs ++ replicate (256 - length cs * 32) 0;
      last = rows lasts cs ++ replicate (256 - length cs * 32) 0;
    }

-- the record at place i
abbrev pub at : List Channel → ℕ → Channel
at cs i = get_or cs i (fresh 1)

-- a record within the rules
pub record Good (c : Channel) : Type 0 where
  pub small : length c.runs ≤ 32
  pub high : c.highest ≤ most_number
  pub first : is_first c.from ≡ true
  pub start : c.from ≤ c.highest + 1
  pub order : canon c.from c.highest c.runs ≡ true

abbrev pub AllGood : List Channel → Type 0
AllGood [] = Unit
AllGood (c ∷ cs) = Good c × AllGood cs

pub good_at : (cs : List Channel) (i : ℕ) → AllGood cs → i < length cs → Good (at cs i)
good_at [] i g h = absurd (omega arith)
good_at (c ∷ cs) zero g h = g.0
good_at (c ∷ cs) (suc i) g h = good_at cs i g.1 (omega arith)

pub good_set : (cs : List Channel) (i : ℕ) (c : Channel) → AllGood cs → Good c → AllGood (set cs i c)
good_set [] i c g w = tt
good_set (d ∷ cs) zero c g w = (w, g.1)
good_set (d ∷ cs) (suc i) c g w = (g.0, good_set cs i c g.1 w)

-- ---- one field of the runs

module _ (g : List Run → List ℕ) (same : (l : List Run) → length (g l) ≡ length l) where
  row-length : (c : Channel) → length c.runs ≤ 32 → length (padded 32 (g c.runs)) ≡ 32
  row-length c h = length-append (g c.runs) _ ∙ rw (length-replicate {A = ℕ} (32 - length (g c.runs)) 0, same c.runs) (omega arith)

  rows_length : (cs : List Channel) → AllGood cs → length (rows g cs) ≡ length cs * 32
  rows_length [] w = refl
  rows_length (c ∷ cs) w = length-append (padded 32 (g c.runs)) (rows g cs) ∙ rw (row-length c w.0.small, rows_length cs w.1) (omega arith)

  rows_put : (cs : List Channel) (i : ℕ) (c : Channel) (z : List ℕ) → AllGood cs → i < length cs → length c.runs ≤ 32 →
      sets (rows g cs ++ z) (i * 32) (padded 32 (g c.runs)) ≡ rows g (set cs i c) ++ z
  rows_put [] i c z w h s = absurd (omega arith)
  rows_put (d ∷ cs) zero c z w h s =
      rw (append_assoc (padded 32 (g d.runs)) (rows g cs) z, append_assoc (padded 32 (g c.runs)) (rows g cs) z)
      (sets_front (padded 32 (g d.runs)) (rows g cs ++ z) (padded 32 (g c.runs)) (row-length d w.0.small ∙ sym (row-length c s)))
  rows_put (d ∷ cs) (suc i) c z w h s =
      let e : suc i * 32 ≡ length (padded 32 (g d.runs)) + i * 32 = omega (arith, row-length d w.0.small) in
      rw (append_assoc (padded 32 (g d.runs)) (rows g cs) z, append_assoc (padded 32 (g d.runs)) (rows g (set cs i c)) z, e)
      (sets_skip (padded 32 (g d.runs)) (rows g cs ++ z) (i * 32) (padded 32 (g c.runs)) ∙ rw (rows_put cs i c z w.1 (omega arith) s))

  rows_cells : (cs : List Channel) (i : ℕ) (z : List ℕ) → AllGood cs → i < length cs → cells (rows g cs ++ z) (i * 32) 32 ≡ padded 32 (g (at cs i).runs)
  rows_cells [] i z w h = absurd (omega arith)
  rows_cells (c ∷ cs) zero z w h =
      rw (append_assoc (padded 32 (g c.runs)) (rows g cs) z)
      (ap (cells (padded 32 (g c.runs) ++ (rows g cs ++ z)) 0) (sym (row-length c w.0.small)) ∙ cells_front (padded 32 (g c.runs)) (rows g cs ++ z))
  rows_cells (c ∷ cs) (suc i) z w h =
      let e : suc i * 32 ≡ length (padded 32 (g c.runs)) + i * 32 = omega (arith, row-length c w.0.small) in
      rw (append_assoc (padded 32 (g c.runs)) (rows g cs) z, e)
      (cells_skip (padded 32 (g c.runs)) (rows g cs ++ z) (i * 32) 32 ∙ rows_cells cs i z w.1 (omega arith))

  rows_behind : (cs : List Channel) (k : ℕ) → AllGood cs → cells (rows g cs ++ replicate k 0) (length cs * 32) k ≡ replicate k 0
  rows_behind cs k w =
      let e : length cs * 32 ≡ length (rows g cs) + 0 = omega (arith, rows_length cs w) in
      rw e (cells_skip (rows g cs) (replicate k 0) 0 k ∙ cells_zero k 0 k)

firsts-length : (l : List Run) → length (firsts l) ≡ length l
firsts-length l = length-map l (λ (r : Run). r.first)

lasts-length : (l : List Run) → length (lasts l) ≡ length l
lasts-length l = length-map l (λ (r : Run). r.last)

-- ---- a record put in its place

begins_same : (cs : List Channel) (i : ℕ) (c : Channel) → c.from ≡ (at cs i).from → begins (set cs i c) ≡ begins cs
begins_same [] i c e = refl
begins_same (d ∷ cs) zero c e = rw e
begins_same (d ∷ cs) (suc i) c e = rw (begins_same cs i c e)

begins_at : (cs : List Channel) (i : ℕ) → i < length cs → get_or (begins cs) i 0 ≡ (at cs i).from
begins_at [] i h = absurd (omega arith)
begins_at (c ∷ cs) zero h = refl
begins_at (c ∷ cs) (suc i) h = begins_at cs i (omega arith)

-- of the same first number
pub holder_put : (ns : List ℕ) (cs : List Channel) (i : ℕ) (c : Channel) → AllGood cs → i < length cs → Good c → c.from ≡ (at cs i).from →
    put (holder ns cs) i c ≡ holder ns (set cs i c)
unfolding put
holder_put ns cs i c w h g s =
    let z = replicate {A = ℕ} (256 - length cs * 32) 0 in
    let n = length-set cs i c in
    let a = set-append_left (highs cs) (replicate {A = ℕ} (8 - length (highs cs)) 0) i c.highest (rw (length-map cs (λ (d : Channel). d.highest)) h) in
    let b = set-append_left (endings cs) (replicate {A = ℕ} (8 - length (endings cs)) 0) i (mark c.ended) (rw (length-map cs (λ (d : Channel). mark d.ended)) h) in
    let d = set-append_left (sizes cs) (replicate {A = ℕ} (8 - length (sizes cs)) 0) i (length c.runs) (rw (length-map cs (λ (d : Channel). length d.runs)) h) in
    rw (
      a,
      b,
      d,
      rows_put firsts firsts-length cs i c z w h g.small,
      rows_put lasts lasts-length cs i c z w h g.small,
      begins_same cs i c s,
      map-set (λ (d : Channel). d.highest) cs i c,
      map-set (λ (d : Channel). mark d.ended) cs i c,
      map-set (λ (d : Channel). length d.runs) cs i c,
      length-set (highs cs) i c.highest,
      length-set (endings cs) i (mark c.ended),
      length-set (sizes cs) i (length c.runs),
      n,
    )

-- ---- a record read from its place

span_of : (f l : List ℕ) (b : ℕ) (rs : List Run) → cells f b (length rs) ≡ firsts rs → cells l b (length rs) ≡ lasts rs → span f l b (length rs) ≡ rs
unfolding span
span_of f l b [] p q = refl
span_of f l b (r ∷ rs) p q =
    let x : get_or f b 0 ≡ r.first = cc in
    let y : get_or l b 0 ≡ r.last = cc in
    rw (x, y, span_of f l (suc b) rs (cc) (cc))

-- a row that holds these numbers, zero behind them
module _ (f : List ℕ) (b : ℕ) (ks : List ℕ) (h : length ks ≤ 32) (p : cells f b 32 ≡ padded 32 ks) where
  row_split : cells f b 32 ≡ cells f b (length ks) ++ cells f (b + length ks) (32 - length ks)
  row_split = let e : 32 ≡ length ks + (32 - length ks) = omega arith in ap (cells f b) e ∙ cells_add f b (length ks) (32 - length ks)

  row_front : cells f b (length ks) ≡ ks
  row_front =
      sym (take_at (cells f b (length ks)) (cells f (b + length ks) (32 - length ks)) (length ks) (cells_length f b (length ks)))
      ∙ ap (take (length ks)) (sym row_split ∙ p)
      ∙ take_at ks (replicate {A = ℕ} (32 - length ks) 0) (length ks) refl

  row_rest : cells f (b + length ks) (32 - length ks) ≡ replicate (32 - length ks) 0
  row_rest =
      sym (drop_at (cells f b (length ks)) (cells f (b + length ks) (32 - length ks)) (length ks) (cells_length f b (length ks)))
      ∙ ap (drop (length ks)) (sym row_split ∙ p)
      ∙ drop_at ks (replicate {A = ℕ} (32 - length ks) 0) (length ks) refl

zeros_pass : (f l : List ℕ) (b n : ℕ) → cells f b n ≡ replicate n 0 → cells l b n ≡ replicate n 0 → all_zero (span f l b n) ≡ true
unfolding span all_zero
zeros_pass f l b zero p q = refl
zeros_pass f l b (suc n) p q =
    let x : get_or f b 0 ≡ 0 = cc in
    let y : get_or l b 0 ≡ 0 = cc in
    rw (x, y, zeros_pass f l (suc b) n (cc) (cc))

module _ (f l : List ℕ) (b : ℕ) (rs : List Run) (s : length rs ≤ 32) (p : cells f b 32 ≡ padded 32 (firsts rs)) (q : cells l b 32 ≡ padded 32 (lasts rs)) where
  row-runs : span f l b (length rs) ≡ rs
  row-runs =
      let x = firsts-length rs in
      let y = lasts-length rs in
      span_of f l b rs
      (ap (cells f b) (sym x) ∙ row_front f b (firsts rs) (omega arith) p)
      (ap (cells l b) (sym y) ∙ row_front l b (lasts rs) (omega arith) q)

  row-sound : (from h : ℕ) → h ≤ most_number → is_first from ≡ true → from ≤ h + 1 → canon from h rs ≡ true → sound_row from h (length rs) f l b ≡ true
  unfolding sound_row
  row-sound from h m a d c =
      let z = zeros_pass f l (b + length rs) (32 - length rs)
      (rw (firsts-length rs) at (row_rest f b (firsts rs) (omega (arith, firsts-length rs)) p))
      (rw (lasts-length rs) at (row_rest l b (lasts rs) (omega (arith, lasts-length rs)) q)) in
      rw (le-leb (length rs) 32 s, le-leb h most_number m, a, le-leb from (h + 1) d, row-runs, c, z)

module _ (ns : List ℕ) (cs : List Channel) (w : AllGood cs) where
  high_at : (i : ℕ) → i < length cs → get_or (holder ns cs).highest i 0 ≡ (at cs i).highest
  high_at i h =
      get_or-append (highs cs) (replicate (8 - length (highs cs)) 0) 0 i (rw (length-map cs (λ (d : Channel). d.highest)) h)
      ∙ get_or-map (λ (d : Channel). d.highest) cs i (fresh 1)

  from_at : (i : ℕ) → i < length cs → get_or (holder ns cs).from i 0 ≡ (at cs i).from
  from_at i h =
      get_or-append (begins cs) (replicate (8 - length (begins cs)) 0) 0 i (rw (length-map cs (λ (d : Channel). d.from)) h) ∙ begins_at cs i h

  size-at : (i : ℕ) → i < length cs → get_or (holder ns cs).counts i 0 ≡ length (at cs i).runs
  size-at i h =
      get_or-append (sizes cs) (replicate (8 - length (sizes cs)) 0) 0 i (rw (length-map cs (λ (d : Channel). length d.runs)) h)
      ∙ get_or-map (λ (d : Channel). length d.runs) cs i (fresh 1)

  mark-at : (i : ℕ) → i < length cs → eqb (get_or (holder ns cs).ended i 0) 1 ≡ (at cs i).ended
  mark-at i h =
      ap (λ (e : ℕ). eqb e 1)
      (get_or-append (endings cs) (replicate (8 - length (endings cs)) 0) 0 i (rw (length-map cs (λ (d : Channel). mark d.ended)) h)
      ∙ get_or-map (λ (d : Channel). mark d.ended) cs i (fresh 1))
      ∙ read (at cs i).ended
    where
      read : (e : Bool) → eqb (mark e) 1 ≡ e
      read true = refl
      read false = refl

  first-row : (i : ℕ) → i < length cs → cells (holder ns cs).first (i * 32) 32 ≡ padded 32 (firsts (at cs i).runs)
  first-row i h = rows_cells firsts firsts-length cs i (replicate (256 - length cs * 32) 0) w h

  last_row : (i : ℕ) → i < length cs → cells (holder ns cs).last (i * 32) 32 ≡ padded 32 (lasts (at cs i).runs)
  last_row i h = rows_cells lasts lasts-length cs i (replicate (256 - length cs * 32) 0) w h

  pub holder_channel : (i : ℕ) → i < length cs → channel_at (holder ns cs) i ≡ at cs i
  holder_channel i h =
      let g = good_at cs i w h in
      let r : (channel_at (holder ns cs) i).runs ≡ (at cs i).runs =
      rw (size-at i h) (row-runs (holder ns cs).first (holder ns cs).last (i * 32) (at cs i).runs g.small (first-row i h) (last_row i h)) in
      λ x. record { from = from_at i h x; highest = high_at i h x; ended = mark-at i h x; runs = r x }

  holder_row : (i : ℕ) → i < length cs →
      sound_row (get_or (holder ns cs).from i 0) (get_or (holder ns cs).highest i 0) (get_or (holder ns cs).counts i 0) (holder ns cs).first (holder ns cs).last (i * 32) ≡ true
  holder_row i h =
      let g = good_at cs i w h in
      rw (from_at i h, high_at i h, size-at i h) (row-sound (holder ns cs).first (holder ns cs).last (i * 32) (at cs i).runs g.small (first-row i h) (last_row i h) (at cs i).from (at cs i).highest g.high g.first g.start g.order)

-- ---- within the rules

rows_true : (a : Arrays) (ns : List ℕ) (lo i n : ℕ) → i + n ≡ length ns → ascends lo (drop i ns) ≡ true →
    ((j : ℕ) → j < length ns → get_or a.numbers j 0 ≡ get_or ns j 0) →
    ((j : ℕ) → j < length ns → sound_row (get_or a.from j 0) (get_or a.highest j 0) (get_or a.counts j 0) a.first a.last (j * 32) ≡ true) →
    sound_rows a lo i n ≡ true
unfolding sound_rows ascends
rows_true a ns lo i zero e o p q = refl
rows_true a ns lo i (suc n) e o p q =
    let h : i < length ns = omega arith in
    let b = and_split (leb lo (get_or ns i 0)) _ (rw (drop-cons ns i 0 h) at o) in
    rw (p i h, b.0, q i h) (rows_true a ns (get_or ns i 0 + 1) (suc i) n (omega arith) b.1 p q)

ending-mark : (cs : List Channel) (n i : ℕ) → get_or (endings cs ++ replicate n 0) i 0 ≤ 1
ending-mark [] n i = rw (get_d_pad {A = ℕ} [] n i 0 (omega arith)) (omega arith)
ending-mark (c ∷ cs) n zero = go c.ended
  where
    go : (e : Bool) → mark e ≤ 1
    go true = omega arith
    go false = omega arith
ending-mark (c ∷ cs) n (suc i) = ending-mark cs n i

marks_true : (es : List ℕ) (i n : ℕ) → ((j : ℕ) → get_or es j 0 ≤ 1) → marks es i n ≡ true
unfolding marks
marks_true es i zero h = refl
marks_true es i (suc n) h = rw (le-leb (get_or es i 0) 1 (h i)) (marks_true es (suc i) n h)

blank_true : (a : Arrays) (i n : ℕ) → ((j : ℕ) → i ≤ j → get_or a.numbers j 0 ≡ 0) → ((j : ℕ) → i ≤ j → get_or a.from j 0 ≡ 0) → ((j : ℕ) → i ≤ j → get_or a.highest j 0 ≡ 0) →
    ((j : ℕ) → i ≤ j → get_or a.ended j 0 ≡ 0) → ((j : ℕ) → i ≤ j → get_or a.counts j 0 ≡ 0) → blank a i n ≡ true
unfolding blank
blank_true a i zero p f q r s = refl
blank_true a i (suc n) p f q r s =
    rw (p i (omega arith), f i (omega arith), q i (omega arith), r i (omega arith), s i (omega arith))
    (blank_true a (suc i) n (λ j h. p j (omega arith)) (λ j h. f j (omega arith)) (λ j h. q j (omega arith)) (λ j h. r j (omega arith)) (λ j h. s j (omega arith)))

-- a list of numbers that a set-up takes
pub record Listed (ns : List ℕ) : Type 0 where
  pub some : 1 ≤ length ns
  pub most : length ns ≤ 8
  pub order : ascends 0 ns ≡ true

pub holder_well : (ns : List ℕ) (cs : List Channel) → Listed ns → length cs ≡ length ns → AllGood cs → well_formed (holder ns cs) ≡ true
unfolding well_formed sound sound_channels unused
holder_well ns cs o e w =
    let t = holder ns cs in
    let n = length ns in
    let d : n * 32 ≡ length cs * 32 = ap (λ (k : ℕ). k * 32) (sym e) in
    let r = rows_true (arrays_of t) ns 0 0 n (omega arith) o.order
    (λ j h. get_or-append ns (replicate (8 - length ns) 0) 0 j h)
    (λ j h. holder_row ns cs w j (omega arith)) in
    let b = blank_true (arrays_of t) n (8 - n)
    (λ j h. get_d_pad ns (8 - length ns) j 0 h)
    (λ j h. get_d_pad (begins cs) (8 - length (begins cs)) j 0 (omega (arith, length-map cs (λ (c : Channel). c.from))))
    (λ j h. get_d_pad (highs cs) (8 - length (highs cs)) j 0 (omega (arith, length-map cs (λ (c : Channel). c.highest))))
    (λ j h. get_d_pad (endings cs) (8 - length (endings cs)) j 0 (omega (arith, length-map cs (λ (c : Channel). mark c.ended))))
    (λ j h. get_d_pad (sizes cs) (8 - length (sizes cs)) j 0 (omega (arith, length-map cs (λ (c : Channel). length c.runs)))) in
    let z = zeros_pass t.first t.last (length cs * 32) (256 - length cs * 32)
    (rows_behind firsts firsts-length cs (256 - length cs * 32) w)
    (rows_behind lasts lasts-length cs (256 - length cs * 32) w) in
    rw (ne_eqb n 0 (omega (arith, o.some)), le-leb n 8 o.most, r, marks_true t.ended 0 8 (ending-mark cs (8 - length (endings cs))), b, d, z)

-- ---- the tracker that a set-up gives

-- the records of channels that nothing has reached
abbrev pub start : List ℤ → List Channel
start fs = map (λ (z : ℤ). fresh (natural z)) fs

pub first-at : (fs : List ℤ) (i : ℕ) → first_numbers fs ≡ true → i < length fs → (1 ≤ natural (get_or fs i (pos 0))) × (natural (get_or fs i (pos 0)) ≤ most_number)
unfolding first_numbers
first-at [] i e h = absurd (omega arith)
first-at (z ∷ fs) zero e h =
    let a = and_split (leb 1 (natural z)) _ (and_split (is_first (natural z)) _ e).0 in
    (leb-true 1 (natural z) a.0, leb-true (natural z) most_number a.1)
first-at (z ∷ fs) (suc i) e h = first-at fs i (and_split (is_first (natural z)) _ e).1 (omega arith)

pub start-at : (fs : List ℤ) (i : ℕ) → i < length fs → at (start fs) i ≡ fresh (natural (get_or fs i (pos 0)))
start-at [] i h = absurd (omega arith)
start-at (z ∷ fs) zero h = refl
start-at (z ∷ fs) (suc i) h = start-at fs i (omega arith)

-- a field of all of them
field : (g : Channel → ℕ) (k : ℤ → ℕ) → ((z : ℤ) → g (fresh (natural z)) ≡ k z) → (fs : List ℤ) → map g (start fs) ≡ map k fs
field g k e [] = refl
field g k e (z ∷ fs) = rw (e z, field g k e fs)

zeros : (g : Channel → ℕ) → ((z : ℤ) → g (fresh (natural z)) ≡ 0) → (fs : List ℤ) → map g (start fs) ≡ replicate (length fs) 0
zeros g e [] = refl
zeros g e (z ∷ fs) = rw (e z, zeros g e fs)

pad_zeros : (n k : ℕ) → n ≤ k → replicate {A = ℕ} n 0 ++ replicate (k - length (replicate {A = ℕ} n 0)) 0 ≡ replicate k 0
pad_zeros n k h =
    let e : n + (k - n) ≡ k = omega arith in
    rw (length-replicate {A = ℕ} n 0) (replicate-append-replicate {A = ℕ} n (k - n) 0 ∙ ap (λ (m : ℕ). replicate m 0) e)

rows_start : (g : List Run → List ℕ) → g [] ≡ [] → (fs : List ℤ) → rows g (start fs) ≡ replicate (length fs * 32) 0
rows_start g p [] = refl
rows_start g p (z ∷ fs) =
    let e : 32 + length fs * 32 ≡ suc (length fs) * 32 = omega arith in
    rw (p, rows_start g p fs, ← e) (replicate-append-replicate {A = ℕ} 32 (length fs * 32) 0)

pub holder_start : (ns : List ℕ) (fs : List ℤ) → length fs ≤ 8 → blank_of ns fs ≡ holder ns (start fs)
holder_start ns fs h =
    let n = length fs in
    let e : n * 32 + (256 - n * 32) ≡ 256 = omega arith in
    let z : replicate (n * 32) 0 ++ replicate (256 - n * 32) 0 ≡ replicate {A = ℕ} 256 0 = replicate-append-replicate {A = ℕ} (n * 32) (256 - n * 32) 0 ∙ ap (λ (m : ℕ). replicate m 0) e in
    rw (
      field (λ (c : Channel). c.from) natural (λ y. refl) fs,
      field (λ (c : Channel). c.highest) (λ (z : ℤ). (fresh (natural z)).highest) (λ y. refl) fs,
      zeros (λ (c : Channel). mark c.ended) (λ y. refl) fs,
      zeros (λ (c : Channel). length c.runs) (λ y. refl) fs,
      rows_start firsts refl fs,
      rows_start lasts refl fs,
      length-map fs (λ (z : ℤ). fresh (natural z)),
      pad_zeros n 8 h,
      z,
    )
