-- The tracker's rules, place by place, are what the test of a tracker tests.
-- Assumes nothing.
use Prim.Native.Nat.{ℕ, zero, suc, ◌+◌, ◌*◌, ◌-◌, ◌/◌, ◌%◌, ◌≤◌, ◌<◌, zero-le}
use mathlib.Core.Path.{◌≡◌, refl}
use mathlib.Core.Bool.{Bool, true, not}
use mathlib.Core.Logic.{⊎_elim}
use mathlib.Core.List.{List}
use native.Mathlib.Nat.{div-add-mod', mod-lt}
use native.Mathlib.Omega.{arith}
use borrow.Author.Tests.{leb-true, le-leb, eqb-true, eqb-false, eq-eqb, ne_eqb, not-true}
use lib.Dec.{leb, eqb, lit<}
use lib.ListN.{get_or}
use Rattle.gaps.specs.Gaps.{canon}
use Rattle.gaps.specs.Limits.{run_limit, most_number}
use Rattle.gaps.proofs.Numbers.{and_split, lt_or_le}
use Rattle.tracker.specs.declared.Tracker.{Tracker}
use Rattle.seats.specs.Places.{span}
use Rattle.tracker.proofs.Seated.{well_row}
use Rattle.seats.specs.Arrays.{Arrays}
use Rattle.seats.proofs.Heads.{marks-at}
use Rattle.seats.specs.Rules.{is_first, starts, all_zero, sound_row, sound_rows, sound_channels, marks, blank, unused, sound}
use Rattle.tracker.specs.Places.{arrays_of}
use Rattle.tracker.specs.Rules.{well_formed}
use Rattle.demands.specs.Conditions.{first_of, last_of, Keeps}

-- ---- places that are zero

module _ (f l : List ℕ) where
  zero-at : (b n j : ℕ) → all_zero (span f l b n) ≡ true → j < n → (get_or f (b + j) 0 ≡ 0) × (get_or l (b + j) 0 ≡ 0)
  unfolding all_zero span
  zero-at b zero j e h = absurd (omega arith)
  zero-at b (suc n) zero e h =
      let z : b + 0 ≡ b = omega arith in
      let a = and_split (eqb (get_or f b 0) 0) _ e in
      rw z (eqb-true (get_or f b 0) 0 a.0, eqb-true (get_or l b 0) 0 (and_split (eqb (get_or l b 0) 0) _ a.1).0)
  zero-at b (suc n) (suc j) e h =
      let z : b + suc j ≡ suc b + j = omega arith in
      let a = and_split (eqb (get_or f b 0) 0) _ e in
      rw z (zero-at (suc b) n j (and_split (eqb (get_or l b 0) 0) _ a.1).1 (omega arith))

  all_zero_lem : (b n : ℕ) → ((j : ℕ) → j < n → (get_or f (b + j) 0 ≡ 0) × (get_or l (b + j) 0 ≡ 0)) → all_zero (span f l b n) ≡ true
  unfolding all_zero span
  all_zero_lem b zero h = refl
  all_zero_lem b (suc n) h =
      let z : b + 0 ≡ b = omega arith in
      let a : (get_or f b 0 ≡ 0) × (get_or l b 0 ≡ 0) = rw z at (h 0 (omega arith)) in
      let on = all_zero_lem (suc b) n (λ j k. let y : b + suc j ≡ suc b + j = omega arith in rw y at (h (suc j) (omega arith))) in
      rw (eq-eqb (get_or f b 0) 0 a.0, eq-eqb (get_or l b 0) 0 a.1, on)

  -- ---- runs from lo to h, ascending, no two touching

  run_at : (lo h b n j : ℕ) → canon lo h (span f l b n) ≡ true → j < n → (lo ≤ get_or f (b + j) 0) × (get_or f (b + j) 0 ≤ get_or l (b + j) 0) × (get_or l (b + j) 0 ≤ h)
  unfolding canon span
  run_at lo h b zero j e k = absurd (omega arith)
  run_at lo h b (suc n) zero e k =
      let z : b + 0 ≡ b = omega arith in
      let p = and_split (leb lo (get_or f b 0)) _ e in
      let q = and_split (leb (get_or f b 0) (get_or l b 0)) _ p.1 in
      let r = and_split (leb (get_or l b 0) h) _ q.1 in
      rw z (leb-true lo (get_or f b 0) p.0, leb-true (get_or f b 0) (get_or l b 0) q.0, leb-true (get_or l b 0) h r.0)
  run_at lo h b (suc n) (suc j) e k =
      let z : b + suc j ≡ suc b + j = omega arith in
      let p = and_split (leb lo (get_or f b 0)) _ e in
      let q = and_split (leb (get_or f b 0) (get_or l b 0)) _ p.1 in
      let r = and_split (leb (get_or l b 0) h) _ q.1 in
      let on = run_at (get_or l b 0 + 2) h (suc b) n j r.1 (omega arith) in
      let low = leb-true lo (get_or f b 0) p.0 in
      let long = leb-true (get_or f b 0) (get_or l b 0) q.0 in
      rw z (omega (arith, low, long, on.0), on.1, on.2)

  runs-apart : (lo h b n j : ℕ) → canon lo h (span f l b n) ≡ true → suc j < n → get_or l (b + j) 0 + 1 < get_or f (b + suc j) 0
  unfolding canon span
  runs-apart lo h b zero j e k = absurd (omega arith)
  runs-apart lo h b (suc n) zero e k =
      let y : b + 1 ≡ suc b + 0 = omega arith in
      let z : b + 0 ≡ b = omega arith in
      let p = and_split (leb lo (get_or f b 0)) _ e in
      let q = and_split (leb (get_or f b 0) (get_or l b 0)) _ p.1 in
      let r = and_split (leb (get_or l b 0) h) _ q.1 in
      let on = (run_at (get_or l b 0 + 2) h (suc b) n 0 r.1 (omega arith)).0 in
      rw (y, z) (omega (arith, on))
  runs-apart lo h b (suc n) (suc j) e k =
      let z : b + suc j ≡ suc b + j = omega arith in
      let y : b + suc (suc j) ≡ suc b + suc j = omega arith in
      let p = and_split (leb lo (get_or f b 0)) _ e in
      let q = and_split (leb (get_or f b 0) (get_or l b 0)) _ p.1 in
      let r = and_split (leb (get_or l b 0) h) _ q.1 in
      rw (z, y) (runs-apart (get_or l b 0 + 2) h (suc b) n j r.1 (omega arith))

  runs-canon :
      (lo h b n : ℕ) → (0 < n → lo ≤ get_or f b 0) → ((j : ℕ) → j < n → (get_or f (b + j) 0 ≤ get_or l (b + j) 0) × (get_or l (b + j) 0 ≤ h)) →
      ((j : ℕ) → suc j < n → get_or l (b + j) 0 + 1 < get_or f (b + suc j) 0) → canon lo h (span f l b n) ≡ true
  unfolding canon span
  runs-canon lo h b zero low each apart = refl
  runs-canon lo h b (suc n) low each apart =
      let z : b + 0 ≡ b = omega arith in
      let a : (get_or f b 0 ≤ get_or l b 0) × (get_or l b 0 ≤ h) = rw z at (each 0 (omega arith)) in
      let on =
      runs-canon (get_or l b 0 + 2) h (suc b) n
      (λ k. let y : b + 1 ≡ suc b = omega arith in let g : get_or l b 0 + 1 < get_or f (suc b) 0 = rw (z, y) at (apart 0 (omega arith)) in omega (arith, g))
      (λ j k. let y : b + suc j ≡ suc b + j = omega arith in rw y at (each (suc j) (omega arith)))
      (λ j k.
      let y : b + suc j ≡ suc b + j = omega arith in
      let x : b + suc (suc j) ≡ suc b + suc j = omega arith in
      rw (y, x) at (apart (suc j) (omega arith))) in
      rw (le-leb lo (get_or f b 0) (low (omega arith)), le-leb (get_or f b 0) (get_or l b 0) a.0, le-leb (get_or l b 0) h a.1, on)

-- ---- one channel's row

-- its runs from place b on, n of them
pub record Row (from h n : ℕ) (f l : List ℕ) (b : ℕ) : Type 0 where
  pub few : n ≤ run_limit
  pub high : h ≤ most_number
  pub first : (1 ≤ from) × (from ≤ most_number)
  pub start : from ≤ h + 1
  pub inside : (j : ℕ) → j < n → (from ≤ get_or f (b + j) 0) × (get_or f (b + j) 0 ≤ get_or l (b + j) 0) × (get_or l (b + j) 0 ≤ h)
  pub apart : (j : ℕ) → suc j < n → get_or l (b + j) 0 + 1 < get_or f (b + suc j) 0
  pub empty : (j : ℕ) → n ≤ j → j < run_limit → (get_or f (b + j) 0 ≡ 0) × (get_or l (b + j) 0 ≡ 0)

module _ (from h n : ℕ) (f l : List ℕ) (b : ℕ) where
  row_keeps : sound_row from h n f l b ≡ true → Row from h n f l b
  unfolding sound_row
  row_keeps e =
      let p = and_split (leb n 32) _ e in
      let q = and_split (leb h most_number) _ p.1 in
      let d = and_split (starts from h) _ q.1 in
      let a = and_split (is_first from) _ d.0 in
      let c = and_split (leb 1 from) _ a.0 in
      let r = and_split (canon from h (span f l b n)) _ d.1 in
      let k = leb-true n 32 p.0 in
      record {
        few = k;
        high = leb-true h most_number q.0;
        first = (leb-true 1 from c.0, leb-true from most_number c.1);
        start = leb-true from (h + 1) a.1;
        inside = λ j g. run_at f l from h b n j r.0 g;
        apart = λ j g. runs-apart f l from h b n j r.0 g;
        empty = λ j g m. let z : b + n + (j - n) ≡ b + j = omega arith in rw z at (zero-at f l (b + n) (32 - n) (j - n) r.1 (omega arith));
      }

  row-sound : Row from h n f l b → sound_row from h n f l b ≡ true
  unfolding sound_row
  row-sound r =
      let z : b + 0 ≡ b = omega arith in
      let c = runs-canon f l from h b n (λ k. rw z at (r.inside 0 k).0) (λ j k. ((r.inside j k).1, (r.inside j k).2)) (λ j k. r.apart j k) in
      let k = r.few in
      let e = all_zero_lem f l (b + n) (32 - n) (λ j g. let y : b + (n + j) ≡ b + n + j = omega arith in rw y at (r.empty (n + j) (omega arith) (omega arith))) in
      rw (le-leb n 32 r.few, le-leb h most_number r.high, le-leb 1 from r.first.0, le-leb from most_number r.first.1, le-leb from (h + 1) r.start, c, e)

-- ---- channels in turn

module _ (a : Arrays) where
  abbrev row : ℕ → Bool
  row i = sound_row (get_or a.from i 0) (get_or a.highest i 0) (get_or a.counts i 0) a.first a.last (i * 32)

  rows_low : (lo i n : ℕ) → sound_rows a lo i n ≡ true → 0 < n → lo ≤ get_or a.numbers i 0
  unfolding sound_rows
  rows_low lo i zero e h = absurd (omega arith)
  rows_low lo i (suc n) e h = leb-true lo (get_or a.numbers i 0) (and_split (leb lo (get_or a.numbers i 0)) _ e).0

  rows_rise : (lo i n j : ℕ) → sound_rows a lo i n ≡ true → suc j < n → get_or a.numbers (i + j) 0 < get_or a.numbers (i + suc j) 0
  unfolding sound_rows
  rows_rise lo i zero j e h = absurd (omega arith)
  rows_rise lo i (suc n) zero e h =
      let z : i + 0 ≡ i = omega arith in
      let y : i + 1 ≡ suc i = omega arith in
      let on = (and_split (row i) _ (and_split (leb lo (get_or a.numbers i 0)) _ e).1).1 in
      rw (z, y) (omega (arith, rows_low (get_or a.numbers i 0 + 1) (suc i) n on (omega arith)))
  rows_rise lo i (suc n) (suc j) e h =
      let z : i + suc j ≡ suc i + j = omega arith in
      let y : i + suc (suc j) ≡ suc i + suc j = omega arith in
      let on = (and_split (row i) _ (and_split (leb lo (get_or a.numbers i 0)) _ e).1).1 in
      rw (z, y) (rows_rise (get_or a.numbers i 0 + 1) (suc i) n j on (omega arith))

  rows_sound :
      (lo i n : ℕ) → (0 < n → lo ≤ get_or a.numbers i 0) → ((j : ℕ) → j < n → row (i + j) ≡ true) →
      ((j : ℕ) → suc j < n → get_or a.numbers (i + j) 0 < get_or a.numbers (i + suc j) 0) → sound_rows a lo i n ≡ true
  unfolding sound_rows
  rows_sound lo i zero low each rise = refl
  rows_sound lo i (suc n) low each rise =
      let z : i + 0 ≡ i = omega arith in
      let y : i + 1 ≡ suc i = omega arith in
      let g : row i ≡ true = rw z at (each 0 (omega arith)) in
      let on =
      rows_sound (get_or a.numbers i 0 + 1) (suc i) n
      (λ k. let v : get_or a.numbers i 0 < get_or a.numbers (suc i) 0 = rw (z, y) at (rise 0 (omega arith)) in omega (arith, v))
      (λ j k. let x : i + suc j ≡ suc i + j = omega arith in rw x at (each (suc j) (omega arith)))
      (λ j k.
      let x : i + suc j ≡ suc i + j = omega arith in
      let w : i + suc (suc j) ≡ suc i + suc j = omega arith in
      rw (x, w) at (rise (suc j) (omega arith))) in
      rw (le-leb lo (get_or a.numbers i 0) (low (omega arith)), g, on)

module _ (es : List ℕ) where
  marks_all : (i n : ℕ) → ((j : ℕ) → j < n → get_or es (i + j) 0 ≤ 1) → marks es i n ≡ true
  unfolding marks
  marks_all i zero h = refl
  marks_all i (suc n) h =
      let z : i + 0 ≡ i = omega arith in
      let a : get_or es i 0 ≤ 1 = rw z at (h 0 (omega arith)) in
      let on = marks_all (suc i) n (λ j k. let y : i + suc j ≡ suc i + j = omega arith in rw y at (h (suc j) (omega arith))) in
      rw (le-leb (get_or es i 0) 1 a, on)

module _ (a : Arrays) where
  abbrev Zero : ℕ → Type 0
  Zero i = (get_or a.numbers i 0 ≡ 0) × (get_or a.from i 0 ≡ 0) × (get_or a.highest i 0 ≡ 0) × (get_or a.ended i 0 ≡ 0) × (get_or a.counts i 0 ≡ 0)

  blank-at : (i n j : ℕ) → blank a i n ≡ true → j < n → Zero (i + j)
  unfolding blank
  blank-at i zero j e h = absurd (omega arith)
  blank-at i (suc n) zero e h =
      let z : i + 0 ≡ i = omega arith in
      let p = and_split (eqb (get_or a.numbers i 0) 0) _ e in
      let o = and_split (eqb (get_or a.from i 0) 0) _ p.1 in
      let q = and_split (eqb (get_or a.highest i 0) 0) _ o.1 in
      let r = and_split (eqb (get_or a.ended i 0) 0) _ q.1 in
      let s = and_split (eqb (get_or a.counts i 0) 0) _ r.1 in
      rw z (eqb-true (get_or a.numbers i 0) 0 p.0, eqb-true (get_or a.from i 0) 0 o.0, eqb-true (get_or a.highest i 0) 0 q.0, eqb-true (get_or a.ended i 0) 0 r.0, eqb-true (get_or a.counts i 0) 0 s.0)
  blank-at i (suc n) (suc j) e h =
      let z : i + suc j ≡ suc i + j = omega arith in
      let p = and_split (eqb (get_or a.numbers i 0) 0) _ e in
      let o = and_split (eqb (get_or a.from i 0) 0) _ p.1 in
      let q = and_split (eqb (get_or a.highest i 0) 0) _ o.1 in
      let r = and_split (eqb (get_or a.ended i 0) 0) _ q.1 in
      let s = and_split (eqb (get_or a.counts i 0) 0) _ r.1 in
      rw z (blank-at (suc i) n j s.1 (omega arith))

  blank_all : (i n : ℕ) → ((j : ℕ) → j < n → Zero (i + j)) → blank a i n ≡ true
  unfolding blank
  blank_all i zero h = refl
  blank_all i (suc n) h =
      let z : i + 0 ≡ i = omega arith in
      let g : Zero i = rw z at (h 0 (omega arith)) in
      let on = blank_all (suc i) n (λ j k. let y : i + suc j ≡ suc i + j = omega arith in rw y at (h (suc j) (omega arith))) in
      rw (eq-eqb (get_or a.numbers i 0) 0 g.0, eq-eqb (get_or a.from i 0) 0 g.1, eq-eqb (get_or a.highest i 0) 0 g.2, eq-eqb (get_or a.ended i 0) 0 g.3, eq-eqb (get_or a.counts i 0) 0 g.4, on)

-- ---- the tracker

module _ (t : Tracker) where
  pub keeps_yes : well_formed t ≡ true → Keeps t
  unfolding well_formed sound sound_channels unused
  keeps_yes e =
      let p = and_split (not (eqb t.count 0)) _ e in
      let q = and_split (leb t.count 8) _ p.1 in
      let s = and_split (sound_channels (arrays_of t)) _ q.1 in
      let r = and_split (sound_rows (arrays_of t) 0 0 t.count) _ s.0 in
      let u = and_split (blank (arrays_of t) t.count (8 - t.count)) _ s.1 in
      let few = leb-true t.count 8 q.0 in
      record {
        one = omega (arith, eqb-false t.count 0 (not-true _ p.0));
        eight = few;
        ascending = λ i h.
            (let x : 0 + i ≡ i = omega arith in
            let y : 0 + suc i ≡ suc i = omega arith in
            rw (x, y) at (rows_rise (arrays_of t) 0 0 t.count i r.0 h));
        from = λ i h. (at_row e i h).first;
        highest = λ i h. ((at_row e i h).start, (at_row e i h).high);
        mark = λ i h. (let x : 0 + i ≡ i = omega arith in rw x at (marks-at t.ended 0 8 i r.1 h));
        runs = λ i h. (at_row e i h).few;
        inside = λ i j h k. (at_row e i h).inside j k;
        apart = λ i j h k. (at_row e i h).apart j k;
        unused = λ i h k.
            (let x : t.count + (i - t.count) ≡ i = omega arith in
            rw x at (blank-at (arrays_of t) t.count (8 - t.count) (i - t.count) u.0 (omega arith)));
        empty = λ i j h k m. ⊎_elim (λ g. (at_row e i g).empty j k m) (λ g. behind i j h g m u.1) (lt_or_le i t.count);
      }
    where
      at_row : well_formed t ≡ true → (i : ℕ) → i < t.count → Row (get_or t.from i 0) (get_or t.highest i 0) (get_or t.counts i 0) t.first t.last (i * 32)
      at_row e i h = row_keeps (get_or t.from i 0) (get_or t.highest i 0) (get_or t.counts i 0) t.first t.last (i * 32) (well_row t e i h).row

      behind : (i j : ℕ) → i < 8 → t.count ≤ i → j < 32 → all_zero (span t.first t.last (t.count * 32) (256 - t.count * 32)) ≡ true → (first_of t i j ≡ 0) × (last_of t i j ≡ 0)
      behind i j h g m z =
          let x : t.count * 32 + (i * 32 + j - t.count * 32) ≡ i * 32 + j = omega arith in
          rw x at (zero-at t.first t.last (t.count * 32) (256 - t.count * 32) (i * 32 + j - t.count * 32) z (omega arith))

  pub keeps_sound : Keeps t → well_formed t ≡ true
  unfolding well_formed sound sound_channels unused
  keeps_sound k =
      let some = k.one in
      let few = k.eight in
      let a =
      rows_sound (arrays_of t) 0 0 t.count (λ h. zero-le)
      (λ j h. let x : 0 + j ≡ j = omega arith in rw x (the_row j h))
      (λ j h.
      let x : 0 + j ≡ j = omega arith in
      let y : 0 + suc j ≡ suc j = omega arith in
      rw (x, y) (k.ascending j h)) in
      let b = marks_all t.ended 0 8 (λ j h. let x : 0 + j ≡ j = omega arith in rw x (k.mark j h)) in
      let c = blank_all (arrays_of t) t.count (8 - t.count) (λ j h. k.unused (t.count + j) (omega arith) (omega arith)) in
      let d = all_zero_lem t.first t.last (t.count * 32) (256 - t.count * 32) (λ j h. tail j (omega (arith, few))) in
      rw (ne_eqb t.count 0 (λ z. omega (arith, some, z)), le-leb t.count 8 few, a, b, c, d)
    where
      the_row : (i : ℕ) → i < t.count → sound_row (get_or t.from i 0) (get_or t.highest i 0) (get_or t.counts i 0) t.first t.last (i * 32) ≡ true
      the_row i h =
          row-sound (get_or t.from i 0) (get_or t.highest i 0) (get_or t.counts i 0) t.first t.last (i * 32)
          (record {
            few = k.runs i h;
            high = (k.highest i h).1;
            first = k.from i h;
            start = (k.highest i h).0;
            inside = λ j g. k.inside i j h g;
            apart = λ j g. k.apart i j h g;
            empty = λ j g m. k.empty i j (omega (arith, k.eight)) g m;
          })

      -- a place behind the last channel's row is place j of row i
      tail : (p : ℕ) → t.count * 32 + p < 256 → (get_or t.first (t.count * 32 + p) 0 ≡ 0) × (get_or t.last (t.count * 32 + p) 0 ≡ 0)
      tail p h =
          let i = t.count + p / 32 in
          let j = p % 32 in
          let d = div-add-mod' p 32 in
          let w : 0 < 32 = lit< tt in
          let m = mod-lt p w in
          let x : i * 32 + j ≡ t.count * 32 + p = omega (arith, d) in
          let g : i < 8 = omega (arith, d) in
          let z = (k.unused i (omega arith) g).4 in
          rw x at (k.empty i j g (omega (arith, z)) m)
