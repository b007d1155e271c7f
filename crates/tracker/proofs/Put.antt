-- A record put back where one place of its row changed, or none.
use Prim.Native.Nat.{ℕ, zero, suc, ◌+◌, ◌*◌, ◌-◌, ◌≤◌, ◌<◌}
use native.Mathlib.Omega.{arith}
use mathlib.Core.Path.{◌≡◌, refl, ap, ◌∙◌}
use mathlib.Core.List.{List, [], ◌∷◌, ◌++◌, map, map-append}
use mathlib.Core.Bool.{Bool, true, false}
use Rattle.std.specs.Int.{from_bool}
use lib.Dec.{leb, eqb}
use lib.ListN.{length, take, get_or, set, replicate, length-append, length-set}
use lib.Seq.{set-get_or}
use borrow.Author.Tests.{leb-true}
use Rattle.gaps.specs.declared.Run.{Run}
use Rattle.gaps.specs.Gaps.{canon}
use Rattle.gaps.specs.Limits.{most_number}
use Rattle.gaps.specs.Channel.{changed}
use Rattle.gaps.specs.Built.{firsts, lasts, padded}
use Rattle.gaps.proofs.Numbers.{and_split}
use Rattle.seats.specs.declared.FieldsMut.{FieldsMut}
use Rattle.seats.specs.Arrays.{Lent, arrays, held_mut}
use Rattle.tracker.specs.declared.Tracker.{Tracker}
use Rattle.seats.specs.Places.{span}
use Rattle.tracker.specs.Places.{mark, channel_at, put}
use Rattle.seats.specs.Rules as rules
use Rattle.seats.specs.Rules.{is_first, sound_row}
use Rattle.tracker.specs.Inside.{SoundAt}
use Rattle.tracker.proofs.Row.{cells, sets_same, sets_set, pad_row, pad_push, pad_set, span-firsts, span-lasts, span-length, span-take, zero_places}

-- ---- what a row within the rules tells

-- n runs from place b on, from some number up to h, and a mark are within the rules
pub record Within (h e n : ℕ) (f l : List ℕ) (b : ℕ) : Type 0 where
  pub mark : e ≤ 1
  pub room : n ≤ 32
  pub high : h ≤ most_number
  pub from : ℕ
  pub order : canon from h (span f l b n) ≡ true
  pub firsts-zero : cells f (b + n) (32 - n) ≡ replicate (32 - n) 0
  pub lasts-zero : cells l (b + n) (32 - n) ≡ replicate (32 - n) 0

pub row_within : (from h e n : ℕ) (f l : List ℕ) (b : ℕ) → e ≤ 1 → sound_row from h n f l b ≡ true → Within h e n f l b
unfolding sound_row
row_within from h e n f l b m s =
    let p = and_split (leb n 32) _ s in
    let q = and_split (leb h most_number) _ p.1 in
    let d = and_split (rules.starts from h) _ q.1 in
    let r = and_split (canon from h (span f l b n)) _ d.1 in
    let z = zero_places f l (b + n) (32 - n) r.1 in
    record { mark = m; room = leb-true n 32 p.0; high = leb-true h most_number q.0; from = from; order = r.0; firsts-zero = z.0; lasts-zero = z.1 }

abbrev pub RowOf : Tracker → ℕ → Type 0
RowOf t i = Within (get_or t.highest i 0) (get_or t.ended i 0) (get_or t.counts i 0) t.first t.last (i * 32)

pub kept_row : {from : ℕ} {h e c f l : List ℕ} {i : ℕ} → SoundAt from h e c f l i → Within (get_or h i 0) (get_or e i 0) (get_or c i 0) f l (i * 32)
kept_row {from} {h} {e} {c} {f} {l} {i} k = row_within from (get_or h i 0) (get_or e i 0) (get_or c i 0) f l (i * 32) k.mark k.row

-- a channel's first number is at most one above its highest
pub starts : {from : ℕ} {h e c f l : List ℕ} {i : ℕ} → SoundAt from h e c f l i → from ≤ get_or h i 0 + 1
unfolding sound_row
starts {from} {h} {e} {c} {f} {l} {i} k =
    let top : ℕ = get_or h i 0 in
    let p = and_split (leb (get_or c i 0) 32) _ k.row in
    let q = and_split (leb top most_number) _ p.1 in
    leb-true from (top + 1) (and_split (is_first from) _ (and_split (rules.starts from top) _ q.1).0).1

-- ---- the ended mark

-- a mark that is read and put back
pub mark-same : (es : List ℕ) (i : ℕ) → get_or es i 0 ≤ 1 → set es i (mark (eqb (get_or es i 0) 1)) ≡ es
mark-same es i h = rw (go (get_or es i 0) h) (set-get_or es i 0)
  where
    go : (n : ℕ) → n ≤ 1 → mark (eqb n 1) ≡ n
    go zero h = refl
    go (suc zero) h = refl
    go (suc (suc n)) h = absurd (omega arith)

-- ---- one place of the row

-- the tracker with other fields for channel i, and another run at place p
abbrev pub mended : Tracker → ℕ → ℕ → Bool → ℕ → ℕ → Run → Tracker
mended t i highest ended count p x =
    record {
      count = t.count;
      numbers = t.numbers;
      from = t.from;
      highest = set t.highest i highest;
      ended = set t.ended i (mark ended);
      counts = set t.counts i count;
      first = set t.first p x.first;
      last = set t.last p x.last;
    }

put_one : (t : Tracker) (i h : ℕ) (e : Bool) (l : List Run) (j : ℕ) (x : Run) → j < 32 →
    padded 32 (firsts l) ≡ set (cells t.first (i * 32) 32) j x.first →
    padded 32 (lasts l) ≡ set (cells t.last (i * 32) 32) j x.last →
    put t i (changed (channel_at t i) h e l) ≡ mended t i h e (length l) (i * 32 + j) x
unfolding put
put_one t i h e l j x m p q = rw (p, q, sets_set t.first (i * 32) 32 j x.first m, sets_set t.last (i * 32) 32 j x.last m)

pub zeros-later : (f : List ℕ) (b k m : ℕ) → m ≤ k → cells f b k ≡ replicate k 0 → cells f (b + m) (k - m) ≡ replicate (k - m) 0
zeros-later f b k zero h z = let e : b + 0 ≡ b = omega arith in let d : k - 0 ≡ k = omega arith in rw (e, d) z
zeros-later f b zero (suc m) h z = absurd (omega arith)
zeros-later f b (suc k) (suc m) h z =
    let e : b + suc m ≡ suc b + m = omega arith in
    let d : suc k - suc m ≡ k - m = omega arith in
    rw (e, d) (zeros-later f (suc b) k m (omega arith) (cc))

-- the first j runs, and then another
module _ (f : List ℕ) (b n j : ℕ) (s : j ≤ n) (r : n ≤ j + 1) (m : j < 32) (z : cells f (b + n) (32 - n) ≡ replicate (32 - n) 0) where
  pushed_row : (v : ℕ) → padded 32 (cells f b j ++ (v ∷ [])) ≡ set (cells f b 32) j v
  pushed_row v =
      let d : b + n + (j + 1 - n) ≡ b + (j + 1) = omega arith in
      let e : 32 - n - (j + 1 - n) ≡ 32 - (j + 1) = omega arith in
      pad_push f b j 32 v m (rw (d, e) at (zeros-later f (b + n) (32 - n) (j + 1 - n) (omega arith) z))

module _ (t : Tracker) (i : ℕ) (w : RowOf t i) where
  pub put-pushed : (h : ℕ) (e : Bool) (j : ℕ) (x : Run) → j ≤ get_or t.counts i 0 → get_or t.counts i 0 ≤ j + 1 → j < 32 →
      put t i (changed (channel_at t i) h e (take j (channel_at t i).runs ++ (x ∷ []))) ≡ mended t i h e (j + 1) (i * 32 + j) x
  put-pushed h e j x s r m =
      let f = t.first in
      let l = t.last in
      let n = get_or t.counts i 0 in
      let k = span-take f l (i * 32) j n s in
      let c : length (take j (channel_at t i).runs ++ (x ∷ [])) ≡ j + 1 = length-append (take j (channel_at t i).runs) (x ∷ []) ∙ ap (λ (a : ℕ). a + 1) (ap length k ∙ span-length f l (i * 32) j) in
      let p = pushed_row f (i * 32) n j s r m w.firsts-zero x.first in
      let q = pushed_row l (i * 32) n j s r m w.lasts-zero x.last in
      put_one t i h e (take j (channel_at t i).runs ++ (x ∷ [])) j x m
      (rw (k, map-append (λ (y : Run). y.first) (span f l (i * 32) j) (x ∷ []), span-firsts f l (i * 32) j) p)
      (rw (k, map-append (λ (y : Run). y.last) (span f l (i * 32) j) (x ∷ []), span-lasts f l (i * 32) j) q)
      ∙ ap (λ (a : ℕ). mended t i h e a (i * 32 + j) x) c

  pub put-set : (h : ℕ) (e : Bool) (j : ℕ) (x : Run) → j < get_or t.counts i 0 →
      put t i (changed (channel_at t i) h e (set (channel_at t i).runs j x)) ≡ mended t i h e (get_or t.counts i 0) (i * 32 + j) x
  put-set h e j x s =
      let f = t.first in
      let l = t.last in
      let n = get_or t.counts i 0 in
      let p = pad_set f (i * 32) n 32 j x.first w.room s w.firsts-zero in
      let q = pad_set l (i * 32) n 32 j x.last w.room s w.lasts-zero in
      put_one t i h e (set (channel_at t i).runs j x) j x (omega (arith, w.room))
      (rw (map-set (λ (y : Run). y.first) (span f l (i * 32) n) j x, span-firsts f l (i * 32) n) p)
      (rw (map-set (λ (y : Run). y.last) (span f l (i * 32) n) j x, span-lasts f l (i * 32) n) q)
      ∙ ap (λ (a : ℕ). mended t i h e a (i * 32 + j) x) (length-set (channel_at t i).runs j x ∙ span-length f l (i * 32) n)
    where
      map-set : (f : Run → ℕ) (l : List Run) (j : ℕ) (x : Run) → map f (set l j x) ≡ set (map f l) j (f x)
      map-set f [] j x = refl
      map-set f (r ∷ l) zero x = refl
      map-set f (r ∷ l) (suc j) x = rw (map-set f l j x)

  -- the same runs, with another highest and mark
  pub put-runs : (h : ℕ) (e : Bool) → put t i (changed (channel_at t i) h e (channel_at t i).runs) ≡
      record {
        count = t.count;
        numbers = t.numbers;
        from = t.from;
        highest = set t.highest i h;
        ended = set t.ended i (mark e);
        counts = t.counts;
        first = t.first;
        last = t.last;
      }
  unfolding put
  put-runs h e =
      let f = t.first in
      let l = t.last in
      let n = get_or t.counts i 0 in
      rw (
        span-length f l (i * 32) n,
        span-firsts f l (i * 32) n,
        span-lasts f l (i * 32) n,
        pad_row f (i * 32) n 32 w.room w.firsts-zero,
        pad_row l (i * 32) n 32 w.room w.lasts-zero,
        sets_same f (i * 32) 32,
        sets_same l (i * 32) 32,
        set-get_or t.counts i 0,
      )

  pub put_same : put t i (channel_at t i) ≡ t
  put_same = put-runs (get_or t.highest i 0) (channel_at t i).ended ∙ rw (set-get_or t.highest i 0, mark-same t.ended i w.mark)

-- a mark as the library turns it into a number
pub byte : (e : Bool) → from_bool e ≡ mark e
byte true = refl
byte false = refl

-- ---- lent fields

-- a tracker with the channels that its fields had, which are the same
pub kept_channels : (n : ℕ) (numbers from : Lent) (g : FieldsMut) → (g.count ≡ n) × (g.numbers ≡ numbers) × (g.from ≡ from) →
    arrays n numbers.now from.now g.highest.now g.ended.now g.counts.now g.first.now g.last.now ≡ held_mut g
kept_channels n numbers from g e = rw (← e.0, ← e.1, ← e.2)
