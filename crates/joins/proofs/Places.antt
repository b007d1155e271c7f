-- Records put in their places, one after the other: what stands behind them, and one more.
use Prim.Native.Nat.{ℕ, zero, suc, ◌+◌, ◌*◌, ◌-◌, ◌≤◌, ◌<◌}
use native.Mathlib.Omega.{arith}
use native.Mathlib.Numerals.{add-one}
use mathlib.Core.Path.{◌≡◌, refl, ap, sym, ◌∙◌, subst}
use mathlib.Core.List.{List, [], ◌∷◌, map}
use lib.ListN.{length, get_or, set, replicate, length-append, length-replicate, length-map}
use lib.Seq.{sets, get_or-set_other}
use Rattle.gaps.specs.declared.Run.{Run}
use Rattle.gaps.specs.Built.{firsts, lasts, padded}
use Rattle.gaps.specs.Channel.{Channel}
use Rattle.seats.specs.Arrays.{Arrays, arrays}
use Rattle.seats.specs.Places.{span}
use Rattle.seats.specs.Channels.{mark, channel_in, put_in}
use Rattle.joins.specs.Join.{put_all}
use Rattle.joins.specs.Meet.{met, met_at, FitsAt, FitsAll, joined_at, joined_all}

-- ---- places behind

-- numbers laid before a place leave it
sets_before : (f : List ℕ) (b : ℕ) (vs : List ℕ) (p : ℕ) → b + length vs ≤ p → get_or (sets f b vs) p 0 ≡ get_or f p 0
sets_before f b [] p h = refl
sets_before f b (v ∷ vs) p h = sets_before (set f b v) (suc b) vs p (omega arith) ∙ get_or-set_other f b p v 0 (λ e. omega (arith, e))

row-length : (g : Run → ℕ) (rs : List Run) → length rs ≤ 32 → length (padded 32 (map g rs)) ≡ 32
row-length g rs h =
    let n = length-map rs g in
    length-append (map g rs) (replicate (32 - length (map g rs)) 0) ∙ rw (length-replicate {A = ℕ} (32 - length (map g rs)) 0, n) (omega arith)

-- two trackers' arrays hold the same from place i on
pub record Rest (a b : Arrays) (i : ℕ) : Type 0 where
  pub from : a.from ≡ b.from
  pub highest : (j : ℕ) → i ≤ j → get_or a.highest j 0 ≡ get_or b.highest j 0
  pub ended : (j : ℕ) → i ≤ j → get_or a.ended j 0 ≡ get_or b.ended j 0
  pub counts : (j : ℕ) → i ≤ j → get_or a.counts j 0 ≡ get_or b.counts j 0
  pub first : (p : ℕ) → i * 32 ≤ p → get_or a.first p 0 ≡ get_or b.first p 0
  pub last : (p : ℕ) → i * 32 ≤ p → get_or a.last p 0 ≡ get_or b.last p 0

put_rest : (a : Arrays) (i : ℕ) (c : Channel) → length c.runs ≤ 32 → Rest (put_in a i c) a (suc i)
put_rest a i c h =
    record {
      from = refl;
      highest = λ j p. get_or-set_other a.highest i j _ 0 (λ e. omega (arith, e));
      ended = λ j p. get_or-set_other a.ended i j _ 0 (λ e. omega (arith, e));
      counts = λ j p. get_or-set_other a.counts i j _ 0 (λ e. omega (arith, e));
      first = λ p q. sets_before a.first (i * 32) (padded 32 (firsts c.runs)) p (omega (arith, row-length (λ (r : Run). r.first) c.runs h));
      last = λ p q. sets_before a.last (i * 32) (padded 32 (lasts c.runs)) p (omega (arith, row-length (λ (r : Run). r.last) c.runs h));
    }

rest_on : {a b c : Arrays} {i j : ℕ} → Rest a b i → Rest b c j → j ≤ i → Rest a c i
rest_on x y h =
    record {
      from = x.from ∙ y.from;
      highest = λ k p. x.highest k p ∙ y.highest k (omega arith);
      ended = λ k p. x.ended k p ∙ y.ended k (omega arith);
      counts = λ k p. x.counts k p ∙ y.counts k (omega arith);
      first = λ k p. x.first k p ∙ y.first k (omega arith);
      last = λ k p. x.last k p ∙ y.last k (omega arith);
    }

-- the first n records leave the places behind them
all_rest : (a : Arrays) (c : ℕ → Channel) (i n : ℕ) → ((j : ℕ) → j < i + n → length (c j).runs ≤ 32) → Rest (put_all a c i n) a (i + n)
unfolding put_all
all_rest a c i zero f =
    record { from = refl; highest = λ j p. refl; ended = λ j p. refl; counts = λ j p. refl; first = λ p q. refl; last = λ p q. refl }
all_rest a c i (suc n) f =
    let e : i + suc n ≡ suc i + n = omega arith in
    rw e (rest_on (all_rest (put_in a i (c i)) c (suc i) n (λ j h. f j (omega arith))) (put_rest a i (c i) (f i (omega arith))) (omega arith))

-- ---- a channel behind

span_same : (f l f' l' : List ℕ) (b n : ℕ) → ((p : ℕ) → b ≤ p → get_or f p 0 ≡ get_or f' p 0) → ((p : ℕ) → b ≤ p → get_or l p 0 ≡ get_or l' p 0) →
    span f l b n ≡ span f' l' b n
unfolding span
span_same f l f' l' b zero p q = refl
span_same f l f' l' b (suc n) p q =
    rw (p b (omega arith), q b (omega arith), span_same f l f' l' (suc b) n (λ k h. p k (omega arith)) (λ k h. q k (omega arith)))

pub rest_channel : {a b : Arrays} {i : ℕ} → Rest a b i → channel_in a i ≡ channel_in b i
rest_channel {a} {b} {i} x =
    let s = span_same a.first a.last b.first b.last (i * 32) (get_or a.counts i 0) x.first x.last in
    rw (s, x.from, x.highest i (omega arith), x.ended i (omega arith), x.counts i (omega arith))

-- ---- one more

-- a channel's numbers laid in the arrays are its record joined
pub laid-joined : (a b : Arrays) (i h e n : ℕ) (f l : List ℕ) → h ≡ (met_at a b i).highest → e ≡ mark (met_at a b i).ended → n ≡ length (met_at a b i).runs →
    f ≡ sets a.first (i * 32) (padded 32 (firsts (met_at a b i).runs)) → l ≡ sets a.last (i * 32) (padded 32 (lasts (met_at a b i).runs)) →
    arrays a.count a.numbers a.from (set a.highest i h) (set a.ended i e) (set a.counts i n) f l ≡ joined_at i a b
laid-joined a b i h e n f l p q r s t = rw (p, q, r, s, t)

put_last : (a : Arrays) (c : ℕ → Channel) (i n : ℕ) → put_all a c i (suc n) ≡ put_in (put_all a c i n) (i + n) (c (i + n))
unfolding put_all
put_last a c i zero = let e : i + 0 ≡ i = omega arith in rw e
put_last a c i (suc n) = let e : i + suc n ≡ suc i + n = omega arith in rw e (put_last (put_in a i (c i)) c (suc i) n)

module _ (a b : Arrays) (i : ℕ) (f : (j : ℕ) → j < i → length (met_at a b j).runs ≤ 32) where
  pub joined_rest : Rest (joined_all i a b) a i
  joined_rest = let e : 0 + i ≡ i = omega arith in rw e at (all_rest a (met_at a b) 0 i (λ j h. f j (omega arith)))

  pub joined-more : {c d : Arrays} → c ≡ joined_all i a b → d ≡ joined_at i c b → d ≡ joined_all (i + 1) a b
  joined-more p q =
      let e : 0 + i ≡ i = omega arith in
      let l : put_all a (met_at a b) 0 (suc i) ≡ put_in (joined_all i a b) i (met_at a b i) = rw e at (put_last a (met_at a b) 0 i) in
      q ∙ ap (λ (c : Arrays). joined_at i c b) p ∙ ap (λ (c : Channel). put_in (joined_all i a b) i (met c (channel_in b i))) (rest_channel joined_rest) ∙ sym l ∙ ap (λ (n : ℕ). joined_all n a b) (sym (add-one i))

-- the next channel fits as it did at first
pub joined_fits : {a b c : Arrays} {i : ℕ} → c ≡ joined_all i a b → FitsAll a b (i + 1) → FitsAt c b i
joined_fits {a} {b} {c} {i} q fits =
    let x = joined_rest a b i (λ j p. (fits j (omega arith)).room) in
    let k = fits i (omega arith) in
    let same = subst (λ (y : Arrays). Rest y a i) (sym q) x in
    record {
      place = k.place;
      count = rw (same.counts i (omega arith)) k.count;
      other_count = k.other_count;
      room = subst (λ (d : Channel). length (met d (channel_in b i)).runs ≤ 32) (sym (rest_channel same)) k.room;
      zero = rw (same.counts i (omega arith), span_same c.first c.last a.first a.last (i * 32 + get_or a.counts i 0) (32 - get_or a.counts i 0) (λ p z. same.first p (omega arith)) (λ p z. same.last p (omega arith))) k.zero;
    }
