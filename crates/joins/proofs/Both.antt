-- The refusals of a join in their order, and the walk's records as those of both histories.
use Prim.Native.Nat.{ℕ, zero, suc, ◌+◌, ◌≤◌, ◌<◌}
use native.Mathlib.Omega.{arith}
use mathlib.Core.Path.{◌≡◌, refl, ap, sym, ◌∙◌}
use mathlib.Core.List.{List, []}
use mathlib.Core.Bool.{Bool, true, false, cond, ◌&&◌}
use Rattle.wire.specs.Answer.{accepted, refused, guard}
use Rattle.wire.specs.Refusal.{table_full, malformed, set_ups_differ}
use Rattle.gaps.specs.declared.Run.{Run}
use Rattle.gaps.specs.Channel.{Channel}
use Rattle.gaps.specs.Record.{record_of}
use Rattle.seats.specs.Arrays.{Arrays}
use Rattle.seats.specs.Channels.{put_in}
use Rattle.seats.specs.Rules.{sound}
use Rattle.seats.proofs.Heads.{sound-count, sound_kept, sound-least}
use Rattle.joins.specs.Join.{Histories, Holds, both, same_set_up, overfull, put_all, Outcome, join, JoinVerdict, answered}
use Rattle.joins.specs.declared.Refusal.{Refusal}
use Rattle.joins.specs.declared.Refusal.TheVariants.{TableFull, Malformed, SetUpsDiffer}
use Rattle.std.specs.Prelude.{Ok, Err}
use Rattle.joins.specs.Meet.{met_at, met_runs, CountsIn, FitsAll, joined_all, judged}
use Rattle.joins.proofs.Meets.{met_record}
use Rattle.joins.proofs.Pass.{one-count, one_head, over_none}

-- ---- one record for another

over-same : (f g : ℕ → List Run) (i n : ℕ) → ((j : ℕ) → j < i + n → f j ≡ g j) → overfull f i n ≡ overfull g i n
unfolding overfull
over-same f g i zero e = refl
over-same f g i (suc n) e = rw (e i (omega arith), over-same f g (suc i) n (λ j h. e j (omega arith)))

all_same : (a : Arrays) (c d : ℕ → Channel) (i n : ℕ) → ((j : ℕ) → j < i + n → c j ≡ d j) → put_all a c i n ≡ put_all a d i n
unfolding put_all
all_same a c d i zero e = refl
all_same a c d i (suc n) e = rw (e i (omega arith)) (all_same (put_in a i (d i)) c d (suc i) n (λ j h. e j (omega arith)))

-- ---- two sound trackers of one set-up

pub record Agreed (a b : Arrays) : Type 0 where
  pub mine : sound a ≡ true
  pub other : sound b ≡ true
  pub same : same_set_up a b ≡ true

-- what the passes ask for
module _ {a b : Arrays} (k : Agreed a b) where
  pub counts_in : (a.count ≤ 8) × CountsIn a.counts a.count × CountsIn b.counts a.count
  counts_in = (sound-count a k.mine, λ i h. (sound_kept a k.mine i h).room, λ i h. (sound_kept b k.other i (omega (arith, one-count a b k.same))).room)

  pub fits_all : overfull (met_runs a b) 0 a.count ≡ false → FitsAll a b a.count
  fits_all f i h =
      record {
        place = omega (arith, counts_in.0);
        count = counts_in.1 i h;
        other_count = counts_in.2 i h;
        room = over_none (met_runs a b) a.count i f h;
        zero = (sound_kept a k.mine i h).zero;
      }

-- ---- the refusals in their order

abbrev pub refused_by : Arrays → ℕ → Outcome
refused_by a n = record { said = refused n []; next = a }

module _ (a b : Arrays) (g h : Histories) where
  pub join_10 : sound a ≡ false → refused_by a malformed ≡ join a b g h
  unfolding join guard
  join_10 p = rw p

  pub join_10_other : sound a ≡ true → sound b ≡ false → refused_by a malformed ≡ join a b g h
  unfolding join guard
  join_10_other p q = rw (p, q)

  pub join_11 : sound a ≡ true → sound b ≡ true → same_set_up a b ≡ false → refused_by a set_ups_differ ≡ join a b g h
  unfolding join guard
  join_11 p q s = rw (p, q, s)

-- ---- the records of both histories

module _ {a b : Arrays} (k : Agreed a b) (g h : Histories) (x : Holds a g) (y : Holds b h) where
  met-both : (i : ℕ) → i < 0 + a.count → met_at a b i ≡ both a g h i
  met-both i e =
      let m : i < a.count = omega arith in
      met_record (g i) (h i) (sound-least a k.mine i m) (x k.mine i m)
      (y k.other i (omega (arith, one-count a b k.same)) ∙ ap (λ (n : ℕ). record_of n (h i)) (sym (one_head a b k.same i (omega (arith, sound-count a k.mine))).1))

  same_runs : overfull (met_runs a b) 0 a.count ≡ overfull (λ (i : ℕ). (both a g h i).runs) 0 a.count
  same_runs = over-same (met_runs a b) (λ (i : ℕ). (both a g h i).runs) 0 a.count (λ i e. ap (λ (c : Channel). c.runs) (met-both i e))

  pub join_9 : overfull (met_runs a b) 0 a.count ≡ true → refused_by a table_full ≡ join a b g h
  unfolding join guard
  join_9 f = rw (k.mine, k.other, k.same, sym same_runs ∙ f)

  pub join-joined : overfull (met_runs a b) 0 a.count ≡ false → record { said = accepted tt; next = joined_all a.count a b } ≡ join a b g h
  unfolding join guard
  join-joined f = rw (k.mine, k.other, k.same, sym same_runs ∙ f) (ap joined (all_same a (met_at a b) (both a g h) 0 a.count met-both))
    where
      joined : Arrays → Outcome
      joined c = record { said = accepted tt; next = c }

-- ---- the answer by the tests in their order

-- a refusal: the first tracker as it stood
pub refusal-judged : (a b : Arrays) (g h : Histories) → Holds a g → Holds b h → (v : JoinVerdict) (why : Refusal) → v ≡ Err why → v ≡ judged a b → answered v a ≡ join a b g h
unfolding judged
refusal-judged a b g h x y v why z e = go (sound a) refl (sound b) refl (same_set_up a b) refl (overfull (met_runs a b) 0 a.count) refl e
  where
    err_ok : ◌≡◌ {A = JoinVerdict} (Err why) (Ok tt) → ⊥
    err_ok e = cc

    go : (p : Bool) → sound a ≡ p → (q : Bool) → sound b ≡ q → (s : Bool) → same_set_up a b ≡ s → (f : Bool) → overfull (met_runs a b) 0 a.count ≡ f →
        v ≡ cond (p && q) (cond s (cond f (Err TableFull) (Ok tt)) (Err SetUpsDiffer)) (Err Malformed) → answered v a ≡ join a b g h
    go false p q d s i f j e = rw e (join_10 a b g h p)
    go true p false q s i f j e = rw e (join_10_other a b g h p q)
    go true p true q false s f j e = rw e (join_11 a b g h p q s)
    go true p true q true s true f e = rw e (join_9 (record { mine = p; other = q; same = s }) g h x y f)
    go true p true q true s false f e = absurd (err_ok (sym z ∙ e))

-- no refusal: two sound trackers of one set-up, whose runs have room
pub ok-judged : (a b : Arrays) (x : Unit) → judged a b ≡ Ok x → Agreed a b × (overfull (met_runs a b) 0 a.count ≡ false)
unfolding judged
ok-judged a b x e = go (sound a) refl (sound b) refl (same_set_up a b) refl (overfull (met_runs a b) 0 a.count) refl e
  where
    err_ok : (why : Refusal) → ◌≡◌ {A = JoinVerdict} (Err why) (Ok x) → ⊥
    err_ok why e = cc

    go : (p : Bool) → sound a ≡ p → (q : Bool) → sound b ≡ q → (s : Bool) → same_set_up a b ≡ s → (f : Bool) → overfull (met_runs a b) 0 a.count ≡ f →
        cond (p && q) (cond s (cond f (Err TableFull) (Ok tt)) (Err SetUpsDiffer)) (Err Malformed) ≡ Ok x → Agreed a b × (overfull (met_runs a b) 0 a.count ≡ false)
    go false p q d s i f j e = absurd (err_ok Malformed e)
    go true p false q s i f j e = absurd (err_ok Malformed e)
    go true p true q false s f j e = absurd (err_ok SetUpsDiffer e)
    go true p true q true s true f e = absurd (err_ok TableFull e)
    go true p true q true s false f e = (record { mine = p; other = q; same = s }, f)
