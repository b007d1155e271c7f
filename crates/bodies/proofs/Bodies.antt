-- A body that is made of numbers, texts and groups reads back as these; a body that is read is made of what was read.
-- Assumes nothing.
use Prim.Native.Nat.{ℕ, ◌+◌, ◌-◌, ◌≤◌}
use mathlib.Core.Path.{◌≡◌, ap, sym, ◌∙◌}
use mathlib.Core.Bool.{true, false, ◌&&◌}
use mathlib.Core.List.{List, [], ◌++◌}
use native.Mathlib.Omega.{arith}
use borrow.Author.Tests.{le-leb, leb-true, eq-eqb, eqb-true}
use lib.Dec.{leb, eqb, lit≤}
use lib.IntN.{ℤ}
use lib.ListN.{length, drop, length-append, length-drop, take-append-drop}
use lib.Seq.{take_all, drop_at}
use Rattle.wire.specs.Answer.{accepted, guard}
use Rattle.wire.specs.Bytes.{Bytes}
use Rattle.layout.specs.Layout.{Message, heartbeat, channel_heartbeat, resend, statistics, security_status, snapshot, index, volume_index, order, trade, fields, size, values, texts}
use Rattle.layout.specs.Group.{group_offset, fit, group_ranges, group, groups_start, count, whole, in_range, judge_body, even}
use Rattle.layout.proofs.Walk.{and_both, good}
use Rattle.record.specs.Record.{groups_as}
use Rattle.bodies.specs.Body.{Numbers, encode, body, body_length, text_size, stated, exact, numbers_in, all_in}
use Rattle.bodies.proofs.Round.{round, length-encode, again}
use Rattle.bodies.proofs.Numbers.{count_back, numbers-read, texts-read}
use Rattle.bodies.proofs.Shift.{Counts, fit_shift, offset_shift, group_ranges_shift}

-- ---- which groups show quantities

never : {n : ℕ} → false ≡ true → 4 ≤ n
never e = let z : ◌≡◌ {A = ℕ} 0 1 = cc in absurd (omega arith)

counts : (m : Message) → Counts (group m)
unfolding size
counts heartbeat = never
counts channel_heartbeat = never
counts resend = never
counts statistics = never
counts security_status = never
counts snapshot = λ e. lit≤ tt
counts index = never
counts volume_index = never
counts order = never
counts trade = never

-- ---- what is written reads back

-- bytes b are judged and read as numbers, texts and groups are
pub record Same (m : Message) (zs : List ℤ) (ts gs b : List ℕ) : Type 0 where
  pub long : length b ≡ body_length m gs
  pub counted : count m b ≡ stated m zs
  pub there : whole m b ≡ fit (group m) gs 0 (stated m zs)
  pub inside : in_range m b ≡ all_in m zs gs
  pub ends : group_offset (group m) b (groups_start m) (count m b) ≡ groups_start m + group_offset (group m) gs 0 (stated m zs)
  pub numbers : values (fields m) b 0 ≡ zs
  pub wording : texts (fields m) b 0 ≡ ts
  pub behind : drop (groups_start m) b ≡ gs

pub same : (m : Message) {zs : List ℤ} (ts gs : List ℕ) → Numbers (fields m) zs → length ts ≡ text_size (fields m) → Same m zs ts gs (body m zs ts gs)
unfolding body
same m {zs} ts gs g h =
    let a : List ℕ = encode (fields m) zs ts in
    let n : length a ≡ groups_start m = length-encode (fields m) zs ts h in
    let p : groups_start m ≡ length a + 0 = omega arith in
    let r = round ts [] gs g h in
    let k : ℕ = stated m zs in
    let e : count m (a ++ gs) ≡ k = count_back ts gs m g h in
    let l : length (a ++ gs) ≡ groups_start m + length gs = length-append a gs ∙ rw n in
    record {
      long = l;
      counted = e;
      there = rw (e, le-leb (groups_start m) (length (a ++ gs)) (omega arith)) (ap (λ (x : ℕ). fit (group m) (a ++ gs) x k) p ∙ fit_shift a gs (group m) (counts m) 0 k);
      inside = rw (e, r.inside) (ap (λ (x : ℕ). numbers_in (fields m) zs && group_ranges (group m) (a ++ gs) x k) p ∙ rw (group_ranges_shift a gs (group m) (counts m) 0 k));
      ends = rw e (ap (λ (x : ℕ). group_offset (group m) (a ++ gs) x k) p ∙ offset_shift a gs (group m) (counts m) 0 k ∙ rw n);
      numbers = r.numbers;
      wording = r.wording;
      behind = drop_at a gs (groups_start m) n;
    }

-- what exact texts and groups say
pub record Exact (m : Message) (zs : List ℤ) (ts gs : List ℕ) : Type 0 where
  pub texts : length ts ≡ text_size (fields m)
  pub fits : fit (group m) gs 0 (stated m zs) ≡ true
  pub ends : group_offset (group m) gs 0 (stated m zs) ≡ length gs

pub exactly : (m : Message) (zs : List ℤ) (ts gs : List ℕ) → exact m zs ts gs ≡ true → Exact m zs ts gs
unfolding even
exactly m zs ts gs e =
    let a = and_both (eqb (length ts) (text_size (fields m))) _ e in
    let b = and_both (fit (group m) gs 0 (stated m zs)) _ a.1 in
    record { texts = eqb-true _ _ a.0; fits = b.0; ends = eqb-true _ _ b.1 }

pub is-exact : (m : Message) (zs : List ℤ) (ts gs : List ℕ) → Exact m zs ts gs → exact m zs ts gs ≡ true
unfolding even
is-exact m zs ts gs x = rw (eq-eqb _ _ x.texts, x.fits, eq-eqb _ _ x.ends)

-- a body whose parts are exact and in range is accepted, and its groups are those that were lent
pub record Read (m : Message) (zs : List ℤ) (ts gs b : List ℕ) : Type 0 where
  pub accepts : judge_body m b ≡ accepted tt
  pub numbers : values (fields m) b 0 ≡ zs
  pub wording : texts (fields m) b 0 ≡ ts
  pub groups : groups_as m b ≡ gs

pub reads : (m : Message) {zs : List ℤ} (ts gs : List ℕ) → Numbers (fields m) zs → exact m zs ts gs ≡ true → all_in m zs gs ≡ true → Read m zs ts gs (body m zs ts gs)
unfolding judge_body groups_as guard
reads m {zs} ts gs g e i =
    let b : List ℕ = body m zs ts gs in
    let x = exactly m zs ts gs e in
    let s = same m ts gs g x.texts in
    let j : judge_body m b ≡ accepted tt = rw (s.there, s.inside, x.fits, i) in
    let p : group_offset (group m) b (groups_start m) (count m b) - groups_start m ≡ length gs = rw (s.ends, x.ends) (omega arith) in
    record {
      accepts = j;
      numbers = s.numbers;
      wording = s.wording;
      groups = rw (j, p, s.behind) (take_all (length gs) gs (omega arith));
    }

-- ---- what is read and written again is the same bytes

-- an accepted body without a tail is made of what was read
pub record Again (m : Message) (s : List ℕ) : Type 0 where
  pub numbers : Numbers (fields m) (values (fields m) s 0)
  pub made : body m (values (fields m) s 0) (texts (fields m) s 0) (groups_as m s) ≡ s
  pub exacts : exact m (values (fields m) s 0) (texts (fields m) s 0) (groups_as m s) ≡ true
  pub inside : all_in m (values (fields m) s 0) (groups_as m s) ≡ true

pub again_from : (m : Message) (s : List ℕ) → Bytes s → judge_body m s ≡ accepted tt → group_offset (group m) s (groups_start m) (count m s) ≡ length s → Again m s
unfolding judge_body groups_as body
again_from m s b e t =
    let zs : List ℤ = values (fields m) s 0 in
    let ts : List ℕ = texts (fields m) s 0 in
    let gs : List ℕ = drop (groups_start m) s in
    let v = good (whole m s) (in_range m s) e in
    let w = and_both (leb (groups_start m) (length s)) _ v.all in
    let l : groups_start m ≤ length s = leb-true _ _ w.0 in
    let g : groups_as m s ≡ gs = rw (e, t) (take_all (length s - groups_start m) (drop (groups_start m) s) (rw length-drop (omega arith))) in
    let n : Numbers (fields m) zs = numbers-read (fields m) s 0 b (omega arith) in
    let h : length ts ≡ text_size (fields m) = texts-read (fields m) s 0 (omega arith) in
    let p : body m zs ts gs ≡ s =
    ap (λ (x : List ℕ). x ++ gs) (again (fields m) s 0 b (omega arith)) ∙ take-append-drop (groups_start m) s
    in
    let r : Same m zs ts gs s = rw p at (same m ts gs n h) in
    let x : Exact m zs ts gs =
    record { texts = h; fits = sym r.there ∙ v.all; ends = omega (arith, r.ends, r.long, t) }
    in
    record {
      numbers = n;
      made = rw g p;
      exacts = rw g (is-exact m zs ts gs x);
      inside = rw g (sym r.inside ∙ v.each);
    }
