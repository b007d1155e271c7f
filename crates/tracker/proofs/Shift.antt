-- A record put back where a run's place is closed up, or one is opened.
-- Assumes nothing.
use Prim.Native.Nat.{ℕ, zero, suc, ◌+◌, ◌*◌, ◌-◌, ◌≤◌, ◌<◌}
use native.Mathlib.Omega.{arith}
use mathlib.Core.Path.{◌≡◌, refl, ap, sym, ◌∙◌}
use mathlib.Core.List.{List, [], ◌∷◌, ◌++◌, append_assoc, map-append}
use mathlib.Core.Bool.{Bool}
use lib.ListN.{length, take, drop, get_or, set, replicate, length-append}
use lib.Seq.{sets}
use Rattle.gaps.specs.declared.Run.{Run}
use Rattle.gaps.specs.Gaps.{run}
use Rattle.gaps.specs.Channel.{changed}
use Rattle.gaps.specs.Built.{firsts, lasts, padded}
use Rattle.seats.specs.Places.{span}
use Rattle.rows.specs.Shift.{closing, opening, closed, opened}
use Rattle.rows.proofs.Shift.{yes_places, closed-there, opened-there}
use Rattle.tracker.specs.declared.Tracker.{Tracker}
use Rattle.tracker.specs.Places.{mark, channel_at, put}
use Rattle.tracker.specs.Inside.{shut, cleft}
use Rattle.tracker.proofs.Row.{cells, cells_length, cells_add, cells_before, sets_same, span-firsts, span-lasts, span-length, span-take}
use Rattle.tracker.proofs.Put.{RowOf, zeros-later}

-- ---- numbers moved by one place are numbers laid

closing_sets : (f : List ℕ) (p n : ℕ) → closing f p n ≡ sets f p (cells f (suc p) n ++ (0 ∷ []))
unfolding closing
closing_sets f p zero = refl
closing_sets f p (suc n) =
    closing_sets (set f p (get_or f (suc p) 0)) (suc p) n
    ∙ rw (cells_before f p (get_or f (suc p) 0) (suc (suc p)) n (omega arith))

opening_sets : (f : List ℕ) (p v n : ℕ) → opening f p v n ≡ sets f p (v ∷ cells f p n)
unfolding opening
opening_sets f p v zero = refl
opening_sets f p v (suc n) =
    opening_sets (set f p v) (suc p) (get_or f p 0) n
    ∙ rw (cells_before f p v (suc p) n (omega arith))

-- ---- numbers laid into a row, behind its first ones and before its zeros

sets_append : (f : List ℕ) (b : ℕ) (xs ys : List ℕ) → sets f b (xs ++ ys) ≡ sets (sets f b xs) (b + length xs) ys
sets_append f b [] ys = let e : b + 0 ≡ b = omega arith in rw e
sets_append f b (x ∷ xs) ys =
    let e : b + suc (length xs) ≡ suc b + length xs = omega arith in
    rw e (sets_append (set f b x) (suc b) xs ys)

cells_behind : (f : List ℕ) (b : ℕ) (xs : List ℕ) (r : ℕ) → cells (sets f b xs) (b + length xs) r ≡ cells f (b + length xs) r
cells_behind f b [] r = refl
cells_behind f b (x ∷ xs) r =
    let e : b + suc (length xs) ≡ suc b + length xs = omega arith in
    rw e (cells_behind (set f b x) (suc b) xs r ∙ cells_before f b x (suc b + length xs) r (omega arith))

row_sets : (f : List ℕ) (b j m : ℕ) (xs : List ℕ) → j + length xs ≡ m → cells f (b + m) (32 - m) ≡ replicate (32 - m) 0 →
    sets f b (padded 32 (cells f b j ++ xs)) ≡ sets f (b + j) xs
row_sets f b j m xs e z =
    let n : length (cells f b j ++ xs) ≡ m = length-append (cells f b j) xs ∙ rw (cells_length f b j) e in
    let d : b + j + length xs ≡ b + m = omega arith in
    let g = sets f (b + j) xs in
    let front : sets f b (cells f b j ++ xs) ≡ g = sets_append f b (cells f b j) xs ∙ rw (sets_same f b j, cells_length f b j) in
    let back : cells g (b + m) (32 - m) ≡ replicate (32 - m) 0 = (rw d at (cells_behind f (b + j) xs (32 - m))) ∙ z in
    sets_append f b (cells f b j ++ xs) (replicate (32 - length (cells f b j ++ xs)) 0)
    ∙ rw (n, front) (ap (sets g (b + m)) (sym back) ∙ sets_same g (b + m) (32 - m))

-- one zero more behind a list is padding
padded-zero : (k : ℕ) (l : List ℕ) → length l < k → padded k (l ++ (0 ∷ [])) ≡ padded k l
padded-zero k l h =
    let e : k - length l ≡ suc (k - (length l + 1)) = omega arith in
    let n : length (l ++ (0 ∷ [])) ≡ length l + 1 = length-append l (0 ∷ []) in
    rw (n, e, append_assoc)

module _ (f : List ℕ) (b n : ℕ) (z : cells f (b + n) (32 - n) ≡ replicate (32 - n) 0) where
  row-closed : (j : ℕ) → j < n → n ≤ 32 → sets f b (padded 32 (cells f b j ++ cells f (b + suc j) (n - suc j))) ≡ closing f (b + j) (n - 1 - j)
  row-closed j h k =
      let e : b + suc j ≡ suc (b + j) = omega arith in
      let d : n - suc j ≡ n - 1 - j = omega arith in
      let xs = cells f (suc (b + j)) (n - 1 - j) in
      let l : length (cells f b j ++ xs) < 32 = rw (length-append (cells f b j) xs, cells_length f b j, cells_length f (suc (b + j)) (n - 1 - j)) (omega arith) in
      let m : j + length (xs ++ (0 ∷ [])) ≡ n = rw (length-append xs (0 ∷ []), cells_length f (suc (b + j)) (n - 1 - j)) (omega arith) in
      rw (e, d)
      (ap (sets f b) (sym (padded-zero 32 (cells f b j ++ xs) l) ∙ ap (padded 32) (append_assoc (cells f b j) xs (0 ∷ [])))
      ∙ row_sets f b j n (xs ++ (0 ∷ [])) m z ∙ sym (closing_sets f (b + j) (n - 1 - j)))

  row_opened : (k v : ℕ) → k ≤ n → n < 32 → sets f b (padded 32 (cells f b k ++ (v ∷ cells f (b + k) (n - k)))) ≡ opening f (b + k) v (n - k)
  row_opened k v h g =
      let d : b + n + 1 ≡ b + (n + 1) = omega arith in
      let e : 32 - n - 1 ≡ 32 - (n + 1) = omega arith in
      let m : k + length (v ∷ cells f (b + k) (n - k)) ≡ n + 1 = rw (cells_length f (b + k) (n - k)) (omega arith) in
      row_sets f b k (n + 1) (v ∷ cells f (b + k) (n - k)) m (rw (d, e) at (zeros-later f (b + n) (32 - n) 1 (omega arith) z))
      ∙ sym (opening_sets f (b + k) v (n - k))

  closed_field : (j : ℕ) → j < n → n ≤ 32 → b + 32 ≤ 256 → sets f b (padded 32 (cells f b j ++ cells f (b + suc j) (n - suc j))) ≡ closed f (b + j) (b + (n - 1))
  closed_field j h k g =
      let e : b + (n - 1) - (b + j) ≡ n - 1 - j = omega arith in
      row-closed j h k ∙ sym (closed-there f (b + j) (b + (n - 1)) (yes_places (b + j) (b + (n - 1)) (omega arith) (omega arith)) ∙ rw e)

  opened_field : (k v : ℕ) → k ≤ n → n < 32 → b + 32 ≤ 256 → sets f b (padded 32 (cells f b k ++ (v ∷ cells f (b + k) (n - k)))) ≡ opened f (b + k) (b + n) v
  opened_field k v h g o =
      let e : b + n - (b + k) ≡ n - k = omega arith in
      row_opened k v h g ∙ sym (opened-there f (b + k) (b + n) v (yes_places (b + k) (b + n) (omega arith) (omega arith)) ∙ rw e)

-- ---- runs

span-drop : (f l : List ℕ) (b n m : ℕ) → n ≤ m → drop n (span f l b m) ≡ span f l (b + n) (m - n)
unfolding span
span-drop f l b zero m h = let e : b + 0 ≡ b = omega arith in let d : m - 0 ≡ m = omega arith in rw (e, d)
span-drop f l b (suc n) zero h = absurd (omega arith)
span-drop f l b (suc n) (suc m) h =
    let e : b + suc n ≡ suc b + n = omega arith in
    let d : suc m - suc n ≡ m - n = omega arith in
    rw (e, d) (span-drop f l (suc b) n m (omega arith))

module _ (t : Tracker) (i : ℕ) (w : RowOf t i) (a : i < 8) (j : ℕ) (m : j < get_or t.counts i 0) where
  abbrev n : ℕ
  n = get_or t.counts i 0

  parts : (xs : List Run) → take j (channel_at t i).runs ++ (xs ++ drop (suc j) (channel_at t i).runs) ≡
      span t.first t.last (i * 32) j ++ (xs ++ span t.first t.last (i * 32 + suc j) (n - suc j))
  parts xs = rw (span-take t.first t.last (i * 32) j n (omega arith), span-drop t.first t.last (i * 32) (suc j) n (omega arith))

  parts_firsts : (xs : List Run) → firsts (take j (channel_at t i).runs ++ (xs ++ drop (suc j) (channel_at t i).runs)) ≡
      cells t.first (i * 32) j ++ (firsts xs ++ cells t.first (i * 32 + suc j) (n - suc j))
  parts_firsts xs =
      rw (parts xs)
      (map-append (λ (r : Run). r.first) (span t.first t.last (i * 32) j) (xs ++ span t.first t.last (i * 32 + suc j) (n - suc j))
      ∙ rw (map-append (λ (r : Run). r.first) xs (span t.first t.last (i * 32 + suc j) (n - suc j)), span-firsts t.first t.last (i * 32) j, span-firsts t.first t.last (i * 32 + suc j) (n - suc j)))

  parts_lasts : (xs : List Run) → lasts (take j (channel_at t i).runs ++ (xs ++ drop (suc j) (channel_at t i).runs)) ≡
      cells t.last (i * 32) j ++ (lasts xs ++ cells t.last (i * 32 + suc j) (n - suc j))
  parts_lasts xs =
      rw (parts xs)
      (map-append (λ (r : Run). r.last) (span t.first t.last (i * 32) j) (xs ++ span t.first t.last (i * 32 + suc j) (n - suc j))
      ∙ rw (map-append (λ (r : Run). r.last) xs (span t.first t.last (i * 32 + suc j) (n - suc j)), span-lasts t.first t.last (i * 32) j, span-lasts t.first t.last (i * 32 + suc j) (n - suc j)))

  pub parts_length : (xs : List Run) → length (take j (channel_at t i).runs ++ (xs ++ drop (suc j) (channel_at t i).runs)) ≡ j + (length xs + (n - suc j))
  parts_length xs =
      rw (parts xs)
      (length-append (span t.first t.last (i * 32) j) (xs ++ span t.first t.last (i * 32 + suc j) (n - suc j))
      ∙ rw (length-append xs (span t.first t.last (i * 32 + suc j) (n - suc j)), span-length t.first t.last (i * 32) j, span-length t.first t.last (i * 32 + suc j) (n - suc j)))

  -- the run at place j goes
  pub put-shut : (h : ℕ) (e : Bool) → put t i (changed (channel_at t i) h e (take j (channel_at t i).runs ++ drop (suc j) (channel_at t i).runs)) ≡
      record {
        count = t.count;
        numbers = t.numbers;
        from = t.from;
        highest = set t.highest i h;
        ended = set t.ended i (mark e);
        counts = (shut t i (i * 32 + j)).counts;
        first = (shut t i (i * 32 + j)).first;
        last = (shut t i (i * 32 + j)).last;
      }
  unfolding put
  put-shut h e =
      let q : j + (0 + (n - suc j)) ≡ n - 1 = omega arith in
      rw (
        parts_length [] ∙ q,
        parts_firsts [],
        parts_lasts [],
        closed_field t.first (i * 32) n w.firsts-zero j m w.room (omega arith),
        closed_field t.last (i * 32) n w.lasts-zero j m w.room (omega arith),
      )

  -- the run at place j splits around v
  module _ (v : ℕ) (k : n < 32) where
    abbrev halves : List Run
    halves = run (get_or t.first (i * 32 + j) 0) (v - 1) ∷ run (v + 1) (get_or t.last (i * 32 + j) 0) ∷ []

    cleft-first : sets t.first (i * 32) (padded 32 (cells t.first (i * 32) j ++ (firsts halves ++ cells t.first (i * 32 + suc j) (n - suc j)))) ≡ (cleft t i (i * 32 + j) v).first
    cleft-first =
        let c : cells t.first (i * 32) (j + 1) ≡ cells t.first (i * 32) j ++ (get_or t.first (i * 32 + j) 0 ∷ []) = cells_add t.first (i * 32) j 1 in
        let e : i * 32 + suc j ≡ i * 32 + (j + 1) = omega arith in
        let d : n - suc j ≡ n - (j + 1) = omega arith in
        let o : i * 32 + j + 1 ≡ i * 32 + (j + 1) = omega arith in
        rw (e, d, o)
        (ap (λ (x : List ℕ). sets t.first (i * 32) (padded 32 x))
        (sym (append_assoc (cells t.first (i * 32) j) (get_or t.first (i * 32 + j) 0 ∷ []) ((v + 1) ∷ cells t.first (i * 32 + (j + 1)) (n - (j + 1))))
        ∙ ap (λ (x : List ℕ). x ++ ((v + 1) ∷ cells t.first (i * 32 + (j + 1)) (n - (j + 1)))) (sym c))
        ∙ opened_field t.first (i * 32) n w.firsts-zero (j + 1) (v + 1) (omega arith) k (omega arith))

    cleft-last : sets t.last (i * 32) (padded 32 (cells t.last (i * 32) j ++ (lasts halves ++ cells t.last (i * 32 + suc j) (n - suc j)))) ≡ (cleft t i (i * 32 + j) v).last
    cleft-last =
        let e : i * 32 + suc j ≡ suc (i * 32 + j) = omega arith in
        let d : n - j ≡ suc (n - suc j) = omega arith in
        let c : cells t.last (i * 32 + j) (n - j) ≡ get_or t.last (i * 32 + j) 0 ∷ cells t.last (suc (i * 32 + j)) (n - suc j) = rw d in
        rw e
        (ap (λ (x : List ℕ). sets t.last (i * 32) (padded 32 (cells t.last (i * 32) j ++ ((v - 1) ∷ x)))) (sym c)
        ∙ opened_field t.last (i * 32) n w.lasts-zero j (v - 1) (omega arith) k (omega arith))

    pub put-cleft : (h : ℕ) (e : Bool) → put t i (changed (channel_at t i) h e (take j (channel_at t i).runs ++ (halves ++ drop (suc j) (channel_at t i).runs))) ≡
        record {
          count = t.count;
          numbers = t.numbers;
          from = t.from;
          highest = set t.highest i h;
          ended = set t.ended i (mark e);
          counts = (cleft t i (i * 32 + j) v).counts;
          first = (cleft t i (i * 32 + j) v).first;
          last = (cleft t i (i * 32 + j) v).last;
        }
    unfolding put
    put-cleft h e =
        let q : j + (2 + (n - suc j)) ≡ n + 1 = omega arith in
        rw (parts_length halves ∙ q, parts_firsts halves, parts_lasts halves, cleft-first, cleft-last)
