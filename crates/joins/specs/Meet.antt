-- The runs of two records joined, by one walk over the two lists: what the private functions of the crate promise to one another.
use Rattle.std.specs.Prelude.{ℕ, zero, suc, ◌+◌, ◌*◌, ◌-◌, ◌<◌, ◌≤◌, ◌≡◌, List, [], ◌∷◌, ◌++◌, true, cond, ◌&&◌, ◌||◌, ltb, leb, eqb, length, get_or, set, Ok, Err}
use Rattle.std.proofs.lemmas.List.Edits.{sets}
use Rattle.gaps.specs.declared.Run.{Run}
use Rattle.gaps.specs.Gaps.{run, larger, fill}
use Rattle.gaps.specs.Limits.{run_limit}
use Rattle.gaps.specs.Channel.{Channel}
use Rattle.seats.specs.Arrays.{Arrays}
use Rattle.seats.specs.Places.{channel_limit, span}
use Rattle.seats.specs.Channels.{channel_in, put_in}
use Rattle.seats.specs.Rules.{all_zero, sound}
use Rattle.joins.specs.Join.{same_set_up, overfull, put_all, JoinVerdict}
use Rattle.joins.specs.declared.Refusal.TheVariants.{TableFull, Malformed, SetUpsDiffer}
use Rattle.joins.specs.declared.walk.Reach.{Reach}

-- ---- one channel

-- the smaller of two numbers
unfoldable pub smaller : ℕ → ℕ → ℕ
smaller a b = cond (leb a b) a b

-- what two runs share
unfoldable pub shared : Run → Run → List Run
shared r s =
    cond (leb (larger r.first s.first) (smaller r.last s.last))
    (run (larger r.first s.first) (smaller r.last s.last) ∷ [])
    []

-- what two lists share: the run that ends first is passed; n is at least the runs of both lists
unfoldable pub meet : ℕ → List Run → List Run → List Run
meet zero l k = []
meet (suc n) [] k = []
meet (suc n) (r ∷ l) [] = []
meet (suc n) (r ∷ l) (s ∷ k) = shared r s ++ cond (leb r.last s.last) (meet n l (s ∷ k)) (meet n (r ∷ l) k)

unfoldable pub met_in : List Run → List Run → List Run
met_in x y = meet (length x + length y) x y

-- a channel's missing numbers, with all behind its highest up to m
abbrev pub reaching : Channel → ℕ → List Run
reaching c m = fill c.runs c.highest m

-- T14: the larger highest, either's mark, and what both miss
abbrev pub met : Channel → Channel → Channel
met c d =
    record {
      from = c.from;
      highest = larger c.highest d.highest;
      ended = c.ended || d.ended;
      runs = met_in (reaching c (larger c.highest d.highest)) (reaching d (larger c.highest d.highest));
    }

-- of the channels at place i of two trackers
abbrev pub met_at : Arrays → Arrays → ℕ → Channel
met_at a b i = met (channel_in a i) (channel_in b i)

-- ---- the channels of two trackers, in their arrays

-- the runs of the channel at place i, joined
abbrev pub met_runs : Arrays → Arrays → ℕ → List Run
met_runs a b i = (met_at a b i).runs

-- T2, T4: at place i are counts of runs that keep the rules, room for the runs joined, and zero behind those that stand
pub record FitsAt (a b : Arrays) (i : ℕ) : Type 0 where
  pub place : i < channel_limit
  pub count : get_or a.counts i 0 ≤ run_limit
  pub other_count : get_or b.counts i 0 ≤ run_limit
  pub room : length (met_runs a b i) ≤ run_limit
  pub zero : all_zero (span a.first a.last (i * run_limit + get_or a.counts i 0) (run_limit - get_or a.counts i 0)) ≡ true

-- with no run, a row's numbers are what stands in its places
abbrev pub SameIfNone : ℕ → List ℕ → ℕ → List ℕ → Type 0
SameIfNone runs all i row = runs ≡ 0 → sets all (i * run_limit) row ≡ all

-- T2: counts of runs, of the first n channels, that keep the rules
abbrev pub CountsIn : List ℕ → ℕ → Type 0
CountsIn counts n = (i : ℕ) → i < n → get_or counts i 0 ≤ run_limit

-- of the first n places
abbrev pub FitsAll : Arrays → Arrays → ℕ → Type 0
FitsAll a b n = (i : ℕ) → i < n → FitsAt a b i

-- with the channel at place i joined, and with the first n
abbrev pub joined_at : ℕ → Arrays → Arrays → Arrays
joined_at i a b = put_in a i (met_at a b i)

abbrev pub joined_all : ℕ → Arrays → Arrays → Arrays
joined_all n a b = put_all a (met_at a b) 0 n

-- R9, R10, R11: what a join of two trackers is answered
unfoldable pub judged : Arrays → Arrays → JoinVerdict
judged a b =
    cond (sound a && sound b) (cond (same_set_up a b) (cond (overfull (met_runs a b) 0 a.count) (Err TableFull) (Ok tt)) (Err SetUpsDiffer)) (Err Malformed)

-- ---- the walk

-- run j of a row from place b on whose run at r's place goes from r's first number to m
unfoldable pub run_at : List ℕ → List ℕ → ℕ → Reach → ℕ → ℕ → Run
run_at f l b r m j = cond (eqb j r.at) (run r.first m) (run (get_or f (b + j) 0) (get_or l (b + j) 0))

-- j is a place of the row, but where it is the place `at`, whose run is not read there
abbrev pub InRow : ℕ → ℕ → Type 0
InRow at j = (j ≡ at → ⊥) → j < run_limit

-- r tells the runs of a row with the numbers behind the highest h up to m
pub record Reaches (f l : List ℕ) (b n h m : ℕ) (r : Reach) : Type 0 where
  pub size : r.count ≡ length (fill (span f l b n) h m)
  pub small : r.count ≤ run_limit + 1
  pub there : (j : ℕ) → j < r.count → InRow r.at j
  pub runs : (j : ℕ) → j < r.count → get_or (fill (span f l b n) h m) j (run 0 0) ≡ run_at f l b r m j

-- how many runs were laid, and their numbers in lent places, of which those beyond the last place are left out
pub record Laid : Type 0 where
  pub count : ℕ
  pub first : List ℕ
  pub last : List ℕ

abbrev pub laid : ℕ → List ℕ → List ℕ → Laid
laid count first last = record { count = count; first = first; last = last }

-- one run more
unfoldable pub laid_one : Laid → Run → Laid
laid_one p r =
    laid (p.count + 1) (cond (ltb p.count run_limit) (set p.first p.count r.first) p.first)
    (cond (ltb p.count run_limit) (set p.last p.count r.last) p.last)

-- one after the other
unfoldable pub laid_all : Laid → List Run → Laid
laid_all p [] = p
laid_all p (r ∷ l) = laid_all (laid_one p r) l
