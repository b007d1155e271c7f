-- Numbers laid in consecutive places, and rows read from them.
use Prim.Native.Nat.{ℕ, ◌+◌, ◌≤◌}
use native.Mathlib.Omega.{arith}
use mathlib.Core.Path.{◌≡◌, ap, sym, ◌∙◌}
use mathlib.Core.List.{List, ◌++◌, append_assoc}
use lib.ListN.{length, take, drop}
use lib.Seq.{sets, sets-eq, drop-drop}
use borrow.Rule.Slice.PartMut.{put_mid}
use Rattle.gaps.specs.Gaps.{larger}
use Rattle.seats.specs.Arrays.{Arrays, held}
use Rattle.seats.specs.declared.Fields.{Fields}
use Rattle.joins.specs.declared.walk.Row.{Row}
use Rattle.joins.specs.Meet.{met_in, met_runs}
use Rattle.joins.specs.Rows.{reached, row_in}

-- a part of a list replaced by as many numbers
pub part_sets : (f row : List ℕ) (b k n : ℕ) → k ≡ n → length row ≡ n → b + n ≤ length f → put_mid b k f row ≡ sets f b row
part_sets f row b k n e d h =
    let z : drop k (drop b f) ≡ drop (b + length row) f = drop-drop k b f ∙ rw (e, sym d) in
    ap (λ (t : List ℕ). take b f ++ (row ++ t)) z ∙ sym (append_assoc (take b f) row (drop (b + length row) f)) ∙ sym (sets-eq row f b (omega arith))

-- what two rows share is what the channels do
pub rows-met : (f g : Fields) (a b : Arrays) (i : ℕ) (r s : Row) → held f ≡ a → held g ≡ b → r ≡ row_in f i → s ≡ row_in g i →
    met_in (reached r (larger r.highest s.highest)) (reached s (larger r.highest s.highest)) ≡ met_runs a b i
rows-met f g a b i r s x y p q = rw (p, q) (ap (λ (t : Arrays). met_runs t (held g) i) x ∙ ap (λ (t : Arrays). met_runs a t i) y)
