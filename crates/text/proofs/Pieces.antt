-- Pieces one behind the other, and more of them behind these.
-- Assumes nothing.
use Prim.Native.Nat.{ℕ}
use mathlib.Core.Path.{◌≡◌, ◌∙◌}
use mathlib.Core.List.{List, [], ◌∷◌, ◌++◌}
use Rattle.wire.specs.Bytes.{put_at}
use Rattle.text.specs.Text.{offset_behind, put_each, offset_behind_each}

-- what the output holds and the offset that is answered, once pieces are put
abbrev pub Put : List ℕ → ℕ → List (List ℕ) → List ℕ → ℕ → Type 0
Put out at ps o a = (o ≡ put_each out at ps) × (a ≡ offset_behind_each out at ps)

-- one piece
pub one :
    (out : List ℕ) (at : ℕ) (p : List ℕ) {o : List ℕ} {a : ℕ} → (o ≡ put_at out at p) × (a ≡ offset_behind out at p) → Put out at (p ∷ []) o a
unfolding put_each offset_behind_each
one out at p h = h

-- more behind them
pub more :
    (out : List ℕ) (at : ℕ) (ps qs : List (List ℕ)) {o o' : List ℕ} {a a' : ℕ} → Put out at ps o a → Put o a qs o' a' → Put out at (ps ++ qs) o' a'
unfolding put_each offset_behind_each
more out at [] qs h k = (k.0 ∙ rw (h.0, h.1), k.1 ∙ rw (h.0, h.1))
more out at (p ∷ ps) qs h k = more (put_at out at p) (offset_behind out at p) ps qs h k
