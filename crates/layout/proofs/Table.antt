-- The third column of the table of layouts: the bytes of each type's fields, of the common part, and of each group.
-- Assumes nothing.
use mathlib.Core.Path.{◌≡◌, refl}
use mathlib.Core.List.{[], ◌∷◌, map}
use Rattle.layout.specs.Layout.{Message, Group, messages, fields, common_part, streams, switches, snapshot_entries, index_entries, size}

pub sizes : map (λ (m : Message). size (fields m)) messages ≡ 0 ∷ 12 ∷ 44 ∷ 14 ∷ 34 ∷ 69 ∷ 69 ∷ 69 ∷ 51 ∷ 66 ∷ []
unfolding size
sizes = refl

pub common_size_lem : size common_part ≡ 65
unfolding size
common_size_lem = refl

pub group_sizes : map (λ (g : Group). size g.fields) (streams ∷ switches ∷ snapshot_entries ∷ index_entries ∷ []) ≡ 15 ∷ 4 ∷ 32 ∷ 10 ∷ []
unfolding size
group_sizes = refl
