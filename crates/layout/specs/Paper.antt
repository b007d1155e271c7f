-- The code's groups and verdicts in the specs' terms.
-- Assumes nothing.
use Rattle.std.specs.Prelude.{ℕ, [], Result, Ok, Err}
use Rattle.wire.specs.Answer.{Answer, accepted, refused}
use Rattle.wire.specs.Refusal.{not_its_layout, out_of_range}
use Rattle.layout.specs.Layout.{Group, streams, switches, index_entries, snapshot_entries}
use Rattle.layout.specs.declared.group.Groups.{Groups}
use Rattle.layout.specs.declared.group.Groups.TheVariants.{Streams, Switches, IndexEntries, SnapshotEntries}
use Rattle.layout.specs.declared.group.Refusal.{Refusal}
use Rattle.layout.specs.declared.group.Refusal.TheVariants.{NotItsLayout, OutOfRange}

-- the group that the code means
abbrev pub means_groups : Groups → Group
means_groups Streams = streams
means_groups Switches = switches
means_groups IndexEntries = index_entries
means_groups SnapshotEntries = snapshot_entries

-- the number of a refusal
abbrev pub body_refusal : Refusal → ℕ
body_refusal NotItsLayout = not_its_layout
body_refusal OutOfRange = out_of_range

-- a verdict of the code
abbrev pub Verdict : Type 0
Verdict = Result Unit Refusal

-- the verdict
abbrev pub means_verdict : Verdict → Answer Unit
means_verdict (Ok u) = accepted u
means_verdict (Err x) = refused (body_refusal x) []
