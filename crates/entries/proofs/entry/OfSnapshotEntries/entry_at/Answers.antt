use Rattle.std.proofs.Common.{◌+◌, refl, ◌∙◌, arith}
use lib.Dec.{lit≤}
use Rattle.layout.specs.Layout.{of_snapshot, size}
use Rattle.entries.proofs.Entries.{snapshot-entry, entry_at-here}
use Rattle.entries.proofs.entry.OfSnapshotEntries.entry_at.Goals as goal

pub overflow_add-q : goal.overflow_add-q
overflow_add-q c =
    let e = snapshot-entry _ _ c.requires in
    omega arith

pub slice_bounds-snapshot_entry-end : goal.slice_bounds-snapshot_entry-end
slice_bounds-snapshot_entry-end c =
    let e = snapshot-entry _ _ c.requires in
    omega arith

pub returns : goal.returns
unfolding size
returns c =
    c.snapshot_entry.ensures ∙ entry_at-here of_snapshot c.args.s.now c.args.p (c.args.p + 32) refl (lit≤ tt)
