use Rattle.std.proofs.Common.{◌+◌, refl, ◌∙◌, arith}
use lib.Dec.{lit≤}
use Rattle.layout.specs.Layout.{of_index, size}
use Rattle.entries.proofs.Entries.{index-entry, entry_at-here}
use Rattle.entries.proofs.entry.OfIndexEntries.entry_at.Goals as goal

pub overflow_add-q : goal.overflow_add-q
overflow_add-q c =
    let e = index-entry _ _ c.requires in
    omega arith

pub slice_bounds-index_entry-end : goal.slice_bounds-index_entry-end
slice_bounds-index_entry-end c =
    let e = index-entry _ _ c.requires in
    omega arith

pub returns : goal.returns
unfolding size
returns c = c.index_entry.ensures ∙ entry_at-here of_index c.args.s.now c.args.p (c.args.p + 10) refl (lit≤ tt)
