use Rattle.std.proofs.Common.{arith}
use mathlib.Core.Bool.{and-true}
use lib.Dec.{lit≤}
use Rattle.wire.proofs.Be.{be_at-part}
use Rattle.layout.specs.Layout.{size, ranges}
use Rattle.layout.proofs.Free.{free-entry-type, free-level, free-group-count, free_stock_number, free_switch_type, free-text, order_count_as}
use Rattle.layout.proofs.group.fields_in.Goals as goal

pub slice_bounds-at-end : goal.slice_bounds-at-end
unfolding size
slice_bounds-at-end c = let h = rw c.in-Switches.is at c.requires in omega arith

pub slice_bounds-at-end-in-IndexEntries : goal.slice_bounds-at-end-in-IndexEntries
unfolding size
slice_bounds-at-end-in-IndexEntries c = let h = rw c.in-IndexEntries.is at c.requires in omega arith

pub slice_bounds-f-end : goal.slice_bounds-f-end
unfolding size
slice_bounds-f-end c = let h = rw c.in-SnapshotEntries.is at c.requires in omega arith

pub returns-in-Streams : goal.returns-in-Streams
unfolding ranges
returns-in-Streams c = rw c.in-Streams.is (simp (free-entry-type, free-level, free-group-count, free_stock_number, free_switch_type, free-text, order_count_as, and-true) (cc))

pub returns-in-Switches : goal.returns-in-Switches
unfolding ranges
returns-in-Switches c =
    let h = be_at-part c.args.e.now 0 4 2 2 (lit≤ tt) in
    rw c.in-Switches.is (simp (free-entry-type, free-level, free-group-count, free_stock_number, free_switch_type, free-text, order_count_as, and-true) (cc))

pub returns-in-IndexEntries : goal.returns-in-IndexEntries
unfolding ranges
returns-in-IndexEntries c =
    let h = be_at-part c.args.e.now 0 10 2 8 (lit≤ tt) in
    rw c.in-IndexEntries.is (simp (free-entry-type, free-level, free-group-count, free_stock_number, free_switch_type, free-text, order_count_as, and-true) (cc))

pub returns-in-SnapshotEntries : goal.returns-in-SnapshotEntries
unfolding ranges
returns-in-SnapshotEntries c =
    let h = be_at-part c.args.e.now 0 32 2 8 (lit≤ tt) in
    let i = be_at-part c.args.e.now 0 32 10 8 (lit≤ tt) in
    let j = be_at-part c.args.e.now 0 32 20 8 (lit≤ tt) in
    rw c.in-SnapshotEntries.is (simp (free-entry-type, free-level, free-group-count, free_stock_number, free_switch_type, free-text, order_count_as, and-true) (cc))
