use Rattle.std.proofs.Common.{refl, ◌∙◌, arith}
use lib.Dec.{lit≤, lit<}
use borrow.Author.Rules.{rules}
use Rattle.wire.proofs.Be.{be_at-part}
use Rattle.layout.specs.Layout.{size}
use Rattle.layout.specs.Group as of
use Rattle.layout.proofs.group.shown.Goals as goal

pub slice_bounds-at-end : goal.slice_bounds-at-end
unfolding size
slice_bounds-at-end c = let h = rw c.in-SnapshotEntries.is at c.requires in omega arith

pub returns-in-Streams : goal.returns-in-Streams
unfolding of.shown size
returns-in-Streams c = rw c.in-Streams.is (refl, lit< tt)

pub returns-in-Switches : goal.returns-in-Switches
unfolding of.shown size
returns-in-Switches c = rw c.in-Switches.is (refl, lit< tt)

pub returns-in-IndexEntries : goal.returns-in-IndexEntries
unfolding of.shown size
returns-in-IndexEntries c = rw c.in-IndexEntries.is (refl, lit< tt)

pub returns-in-SnapshotEntries : goal.returns-in-SnapshotEntries
unfolding of.shown size
returns-in-SnapshotEntries c =
    rw c.in-SnapshotEntries.is
    (c.at.ensures ∙ be_at-part c.args.e.now 0 32 28 4 (lit≤ tt), search rules)
