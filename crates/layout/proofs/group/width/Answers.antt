use Rattle.std.proofs.Common.{refl}
use lib.Dec.{lit≤}
use Rattle.layout.specs.Layout.{size}
use Rattle.layout.proofs.group.width.Goals as goal

pub returns-in-Streams : goal.returns-in-Streams
unfolding size
returns-in-Streams c = rw c.in-Streams.is (refl, lit≤ tt)

pub returns-in-Switches : goal.returns-in-Switches
unfolding size
returns-in-Switches c = rw c.in-Switches.is (refl, lit≤ tt)

pub returns-in-IndexEntries : goal.returns-in-IndexEntries
unfolding size
returns-in-IndexEntries c = rw c.in-IndexEntries.is (refl, lit≤ tt)

pub returns-in-SnapshotEntries : goal.returns-in-SnapshotEntries
unfolding size
returns-in-SnapshotEntries c = rw c.in-SnapshotEntries.is (refl, lit≤ tt)
