use Rattle.std.proofs.Common.{ap, lt-ltb}
use Rattle.layout.specs.Layout.{entry_group, size}
use Rattle.record.specs.Asked.{found}
use Rattle.entries.proofs.Entries.{Stands, stands}
use Rattle.entries.proofs.entry.offset_of.Given as given
use Rattle.entries.proofs.entry.offset_of.Goals as goal

stands_at : (g : given.Over) (c : goal.After-offset_from g) → Stands (entry_group g.E.Entries.whose) c.args.s.now 69 c.args.i c.offset_from.result
unfolding size
stands_at g c =
    stands (entry_group g.E.Entries.whose) c.args.s.now 69 c.args.i _ _ c.requires (rw c.at.ensures at c.if-i-at.true) (rw c.groups.ensures at c.offset_from.ensures)

pub returns-then-i-at-clause-is : goal.returns-then-i-at-clause-is
unfolding size
returns-then-i-at-clause-is g c =
    let p = stands_at g c in
    rw (lt-ltb _ _ (rw c.at.ensures at c.if-i-at.true)) (ap found p.is)

pub returns-then-i-at-clause-there : goal.returns-then-i-at-clause-there
returns-then-i-at-clause-there g c = (stands_at g c).there
