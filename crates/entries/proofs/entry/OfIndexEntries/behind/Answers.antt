use Rattle.std.proofs.Common.{sym, arith}
use Rattle.entries.proofs.Entries.{index-entry}
use Rattle.entries.proofs.entry.OfIndexEntries.behind.Goals as goal

pub overflow_add-result : goal.overflow_add-result
overflow_add-result c =
    let e = index-entry _ _ c.requires in
    omega arith

pub returns : goal.returns
returns c =
    let e = index-entry _ _ c.requires in
    sym e.onward
