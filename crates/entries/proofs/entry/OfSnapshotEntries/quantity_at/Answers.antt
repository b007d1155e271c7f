use Rattle.std.proofs.Common.{sym, arith}
use Rattle.record.proofs.Tell.{kept}
use Rattle.entries.proofs.Entries.{snapshot-entry, quantity-found, quantity-behind}
use Rattle.entries.proofs.entry.OfSnapshotEntries.quantity_at.Goals as goal

pub overflow_add-p : goal.overflow_add-p
overflow_add-p c =
    let e = snapshot-entry _ _ c.requires in
    omega arith

pub overflow_add-p-then-j-at : goal.overflow_add-p-then-j-at
overflow_add-p-then-j-at c =
    let e = snapshot-entry _ _ c.requires in
    omega arith

pub overflow_add-p-then-j-at-2 : goal.overflow_add-p-then-j-at-2
overflow_add-p-then-j-at-2 c =
    let e = snapshot-entry _ _ c.requires in
    omega arith

pub returns-then-j-at : goal.returns-then-j-at
returns-then-j-at c =
    let e = snapshot-entry _ _ c.requires in
    rw (kept c.at-then-j-at.type_inv c.at-then-j-at.ensures)
    (sym (quantity-found e (rw c.at.ensures at c.if-j-at.true)))

pub returns-else-j-at : goal.returns-else-j-at
returns-else-j-at c =
    let e = snapshot-entry _ _ c.requires in
    sym (quantity-behind e (rw c.at.ensures at c.if-j-at.false))
