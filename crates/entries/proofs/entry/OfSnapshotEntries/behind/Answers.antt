use Rattle.std.proofs.Common.{◌≡◌, ◌+◌, ◌-◌, ◌∙◌, arith}
use Rattle.wire.specs.Bytes.{be_at}
use Rattle.wire.proofs.Be.{be_at-part}
use Rattle.entries.proofs.Entries.{snapshot-entry}
use Rattle.entries.proofs.entry.OfSnapshotEntries.behind.Goals as goal

pub overflow_add-q : goal.overflow_add-q
overflow_add-q c =
    let e = snapshot-entry _ _ c.requires in
    omega arith

pub slice_bounds-e-end : goal.slice_bounds-e-end
slice_bounds-e-end c =
    let e = snapshot-entry _ _ c.requires in
    omega arith

-- the shown count, of the part that holds the entry's fields
shown : (c : goal.After-at) → c.at.result ≡ be_at c.args.s.now (c.args.p + 28) 4
shown c = c.at.ensures ∙ be_at-part c.args.s.now c.args.p (c.args.p + 32 - c.args.p) 28 4 (omega arith)

pub returns : goal.returns
returns c =
    let e = snapshot-entry _ _ c.requires in
    rw (e.onward, shown c)
