use Rattle.std.proofs.Common.{◌≡◌, ◌+◌, ◌-◌, refl, sym, ◌∙◌, arith}
use lib.Dec.{lit≤}
use Rattle.wire.specs.Bytes.{be_at}
use Rattle.wire.proofs.Be.{be_at-part}
use Rattle.layout.specs.Layout.{of_snapshot, size}
use Rattle.entries.proofs.Entries.{snapshot-entry, entry_at-here}
use Rattle.prices.proofs.step.OfSnapshotSteps.over.Goals as goal

pub overflow_add-q : goal.overflow_add-q
overflow_add-q c = let e = snapshot-entry _ _ c.requires in omega arith

pub slice_bounds-e-end : goal.slice_bounds-e-end
slice_bounds-e-end c = let e = snapshot-entry _ _ c.requires in omega arith

pub returns : goal.returns
unfolding size
returns c =
    let e = snapshot-entry _ _ c.requires in
    let here = sym (entry_at-here of_snapshot c.args.s.now c.args.p (c.args.p + 32) refl (lit≤ tt)) in
    let shown : c.at.result ≡ be_at c.args.s.now (c.args.p + 28) 4 =
    c.at.ensures ∙ be_at-part c.args.s.now c.args.p (c.args.p + 32 - c.args.p) 28 4 (omega arith)
    in
    record {
      value = rw (here, e.onward, shown, c.snapshot_entry.ensures.value);
      price_after = rw here c.snapshot_entry.ensures.price_after;
    }
