use Rattle.std.proofs.Common.{sym}
use Rattle.entries.proofs.Entries.{index-entry, quantity-none}
use Rattle.entries.proofs.entry.OfIndexEntries.quantity_at.Goals as goal

pub returns : goal.returns
returns c = sym (quantity-none _ (index-entry _ _ c.requires))
