use Rattle.layout.specs.Layout.{values}
use Rattle.entries.specs.Entry.{entry_at}
use Rattle.record.proofs.Tell.{kept}
use Rattle.entries.proofs.entry.snapshot_entry.Goals as goal

pub returns : goal.returns
unfolding entry_at values
returns c =
    let says =
    rw (kept c.at.type_inv c.at.ensures, kept c.at-2.type_inv c.at-2.ensures, kept c.at-4.type_inv c.at-4.ensures, c.at-3.ensures, c.at-5.ensures, c.at-characters.ensures) at c.said-says.ensures
    in
    λ i. record { characters = c.at-characters.ensures i; says = says i }
