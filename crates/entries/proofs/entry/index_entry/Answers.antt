use Rattle.layout.specs.Layout.{values}
use Rattle.entries.specs.Entry.{entry_at}
use Rattle.record.proofs.Tell.{kept}
use Rattle.entries.proofs.entry.index_entry.Goals as goal

pub returns : goal.returns
unfolding entry_at values
returns c =
    let says = rw (kept c.at.type_inv c.at.ensures, c.at-characters.ensures) at c.said_in_index-says.ensures in
    λ i. record { characters = c.at-characters.ensures i; says = says i }
