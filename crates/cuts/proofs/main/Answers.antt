use Rattle.std.proofs.Common.{ℕ, sym}
use lib.ListN.{length-replicate}
use Rattle.cuts.proofs.main.Goals as goal

pub slice_bounds-list_all-end : goal.slice_bounds-list_all-end
slice_bounds-list_all-end c = sym (length-replicate {0} {A = ℕ} _ 0)
