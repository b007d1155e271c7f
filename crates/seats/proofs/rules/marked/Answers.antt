use mathlib.Core.Path.{◌≡◌}
use lib.Bits.{bit_or}
use Rattle.std.specs.List.{fold}
use Rattle.std.proofs.Common.{rules}
use Rattle.std.proofs.iter.runs.Made.{chains}
use Rattle.seats.proofs.Walks.{marks_all}
use Rattle.seats.proofs.rules.marked.Goals as goal

pub returns : goal.returns
returns c = let s = c.args in
    let e : c.fold.result ≡ fold bit_or 0 s.ended.now = search (rules, chains) in
    rw e (marks_all s.ended.now c.told-ended)
