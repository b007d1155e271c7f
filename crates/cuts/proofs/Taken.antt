-- A call takes no more bytes than the cut has: of a cut from an offset up to another.
-- Assumes nothing.
use Rattle.std.proofs.Common.{◌≡◌, ℕ, ◌+◌, ◌-◌, ◌≤◌, List, length, take, drop, ap, arith, length-drop, length-take-le}
use Rattle.streams.specs.Stream.{Told, pushed}
use Rattle.streams.specs.Paper.{means_pushed}
use Rattle.streams.specs.declared.Stream.{Stream}
use Rattle.streams.specs.declared.Pushed.{Pushed}
use Rattle.streams.proofs.Pushes.{push-within}

pub taken :
    (h limit : ℕ) (st : Stream) (buffer s : List ℕ) (from to : ℕ) (r : Pushed) → from ≤ to → to ≤ length s →
    means_pushed r ≡ pushed h limit st buffer (take (to - from) (drop from s)) → from + r.took ≤ length s
taken h limit st buffer s from to r f t e =
    let c = take (to - from) (drop from s) in
    let n : length c ≡ to - from = length-take-le (to - from) (drop from s) (omega (arith, length-drop from s)) in
    omega (arith, ap (λ (x : Told). x.took) e, push-within h limit st buffer c)
