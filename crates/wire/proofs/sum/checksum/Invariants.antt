use Rattle.std.proofs.Common.{◌≡◌, ◌%◌, take}
use Rattle.wire.specs.Bytes.{total}
use Rattle.wire.proofs.sum.checksum.Given as goal

-- `wire::sum::checksum` meets its contract: after i bytes the sum is theirs, modulo 256.
-- Assumes nothing.
abbrev pub invariant-loop-b : goal.invariant-loop-b
invariant-loop-b l = l.sum ≡ total (take l.b-index l.s) % 256
