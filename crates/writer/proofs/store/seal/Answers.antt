use Rattle.std.proofs.Common.{ℕ, ◌+◌, length, refl}
use Rattle.writer.proofs.Output.{sealed}
use Rattle.writer.proofs.store.seal.Goals as goal

pub returns : goal.returns
returns c =
    let a = c.args in
    let l : ℕ = a.size + length a.groups.now in
    sealed a.out.now a.kind a.size l a.groups.now refl c.requires.1 _ _ _ _ _
    c.put.ensures c.put-2.ensures c.copy.ensures c.checksum-sum.ensures c.put-3.ensures
