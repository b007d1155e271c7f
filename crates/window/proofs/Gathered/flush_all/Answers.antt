use Rattle.std.proofs.Common.{◌≡◌, ℕ, ◌+◌, List, length, OnOk, arith, sym, subst, rules}
use Rattle.std.specs.Io.KnownBytes.{Appends}
use Rattle.window.proofs.Slides.{kept_none, all-written}
use Rattle.window.proofs.Gathered.flush_all.Goals as goal

pub returns-clause-none : goal.returns-clause-none
returns-clause-none g c =
    let o = c.args.self.now in
    let n : length o.out ≡ g.row.N = Prim.search rules in
    subst
    (λ (k : ℕ). OnOk c.flush.result (c.flush.new.self.held ≡ k))
    (sym (kept_none o.out o.held (g.row.N + 1) (omega arith)))
    c.flush.ensures.held

pub returns-clause-wrote : goal.returns-clause-wrote
returns-clause-wrote g c h =
    let o = c.args.self.now in
    let n : length o.out ≡ g.row.N = Prim.search rules in
    subst
    (λ (bs : List ℕ). OnOk c.flush.result (Appends (g.W.Write.contents o.output) (g.W.Write.contents c.flush.new.self.output) bs))
    (all-written o.out o.held (g.row.N + 1) (omega arith) (omega arith))
    c.flush.ensures.wrote
