use Rattle.std.proofs.Common.{arith, subst, sym, take, length-take-le}
use Rattle.std.specs.Io.KnownBytes.{Consumes}
use Rattle.window.proofs.Slides.{read-there}
use Rattle.window.proofs.fill.Goals as goal

pub returns-clause-read : goal.returns-clause-read
returns-clause-read g c =
    let n = c.in_ok-got.got in
    let a = c.args in
    let e = read-there (take a.held a.window.now) c.read.new.buf _ a.held n (length-take-le a.held a.window.now (omega arith)) c.in_ok-got.ensures.bound.0 in
    subst (Consumes _ _) (sym e) c.in_ok-got.ensures.bytes.0
