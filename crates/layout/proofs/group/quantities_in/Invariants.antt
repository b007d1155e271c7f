use Rattle.std.proofs.Common.{◌≡◌, ◌+◌, ◌-◌, ◌*◌, ◌≤◌, length}
use Rattle.layout.specs.Group.{quantities}
use Rattle.layout.proofs.group.quantities_in.Given as goal

abbrev pub invariant-loop : goal.invariant-loop
invariant-loop l = record {
  there : l.p + 8 * (l.n - l.counter) ≤ length l.s;
  same : quantities l.n l.s l.at ≡ quantities (l.n - l.counter) l.s l.p;
}
