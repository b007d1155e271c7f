use Rattle.std.proofs.Common.{◌≡◌, ◌-◌, true}
use Rattle.layout.specs.Paper.{means_groups}
use Rattle.layout.specs.Group.{fit, group_ranges}
use Rattle.layout.proofs.group.groups_in.Given as goal

abbrev pub invariant-loop : goal.invariant-loop
invariant-loop l = record {
  there : fit (means_groups l.g) l.s l.p (l.k - l.counter) ≡ true;
  same : group_ranges (means_groups l.g) l.s l.at l.k ≡ group_ranges (means_groups l.g) l.s l.p (l.k - l.counter);
}
