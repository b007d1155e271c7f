use Rattle.std.proofs.Common.{◌≡◌, ◌-◌}
use Rattle.layout.specs.Paper.{means_groups}
use Rattle.layout.specs.Group.{fit, group_offset}
use Rattle.layout.proofs.group.end_of.Given as goal

abbrev pub invariant-loop : goal.invariant-loop
invariant-loop l = record {
  fits : fit (means_groups l.g) l.s l.at l.k ≡ fit (means_groups l.g) l.s l.p (l.k - l.counter);
  ends : group_offset (means_groups l.g) l.s l.at l.k ≡ group_offset (means_groups l.g) l.s l.p (l.k - l.counter);
}
