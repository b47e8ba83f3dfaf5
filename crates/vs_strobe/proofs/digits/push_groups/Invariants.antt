use Rattle.std.proofs.Common.{◌≡◌, ◌≤◌, ◌++◌, length}
use Rattle.vs_strobe.specs.Values.{group_count, by_groups, group_character}
use Rattle.vs_strobe.proofs.digits.push_groups.Given as goal

abbrev pub invariant-loop-left : goal.invariant-loop-left
invariant-loop-left l = record {
  most : l.left ≤ group_count l.size (length l.value);
  written : l.text.items ++ by_groups group_character l.size l.left l.value ≡ l.initial.text.items ++ by_groups group_character l.size l.count l.value;
}

abbrev pub decreases-loop-left : goal.decreases-loop-left
decreases-loop-left l = l.left
