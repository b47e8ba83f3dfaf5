use Rattle.std.proofs.Common.{◌≡◌, ◌≤◌, length}
use Rattle.vs_strobe.specs.Values.{group_count, by_groups, group_character, without_zeros, digits_text}
use Rattle.vs_strobe.proofs.digits.kept_groups.Given as goal

abbrev pub invariant-loop-kept : goal.invariant-loop-kept
invariant-loop-kept l = record {
  most : l.kept ≤ group_count l.size (length l.value);
  same : without_zeros (by_groups group_character l.size l.kept l.value) ≡ without_zeros (digits_text l.size l.value);
}

abbrev pub decreases-loop-kept : goal.decreases-loop-kept
decreases-loop-kept l = l.kept
