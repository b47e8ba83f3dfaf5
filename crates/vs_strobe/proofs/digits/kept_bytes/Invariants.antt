use Rattle.std.proofs.Common.{◌≡◌, ◌≤◌, length}
use Rattle.vs_design.specs.vs_logic4.specs.Arithmetic.{number}
use Rattle.vs_strobe.specs.Values.{group_count, by_groups, without_zero_bytes, bytes_text}
use Rattle.vs_strobe.proofs.digits.kept_bytes.Given as goal

abbrev pub invariant-loop-kept : goal.invariant-loop-kept
invariant-loop-kept l = record {
  most : l.kept ≤ group_count 8 (length l.value);
  same : without_zero_bytes (by_groups number 8 l.kept l.value) ≡ bytes_text l.value;
}

abbrev pub decreases-loop-kept : goal.decreases-loop-kept
decreases-loop-kept l = l.kept
