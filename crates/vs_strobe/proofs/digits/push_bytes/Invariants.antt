use Rattle.std.proofs.Common.{◌≡◌, ◌≤◌, ◌++◌, length}
use Rattle.vs_design.specs.vs_logic4.specs.Arithmetic.{number}
use Rattle.vs_strobe.specs.Values.{group_count, by_groups, bytes_text}
use Rattle.vs_strobe.proofs.digits.push_bytes.Given as goal

abbrev pub invariant-loop-left : goal.invariant-loop-left
invariant-loop-left l = record {
  most : l.left ≤ group_count 8 (length l.value);
  written : l.text.items ++ by_groups number 8 l.left l.value ≡ l.initial.text.items ++ bytes_text l.value;
}

abbrev pub decreases-loop-left : goal.decreases-loop-left
decreases-loop-left l = l.left
