use Rattle.std.proofs.Common.{◌≡◌, ◌≤◌, ◌++◌, length, map, reverse, take}
use Rattle.vs_design.specs.vs_logic4.specs.Tables.{letter}
use Rattle.vs_program.specs.Races.{value_text}
use Rattle.vs_program.proofs.racing.push_value.Given as goal

abbrev pub invariant-loop-left : goal.invariant-loop-left
invariant-loop-left l = record {
  within : l.left ≤ length l.value;
  so_far : l.text.items ++ reverse (map letter (take l.left l.value)) ≡ l.fn.text.items ++ value_text l.value;
}

abbrev pub decreases-loop-left : goal.decreases-loop-left
decreases-loop-left l = l.left
