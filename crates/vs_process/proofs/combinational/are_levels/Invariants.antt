use Rattle.std.proofs.Common.{◌≡◌, true, take}
use Rattle.std.specs.List.{list_all}
use Rattle.vs_process.specs.Executions.{is_level}
use Rattle.vs_process.proofs.combinational.are_levels.Given as goal

abbrev pub invariant-loop-term : goal.invariant-loop-term
invariant-loop-term l = list_all is_level (take l.term-index l.terms) ≡ true
