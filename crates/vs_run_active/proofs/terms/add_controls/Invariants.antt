use Rattle.std.proofs.Common.{◌≡◌, ◌++◌, map, drop}
use Rattle.vs_design.specs.Uses.{joined}
use Rattle.vs_process.specs.Scripts.{instruction_control}
use Rattle.vs_run_active.specs.Terms.{control_terms}
use Rattle.vs_run_active.proofs.terms.add_controls.Given as goal

abbrev pub invariant-loop-instruction : goal.invariant-loop-instruction
invariant-loop-instruction l =
    l.all.items ++ joined (map (control_terms l.process) (map instruction_control (drop l.instruction-index l.instructions)))
    ≡ l.fn.all.items ++ joined (map (control_terms l.process) (map instruction_control l.instructions))
