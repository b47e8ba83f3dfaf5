-- Continuous assignments after their evaluation.
use Rattle.std.specs.Prelude.{false, Option, List}
use Rattle.vs_design.specs.vs_logic4.specs.declared.digit.Digit.{Digit}
use Rattle.vs_run_active.specs.vs_process.specs.States.{AssignState}

-- a continuous assignment that has been evaluated, and of which this value waits to be written, or none (clause 6.1)
abbrev pub valued : Option (List Digit) → AssignState → AssignState
valued value x = record x { needs = false; pending = value }
