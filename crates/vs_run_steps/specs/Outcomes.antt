-- What the evaluation of a continuous assignment has come to.
use Rattle.std.specs.Prelude.{ℕ, ◌≡◌, Bool, true}
use Rattle.vs_run_active.specs.vs_process.specs.declared.moves.Move.TheVariants.{Evaluate}
use Rattle.vs_run_active.specs.vs_process.specs.Executions.{apply}
use Rattle.vs_run_active.specs.vs_process.specs.States.{State}
use Rattle.vs_run_steps.specs.declared.assigns.Evaluated.{Evaluated}
use Rattle.vs_run_steps.specs.declared.assigns.Evaluated.TheVariants.{Same, Waits, Written}
use Rattle.vs_run_steps.specs.Turns.{AreMade}

-- its move was made; and that of its update too, where the value was written at once, as it may be
abbrev pub HasOutcome : Bool → ℕ → Evaluated → State → State → Type 0
HasOutcome at_once j Same s t = t ≡ apply (Evaluate j) s
HasOutcome at_once j Waits s t = t ≡ apply (Evaluate j) s
HasOutcome at_once j Written s t = (at_once ≡ true) × AreMade 2 s t
