-- What the evaluation of a continuous assignment has come to.
use Rattle.std.proofs.Common.{◌≡◌, ℕ, Bool, false}
use Rattle.std.proofs.lemmas.Bool.{false≢true}
use Rattle.vs_run_active.specs.vs_process.specs.declared.moves.Move.TheVariants.{Evaluate}
use Rattle.vs_run_active.specs.vs_process.specs.Executions.{apply}
use Rattle.vs_run_active.specs.vs_process.specs.States.{State}
use Rattle.vs_run_steps.specs.declared.assigns.Evaluated.{Evaluated}
use Rattle.vs_run_steps.specs.declared.assigns.Evaluated.TheVariants.{Same, Waits, Written}
use Rattle.vs_run_steps.specs.Outcomes.{HasOutcome}

-- where nothing may be written at once, its move alone was made
pub come_alone : (j : ℕ) (e : Evaluated) (s t : State) → HasOutcome false j e s t → t ≡ apply (Evaluate j) s
come_alone j Same s t h = h
come_alone j Waits s t h = h
come_alone j Written s t h = absurd (false≢true h.0)

-- so it is where something may be
pub come_anyhow : (at_once : Bool) (j : ℕ) (e : Evaluated) (s t : State) → HasOutcome false j e s t → HasOutcome at_once j e s t
come_anyhow at_once j Same s t h = h
come_anyhow at_once j Waits s t h = h
come_anyhow at_once j Written s t h = absurd (false≢true h.0)
