-- Steps of one process that are taken one after another.
use Rattle.std.specs.Prelude.{ℕ, ◌≡◌, ◌<◌, ◌≤◌, true, false, Option, List, slice_get}
use Rattle.std.specs.Io.KnownBytes.{Appends}
use Rattle.vs_run_active.specs.vs_process.specs.Places.{is_going}
use Rattle.vs_run_active.specs.vs_process.specs.declared.moves.Move.TheVariants.{Step}
use Rattle.vs_run_active.specs.vs_process.specs.Executions.{if_some, is_enabled}
use Rattle.vs_run_active.specs.vs_process.specs.States.{State}
use Rattle.vs_run_active.specs.Taken.{AreTaken, step_text}
use Rattle.vs_vcd_writing.specs.Sinks.{AppendsPart}

-- so many steps of a process were taken of at most so many, and their lines written; it isn't active after fewer than all
pub record TakesSteps (limit taken i : ℕ) (s t : State) (old new : Option (List ℕ)) : Type 0 where
  pub within : taken ≤ limit
  pub text : List ℕ
  pub all : AreTaken taken i s t text
  pub printed : Appends old new text
  pub stopped : taken < limit → if_some is_going (slice_get t.places i) ≡ false

-- fewer than so many steps of a process whose lines were written, and then one that failed, of whose line a beginning was
pub record TakenPart (limit i : ℕ) (s : State) (old new : Option (List ℕ)) : Type 0 where
  pub taken : ℕ
  pub within : taken < limit
  pub last : State
  pub text : List ℕ
  pub mid : Option (List ℕ)
  pub all : AreTaken taken i s last text
  pub printed : Appends old mid text
  pub enabled : is_enabled last (Step i) ≡ true
  pub part : AppendsPart mid new (step_text last i)
