-- Moves of the members of a group, one after another.
use Rattle.std.specs.Prelude.{ℕ, ◌≡◌, ◌<◌, ◌≤◌, true, Some, List, slice_get}
use Rattle.vs_design.specs.Parts.{Parts}
use Rattle.vs_run_active.specs.vs_process.specs.declared.moves.Move.{Move}
use Rattle.vs_run_active.specs.vs_process.specs.Executions.{is_enabled}
use Rattle.vs_run_active.specs.vs_process.specs.States.{State}
use Rattle.vs_run_steps.specs.declared.run.RunState.{RunState}
use Rattle.vs_run_steps.specs.Runs.{IsRunOf, marks_of, state_of}
use Rattle.vs_run_steps.specs.Turns.{AreMade}
use Rattle.vs_run_active.specs.Changes.{MarkChanges}

-- so many moves were made in a run, at most so many
pub record AreDone {Q : Type 0} (d : Parts) (limit : ℕ) (old : RunState Q) (taken : ℕ) (now : RunState Q) : Type 0 where
  pub run : IsRunOf d now
  pub within : taken ≤ limit
  pub made : AreMade taken (state_of old) (state_of now)
  pub marked : MarkChanges (marks_of old) (marks_of now) (state_of old).store (state_of now).store

-- some were, where the first of some members could make one of this kind
abbrev pub HasBegun : List ℕ → (ℕ → Move) → State → ℕ → Type 0
HasBegun members kind s taken = (first : ℕ) → slice_get members 0 ≡ Some first → is_enabled s (kind first) ≡ true → 0 < taken
