-- Continuous assignments that have nothing left to do.
use Rattle.std.specs.Prelude.{ℕ, ◌≡◌, true, false, Some, None, List, slice_get}
use Rattle.vs_design.specs.declared.design.Assign.{Assign}
use Rattle.vs_design.specs.Parts.{Parts}
use Rattle.vs_design.specs.Stores.{changes_nothing}
use Rattle.vs_design.specs.WellFormed.{WellFormed}
use Rattle.vs_process.specs.declared.moves.Grain.{Grain}
use Rattle.vs_process.specs.declared.moves.Move.{Move}
use Rattle.vs_process.specs.Executions.{after, Legal}
use Rattle.vs_process.specs.States.{AssignState, State}
use Rattle.vs_process.specs.Steps.{assignment}

-- a continuous assignment that neither has to be evaluated nor has a value that waits to be written (clause 11.3)
abbrev pub IsIdle : AssignState → Type 0
IsIdle x = (x.needs ≡ false) × (x.pending ≡ None)

-- the target of a continuous assignment has its value: the write that an evaluation in this state would make changes nothing (clause 6.1.2)
abbrev pub HasValue : State → Assign → Type 0
HasValue s a = changes_nothing s.store (assignment a.target a.source s.store s.time) ≡ true

-- a continuous assignment of a design, by its number, is in the state, and where it is idle there it has its value
abbrev pub HasValueIfIdle : State → ℕ → Assign → Type 0
HasValueIfIdle s j a = (x : AssignState) × (slice_get s.assigns j ≡ Some x) × (IsIdle x → HasValue s a)

-- in every state that an execution of a well formed design reaches, every continuous assignment that is idle has its value
abbrev pub IdleHaveValues : Type 0
IdleHaveValues =
    (grain : Grain) (d : Parts) → WellFormed d → (moves : List Move) → Legal grain d moves →
    (j : ℕ) (a : Assign) → slice_get d.assigns j ≡ Some a → HasValueIfIdle (after d moves) j a
