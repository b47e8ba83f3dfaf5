-- Steps of one process that are taken one after another.
use Rattle.std.specs.Prelude.{ℕ, zero, suc, ◌≡◌, ◌<◌, ◌||◌, true, Option, Some, None, List, [], ◌++◌, length, slice_get, slice_set}
use Rattle.vs_design.specs.Writes.{Write}
use Rattle.vs_process.specs.vs_strobe.specs.Lines.{Format}
use Rattle.vs_process.specs.declared.gait.Gait.{Gait}
use Rattle.vs_process.specs.Places.{Place, Todo, active_at, going, todo_of}
use Rattle.vs_process.specs.Scripts.{IsStep}
use Rattle.vs_process.specs.Steps.{Next, Out, goes, step}
use Rattle.vs_process.specs.declared.moves.Move.TheVariants.{Step}
use Rattle.vs_process.specs.Executions.{apply, is_enabled}
use Rattle.vs_process.specs.States.{State, calls_after, place_after_step, updates_after, written, written_after}

-- a state with a process at a place
abbrev pub placed : State → ℕ → Place → State
placed s i place = record s { places = slice_set s.places i place }

-- a state with what comes of a step of a process, but for the place of the process itself
abbrev pub left_by : State → ℕ → Out → State
left_by s i out = record (written_after s out.write) {
  updates = updates_after i s.time out.update s.updates;
  calls = calls_after i out.call s.calls;
  finishing = s.finishing || out.finish;
}

-- the bytes of a line, where there is one
abbrev pub text_of_line : Option (List ℕ) → List ℕ
text_of_line None = []
text_of_line (Some text) = text

-- the line of the step of a process at a place
abbrev pub line_at : State → Option Place → Option (List ℕ)
line_at s None = None
line_at s (Some place) = (step (todo_of place) s.store s.time).line

-- what the step of a process prints at once (clause 17.1.1)
abbrev pub step_text : State → ℕ → List ℕ
step_text s i = text_of_line (line_at s (slice_get s.places i))

-- so many steps of a process one after another, each where it is enabled, and what they print
abbrev pub AreTaken : ℕ → ℕ → State → State → List ℕ → Type 0
AreTaken zero i s t text = (t ≡ s) × (text ≡ [])
AreTaken (suc n) i s t text =
    (mid : State) × (before : List ℕ) × AreTaken n i s mid before × (is_enabled mid (Step i) ≡ true) × (t ≡ apply (Step i) mid)
    × (text ≡ before ++ step_text mid i)

-- a process with this to do, at a place of a state that is left otherwise, takes one more step, of which this comes: the state is what the step leaves, with
-- the process at its next place
abbrev pub StepsAreTaken : Type 0
StepsAreTaken =
    (n i : ℕ) (s u : State) (gait : Gait) (todo : Todo) (out : Out) (before : List ℕ) → AreTaken n i s (placed u i (active_at gait todo)) before →
    i < length u.places → IsStep todo u.store u.time out →
    AreTaken (suc n) i s (placed (left_by u i out) i (place_after_step (going gait todo) u.time out.next)) (before ++ text_of_line out.line)

-- at first no step is taken
abbrev pub NoneAreTaken : Type 0
NoneAreTaken = (i : ℕ) (s : State) (place : Place) → slice_get s.places i ≡ Some place → AreTaken 0 i s (placed s i place) []

-- what steps leave, by what comes of them
pub record StepsLeave (u : State) (i : ℕ) (next : Next) : Type 0 where
  pub nothing : left_by u i (goes next) ≡ u
  pub write : (w : Write) → left_by u i (record (goes next) { write = Some w }) ≡ written u w
  pub update : (ticks : ℕ) (w : Write) → left_by u i (record (goes next) { update = Some (ticks, w) }) ≡ record u { updates = updates_after i u.time (Some (ticks, w)) u.updates }
  pub line : (text : List ℕ) → left_by u i (record (goes next) { line = Some text }) ≡ u
  pub call : (format : Format) → left_by u i (record (goes next) { call = Some format }) ≡ record u { calls = calls_after i (Some format) u.calls }
  pub finish : left_by u i (record (goes next) { finish = true }) ≡ record u { finishing = true }

abbrev pub StepsLeaveSo : Type 0
StepsLeaveSo = (u : State) (i : ℕ) (next : Next) → StepsLeave u i next
