-- Moves that end no slot, and moves that end no execution.
use Rattle.std.proofs.Common.{◌≡◌, ℕ, Bool, true, Option, Some, None, List, [], slice_get, refl, sym, ◌∙◌, ap}
use Rattle.std.proofs.lemmas.Bool.{false≢true}
use Rattle.vs_design.specs.vs_logic4.specs.declared.digit.Digit.{Digit}
use Rattle.vs_design.specs.Writes.{Write}
use Rattle.vs_run_active.specs.vs_process.specs.Places.{Place}
use Rattle.vs_run_active.specs.vs_process.specs.declared.moves.Move.{Move}
use Rattle.vs_run_active.specs.vs_process.specs.declared.moves.Move.TheVariants.{Step, Evaluate, Propagate, Make, Rouse, Activate, EndSlot}
use Rattle.vs_run_active.specs.vs_process.specs.Executions.{apply, ended_slot, move_lines}
use Rattle.vs_run_active.specs.vs_process.specs.States.{State, AssignState, Update, evaluate, propagate, propagate_value, make, written_after}
use Rattle.vs_run_active.specs.vs_process.proofs.Times.{stepped_over}
use Rattle.vs_process.proofs.Times.{stepped_time}
use Rattle.vs_run_steps.specs.Insides.{inside_by_flags}
use Rattle.vs_run_steps.specs.Turns.{is_silent}

-- only the end of a slot ends one
pub not_ended : (m : Move) (s : State) → (m ≡ EndSlot → ⊥) → ended_slot m s ≡ []
not_ended EndSlot s h = absurd (h refl)
not_ended (Step i) s h = refl
not_ended (Evaluate j) s h = refl
not_ended (Propagate j) s h = refl
not_ended (Make i) s h = refl
not_ended Rouse s h = refl
not_ended Activate s h = refl

-- no move but the end of a slot ends the execution
pub behind_over : (s : State) (w : Option Write) → (written_after s w).over ≡ s.over
behind_over s None = refl
behind_over s (Some w) = refl

pub evaluate_over : (s : State) (j : ℕ) (o : Option AssignState) → (evaluate s j o).over ≡ s.over
evaluate_over s j None = refl
evaluate_over s j (Some x) = refl

value_over : (s : State) (j : ℕ) (x : AssignState) (o : Option (List Digit)) → (propagate_value s j x o).over ≡ s.over
value_over s j x None = refl
value_over s j x (Some v) = refl

pub propagate_over : (s : State) (j : ℕ) (o : Option AssignState) → (propagate s j o).over ≡ s.over
propagate_over s j None = refl
propagate_over s j (Some x) = value_over s j x x.pending

pub make_over : (s : State) (i : ℕ) (o : Option Update) → (make s i o).over ≡ s.over
make_over s i None = refl
make_over s i (Some u) = refl

-- nor changes the time
pub evaluated_time : (s : State) (j : ℕ) (o : Option AssignState) → (evaluate s j o).time ≡ s.time
evaluated_time s j None = refl
evaluated_time s j (Some x) = refl

pub value_time : (s : State) (j : ℕ) (x : AssignState) (o : Option (List Digit)) → (propagate_value s j x o).time ≡ s.time
value_time s j x None = refl
value_time s j x (Some v) = refl

pub propagated_time : (s : State) (j : ℕ) (o : Option AssignState) → (propagate s j o).time ≡ s.time
propagated_time s j None = refl
propagated_time s j (Some x) = value_time s j x x.pending

pub make_time : (s : State) (i : ℕ) (o : Option Update) → (make s i o).time ≡ s.time
make_time s i None = refl
make_time s i (Some u) = refl

-- an evaluation and an update leave the time and the end
pub silent_stands : (s : State) (m : Move) → is_silent m ≡ true → ((apply m s).over ≡ s.over) × ((apply m s).time ≡ s.time)
silent_stands s (Evaluate j) h = (evaluate_over s j (slice_get s.assigns j), evaluated_time s j (slice_get s.assigns j))
silent_stands s (Propagate j) h = (propagate_over s j (slice_get s.assigns j), propagated_time s j (slice_get s.assigns j))
silent_stands s (Make i) h = (make_over s i (slice_get s.updates i), make_time s i (slice_get s.updates i))
silent_stands s (Step i) h = absurd (false≢true h)
silent_stands s Rouse h = absurd (false≢true h)
silent_stands s Activate h = absurd (false≢true h)
silent_stands s EndSlot h = absurd (false≢true h)

-- they end no slot
pub silent_inner : (m : Move) → is_silent m ≡ true → m ≡ EndSlot → ⊥
silent_inner m h e = false≢true (sym (ap is_silent e) ∙ h)

-- and print nothing
pub silent_lines : (s : State) (m : Move) → is_silent m ≡ true → move_lines m s ≡ []
silent_lines s (Evaluate j) h = refl
silent_lines s (Propagate j) h = refl
silent_lines s (Make i) h = refl
silent_lines s (Step i) h = absurd (false≢true h)
silent_lines s Rouse h = absurd (false≢true h)
silent_lines s Activate h = absurd (false≢true h)
silent_lines s EndSlot h = absurd (false≢true h)

-- no block has left its control after one
pub silent_inside : (blocks : List Bool) (xs : List Place) (m : Move) → is_silent m ≡ true → inside_by_flags blocks xs m ≡ None
silent_inside blocks xs (Evaluate j) h = refl
silent_inside blocks xs (Propagate j) h = refl
silent_inside blocks xs (Make i) h = refl
silent_inside blocks xs (Step i) h = absurd (false≢true h)
silent_inside blocks xs Rouse h = absurd (false≢true h)
silent_inside blocks xs Activate h = absurd (false≢true h)
silent_inside blocks xs EndSlot h = absurd (false≢true h)

-- a step of a process leaves the time and the end
pub step_stands : (s : State) (i : ℕ) → ((apply (Step i) s).over ≡ s.over) × ((apply (Step i) s).time ≡ s.time)
step_stands s i = (stepped_over s i (slice_get s.places i), stepped_time s i (slice_get s.places i))

-- it ends no slot
pub step_inner : (i : ℕ) → Step i ≡ EndSlot → ⊥
step_inner i e = cc
