-- Of an execution that is complete to a moment a slot has ended: nothing else ends it, and nothing else moves its time.
use Rattle.std.proofs.Common.{◌≡◌, ℕ, ◌<◌, ◌||◌, Bool, true, false, Option, Some, None, List, [], ◌∷◌, ◌++◌, slice_get, refl, sym, subst, ◌∙◌, true≢false, arith}
use Rattle.std.proofs.lemmas.Bool.{ltb-true}
use Rattle.std.proofs.lemmas.List.{append-nil}
use Rattle.std.specs.Prelude.{nat_lt}
use Rattle.vs_design.specs.vs_logic4.specs.declared.digit.Digit.{Digit}
use Rattle.vs_design.specs.Parts.{Parts}
use Rattle.vs_design.specs.Traces.{Slot}
use Rattle.vs_design.specs.Writes.{Write}
use Rattle.vs_process.specs.Places.{Place, todo_of}
use Rattle.vs_process.specs.Steps.{step}
use Rattle.vs_process.specs.declared.moves.Move.{Move}
use Rattle.vs_process.specs.declared.moves.Move.TheVariants.{Step, Evaluate, Propagate, Make, Rouse, Activate, EndSlot}
use Rattle.vs_process.specs.Executions.{after, apply, ended_slot, slots}
use Rattle.vs_process.specs.States.{AssignState, State, Update, evaluate, make, propagate, propagate_value, stepped, written_after}
use Rattle.vs_vcd_reader.specs.ReadBack.{CompleteRunsEndSlots}
use Rattle.vs_vcd_reader.proofs.ClockLemmas.{BeginsAtZero, clocked}

-- ---- what other moves leave

behind_over : (s : State) (o : Option Write) → (written_after s o).over ≡ s.over
behind_over s None = refl
behind_over s (Some w) = refl

step_over : (s : State) (i : ℕ) (o : Option Place) → (stepped s i o).over ≡ s.over
step_over s i None = refl
step_over s i (Some x) = behind_over s (step (todo_of x) s.store s.time).write

evaluate_over : (s : State) (j : ℕ) (o : Option AssignState) → (evaluate s j o).over ≡ s.over
evaluate_over s j None = refl
evaluate_over s j (Some x) = refl

value_over : (s : State) (j : ℕ) (x : AssignState) (o : Option (List Digit)) → (propagate_value s j x o).over ≡ s.over
value_over s j x None = refl
value_over s j x (Some v) = refl

propagate_over : (s : State) (j : ℕ) (o : Option AssignState) → (propagate s j o).over ≡ s.over
propagate_over s j None = refl
propagate_over s j (Some x) = value_over s j x x.pending

make_over : (s : State) (i : ℕ) (o : Option Update) → (make s i o).over ≡ s.over
make_over s i None = refl
make_over s i (Some u) = refl

-- ---- executions that are over

-- a move that ends no slot, after slots
same_over : (xs : List Slot) (over before : Bool) → over ≡ before → (before ≡ true → xs ≡ [] → ⊥) → over ≡ true → xs ++ [] ≡ [] → ⊥
same_over xs over before same h o e = h (sym same ∙ o) (sym (append-nil xs) ∙ e)

some_slot : (xs : List Slot) (x : Slot) → xs ++ x ∷ [] ≡ [] → ⊥
some_slot [] x e = cc
some_slot (y ∷ ys) x e = cc

moved_over : (m : Move) (s : State) (xs : List Slot) → (s.over ≡ true → xs ≡ [] → ⊥) → (apply m s).over ≡ true → xs ++ ended_slot m s ≡ [] → ⊥
moved_over (Step i) s xs h = same_over xs (apply (Step i) s).over s.over (step_over s i (slice_get s.places i)) h
moved_over (Evaluate j) s xs h = same_over xs (apply (Evaluate j) s).over s.over (evaluate_over s j (slice_get s.assigns j)) h
moved_over (Propagate j) s xs h = same_over xs (apply (Propagate j) s).over s.over (propagate_over s j (slice_get s.assigns j)) h
moved_over (Make i) s xs h = same_over xs (apply (Make i) s).over s.over (make_over s i (slice_get s.updates i)) h
moved_over Rouse s xs h = same_over xs s.over s.over refl h
moved_over Activate s xs h = same_over xs s.over s.over refl h
moved_over EndSlot s xs h = λ o e. some_slot xs _ e

over_ended : (d : Parts) (moves : List Move) → (after d moves).over ≡ true → slots d moves ≡ [] → ⊥
over_ended d [] o e = true≢false (sym o)
over_ended d (m ∷ before) o e = moved_over m (after d before) (slots d before) (over_ended d before) o e

-- ---- complete executions

by_time : (until time : ℕ) → time ≡ 0 → nat_lt until time ≡ true → ⊥
by_time until time zero late = let later : until < time = ltb-true until time late in omega (arith, zero, later)

pub complete_ended : CompleteRunsEndSlots
complete_ended grain d moves until legal complete none = by (after d moves).over refl complete
  where
    begins : (after d moves).time ≡ 0
    begins = subst (BeginsAtZero (after d moves).time) none (clocked grain d moves legal).begins

    by : (b : Bool) → (after d moves).over ≡ b → (b || nat_lt until (after d moves).time) ≡ true → ⊥
    by true o h = over_ended d moves o none
    by false o h = by_time until (after d moves).time begins h
