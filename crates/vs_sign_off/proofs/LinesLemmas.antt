-- The lines of an execution that makes no move once it is complete to a moment.
use Rattle.std.proofs.Common.{◌≡◌, ◌≤◌, ◌+◌, ◌++◌, ◌||◌, cond, Bool, true, false, ℕ, List, [], ◌∷◌, slice_get, length, refl, sym, ◌∙◌, ap, ap₂, append-nil, length-append, arith}
use Rattle.std.specs.Prelude.{filter, nat_lt}
use Rattle.std.proofs.lemmas.Bool.{le-leb}
use Rattle.std.proofs.lemmas.List.Elements.{filter-append}
use Rattle.vs_design.specs.Parts.{Parts}
use Rattle.vs_design.specs.Traces.{Line, Slot, SameSlots}
use Rattle.vs_independence.specs.vs_process.specs.declared.moves.Move.{Move}
use Rattle.vs_independence.specs.vs_process.specs.declared.moves.Move.TheVariants.{Step, Evaluate, Propagate, Make, Rouse, Activate, EndSlot}
use Rattle.vs_independence.specs.vs_process.specs.Executions.{after, apply, ended_slot, is_by, is_complete, lines_of, slots, trace}
use Rattle.vs_independence.specs.vs_process.specs.States.{State}
use Rattle.vs_independence.specs.vs_process.proofs.Times.{stepped_over, stepped_time}
use Rattle.vs_simulate.specs.vs_kernel.specs.vs_run_steps.proofs.MoveLemmas.{evaluate_over, make_over, propagate_over, evaluated_time, propagated_time, make_time}
use Rattle.vs_independence.specs.Displays.{DisplaySlot, LinesAreOfSlots, display_slots, displays, ended_display, is_display_by, lines_after, lines_in, lines_so_far}
use Rattle.vs_simulate.specs.vs_kernel.specs.Runs.{StopsAt}
use Rattle.vs_simulate.specs.vs_kernel.proofs.RunsLemmas.{all_kept, by_then}
use Rattle.vs_sign_off.specs.Certified.{AreLinesOf}

-- ---- moves within a slot leave its time

clash : (a : Bool) {P : Type 0} → a ≡ true → a ≡ false → P
clash true h k = cc
clash false h k = cc

-- a state that was left at its time, and not over, is complete where the one before was
unmoved : (until : ℕ) (s t : State) {P : Type 0} → t.over ≡ s.over → t.time ≡ s.time → is_complete until s ≡ false → is_complete until t ≡ true → P
unmoved until s t {P} over time going complete =
    clash (is_complete until t) complete (ap₂ (λ (b : Bool) (n : ℕ). b || nat_lt until n) over time ∙ going)

-- ---- the slot that goes on

-- the move by which an execution is complete ends a slot
ended : (until : ℕ) (m : Move) (s : State) (lines : List Line) → is_complete until s ≡ false → is_complete until (apply m s) ≡ true →
    lines_after m lines s ≡ []
ended until EndSlot s lines going complete = refl
ended until (Step i) s lines going complete =
    unmoved until s (apply (Step i) s) (stepped_over s i (slice_get s.places i)) (stepped_time s i (slice_get s.places i)) going complete
ended until (Evaluate j) s lines going complete =
    unmoved until s (apply (Evaluate j) s) (evaluate_over s j (slice_get s.assigns j)) (evaluated_time s j (slice_get s.assigns j)) going complete
ended until (Propagate j) s lines going complete =
    unmoved until s (apply (Propagate j) s) (propagate_over s j (slice_get s.assigns j)) (propagated_time s j (slice_get s.assigns j)) going complete
ended until (Make i) s lines going complete =
    unmoved until s (apply (Make i) s) (make_over s i (slice_get s.updates i)) (make_time s i (slice_get s.updates i)) going complete
ended until Rouse s lines going complete = unmoved until s (apply Rouse s) refl refl going complete
ended until Activate s lines going complete = unmoved until s (apply Activate s) refl refl going complete

-- so that no slot goes on in which it has made a line
none_so_far : (until : ℕ) (d : Parts) (moves : List Move) → StopsAt until d moves → is_complete until (after d moves) ≡ true → lines_so_far d moves ≡ []
none_so_far until d [] stops complete = refl
none_so_far until d (m ∷ before) stops complete = ended until m (after d before) (lines_so_far d before) stops.1 complete

-- ---- the slots that ended

ended_kept : (until : ℕ) (m : Move) (s : State) (lines : List Line) → s.time ≤ until →
    filter (is_display_by until) (ended_display m s lines) ≡ ended_display m s lines
ended_kept until EndSlot s lines h = ap (λ (b : Bool). cond b (ended_display EndSlot s lines) []) (le-leb s.time until h)
ended_kept until (Step i) s lines h = refl
ended_kept until (Evaluate j) s lines h = refl
ended_kept until (Propagate j) s lines h = refl
ended_kept until (Make i) s lines h = refl
ended_kept until Rouse s lines h = refl
ended_kept until Activate s lines h = refl

kept_more : (p : DisplaySlot → Bool) (xs ys : List DisplaySlot) → filter p xs ≡ xs → filter p ys ≡ ys → filter p (xs ++ ys) ≡ xs ++ ys
kept_more p xs ys h k = filter-append p xs ys ∙ ap₂ (λ (a b : List DisplaySlot). a ++ b) h k

-- each slot that ended did so by the moment
all_displayed : (until : ℕ) (d : Parts) (moves : List Move) → StopsAt until d moves → displays d moves until ≡ display_slots d moves
all_displayed until d [] stops = refl
all_displayed until d (m ∷ before) stops =
    kept_more (is_display_by until) (display_slots d before) (ended_display m (after d before) (lines_so_far d before))
    (all_displayed until d before stops.0) (ended_kept until m (after d before) (lines_so_far d before) (by_then until (after d before) stops.1))

one_count : (m : Move) (s : State) (lines : List Line) → length (ended_display m s lines) ≡ length (ended_slot m s)
one_count EndSlot s lines = refl
one_count (Step i) s lines = refl
one_count (Evaluate j) s lines = refl
one_count (Propagate j) s lines = refl
one_count (Make i) s lines = refl
one_count Rouse s lines = refl
one_count Activate s lines = refl

-- as many with their lines of `$display` as with their stores
count : (d : Parts) (moves : List Move) → length (display_slots d moves) ≡ length (slots d moves)
count d [] = refl
count d (m ∷ before) =
    length-append (display_slots d before) (ended_display m (after d before) (lines_so_far d before))
    ∙ ap₂ (λ (a b : ℕ). a + b) (count d before) (one_count m (after d before) (lines_so_far d before))
    ∙ sym (length-append (slots d before) (ended_slot m (after d before)))

-- ---- lines

-- the lines of slots are those of slots that are the same
alike : (shown : List DisplaySlot) (ss ts : List Slot) → length shown ≡ length ts → SameSlots ss ts → (lines : List Line) → lines ≡ lines_in shown ts →
    AreLinesOf shown ss lines
alike [] [] [] count h lines is = is
alike (x ∷ xs) (s ∷ ss) (t ∷ ts) count h lines is =
    (t.lines, lines_in xs ts, is, (λ text. sym (h.0.lines text)), alike xs ss ts (omega (arith, count)) h.1 (lines_in xs ts) refl)
alike [] [] (t ∷ ts) count h lines is = absurd h
alike [] (s ∷ ss) [] count h lines is = absurd h
alike (x ∷ xs) [] (t ∷ ts) count h lines is = absurd h
alike (x ∷ xs) (s ∷ ss) [] count h lines is = absurd h
alike [] (s ∷ ss) (t ∷ ts) count h lines is = cc
alike (x ∷ xs) [] [] count h lines is = cc

-- the lines of an execution that is complete to a moment are those of slots that are the same as its own
pub lines_alike : (until : ℕ) (d : Parts) (moves : List Move) (ss : List Slot) → LinesAreOfSlots → StopsAt until d moves →
    is_complete until (after d moves) ≡ true → SameSlots ss (trace d moves until).slots → AreLinesOf (displays d moves until) ss (lines_of d moves)
lines_alike until d moves ss law stops complete h =
    let shown = all_displayed until d moves stops in
    let kept = all_kept until d moves stops in
    alike (displays d moves until) ss (trace d moves until).slots
    (ap (λ (l : List DisplaySlot). length l) shown ∙ count d moves ∙ ap (λ (l : List Slot). length l) (sym kept)) h (lines_of d moves)
    (law d moves ∙ ap (λ (l : List Line). lines_in (display_slots d moves) (slots d moves) ++ l) (none_so_far until d moves stops complete)
    ∙ append-nil (lines_in (display_slots d moves) (slots d moves)) ∙ ap₂ (λ (a : List DisplaySlot) (s : List Slot). lines_in a s) (sym shown) (sym kept))
