-- Executions of designs without `$display`: no step makes a line.
use Rattle.std.proofs.Common.{◌≡◌, ℕ, zero, suc, ◌+◌, ◌==◌, ◌||◌, not, Bool, true, false, Option, Some, None, List, [], ◌∷◌, ◌++◌, map, slice_get, refl, sym, ◌∙◌, ap}
use Rattle.std.specs.List.{list_any, list_all}
use Rattle.std.specs.declared.vec.Vec.{Vec}
use Rattle.std.specs.declared.alloc.Global.{Global}
use Rattle.std.proofs.lemmas.Bool.{and_from, cond_both, not-true, or_from, or_parts, true≢false}
use Rattle.std.proofs.lemmas.List.Folds.{list_all-map, list_any-append}
use Rattle.vs_design.specs.vs_logic4.specs.declared.digit.Digit.{Digit}
use Rattle.vs_design.specs.vs_logic4.proofs.Basics.{all_at}
use Rattle.vs_design.specs.vs_logic4.specs.Comparisons.{truth}
use Rattle.vs_design.specs.declared.design.Process.{Process}
use Rattle.vs_design.specs.declared.expression.Typed.{Typed}
use Rattle.vs_design.specs.declared.statement.CallKind.{CallKind}
use Rattle.vs_design.specs.declared.statement.CallKind.TheVariants.{Display, Strobe}
use Rattle.vs_design.specs.declared.statement.Statement.{Statement}
use Rattle.vs_design.specs.declared.statement.Statement.TheViews.{out-Statement}
use Rattle.vs_design.specs.declared.statement.Statement.TheOpen.{Statement-F}
use Rattle.vs_design.specs.declared.statement.Statement.TheFolds.{fold_out-Statement, map-Statement}
use Rattle.vs_design.specs.Parts.{Parts}
use Rattle.vs_design.specs.Stores.{Store}
use Rattle.vs_design.specs.Writes.{Write}
use Rattle.vs_process.specs.vs_eval.specs.Waking.{wake_any}
use Rattle.vs_process.specs.vs_eval.specs.Values.{value_of}
use Rattle.vs_process.specs.vs_strobe.specs.Lines.{Format, format_of_call}
use Rattle.vs_process.specs.declared.gait.Gait.{Gait}
use Rattle.vs_process.specs.declared.gait.Gait.TheVariants.{Fresh, Woken}
use Rattle.vs_process.specs.Drafts.{flat_all}
use Rattle.vs_process.specs.Places.{Item, perform, turns, Todo, Place, going, sleeping, inactive, waiting, ended, active_at, flat, start_place, stepped_gait, todo_of}
use Rattle.vs_process.specs.Steps.{Next, on, after as delayed, wait, step, statement_step, flat_item, taken, turns_for, repeated, display_line}
use Rattle.vs_process.specs.declared.moves.Move.{Move}
use Rattle.vs_process.specs.declared.moves.Move.TheVariants.{Step, Evaluate, Propagate, Make, Rouse, Activate, EndSlot}
use Rattle.vs_process.specs.States.{AssignState, State, Update, evaluate, make, paused, place_after_step, propagate, propagate_value, roused, start, stepped, wakened, woken_at, written, written_after}
use Rattle.vs_process.specs.Executions.{after, apply, ends, next_time, line_by, places_at, step_lines}
use Rattle.vs_process.proofs.ProcessLists.{all_set, list_all_like, none_at}
use Rattle.vs_process.proofs.WellFormed.{branch_each, taken_each}
use Rattle.vs_process.proofs.ThreadsTodos.{flat_each}
use Rattle.vs_sign_off.specs.Displays.{has_display, has_display_step, is_display, prints_at_once}
use Rattle.vs_sign_off.proofs.DisplayLemmas.{display_Block}

-- ---- what is to be done

abbrev next_todo : Next → Todo
next_todo (on rest) = rest
next_todo (delayed n ticks rest) = rest
next_todo (wait n terms rest) = rest

-- whether something that is to be done has a `$display`
abbrev pub item_displays : Item → Bool
item_displays (perform s) = has_display s
item_displays (turns n s) = has_display s

abbrev pub todo_displays : Todo → Bool
todo_displays todo = list_any item_displays todo

both_silent : (xs ys : Todo) → todo_displays xs ≡ false → todo_displays ys ≡ false → todo_displays (xs ++ ys) ≡ false
both_silent xs ys x y = list_any-append item_displays xs ys ∙ or_from (todo_displays xs) (todo_displays ys) x y

-- what is to be done for a statement without one has none
silent_flat : (s : Statement) → has_display s ≡ false → todo_displays (flat s) ≡ false
silent_flat =
    flat_each (λ s todo. has_display s ≡ false → todo_displays todo ≡ false) (λ s h. or_from (has_display s) false h refl)
    (λ v each h. row v.items (λ i s is. each i s is (none_at has_display v.items i s is (sym (display_Block v) ∙ h))))
  where
    row : (xs : List Statement) → ((i : ℕ) (s : Statement) → slice_get xs i ≡ Some s → todo_displays (flat s) ≡ false) → todo_displays (flat_all xs) ≡ false
    row [] h = refl
    row (x ∷ xs) h = both_silent (flat x) (flat_all xs) (h 0 x refl) (row xs (λ i. h (suc i)))

silent_repeated : (n : ℕ) (s : Statement) (rest : Todo) → has_display s ≡ false → todo_displays rest ≡ false → todo_displays (repeated n s rest) ≡ false
silent_repeated zero s rest h r = r
silent_repeated (suc n) s rest h r = both_silent (flat s) (turns n s ∷ rest) (silent_flat s h) (or_from (has_display s) (todo_displays rest) h r)

-- the statements of the items of a `case` without one
silent_items : (xs : List (Vec Typed Global × Statement)) → list_any (λ (i : Vec Typed Global × Bool). i.1) (map (λ (i : Vec Typed Global × Statement). (i.0, has_display i.1)) xs) ≡ false →
    (i : ℕ) (z : Vec Typed Global × Statement) → slice_get xs i ≡ Some z → has_display z.1 ≡ false
silent_items [] h i z is = cc
silent_items (y ∷ xs) h zero z is = let e : y ≡ z = cc in ap (λ (i : Vec Typed Global × Statement). has_display i.1) (sym e) ∙ (or_parts (has_display y.1) _ h).0
silent_items (y ∷ xs) h (suc i) z is = silent_items xs (or_parts (has_display y.1) _ h).1 i z is

-- one layer of a statement has none
abbrev layer_displays : Statement-F Statement → Bool
layer_displays f = has_display_step (map-Statement Statement Bool has_display f)

silent_statement : (s : Statement) (f : Statement-F Statement) (rest : Todo) (store : Store) (time : ℕ) →
    has_display s ≡ false → layer_displays f ≡ false → todo_displays rest ≡ false → todo_displays (next_todo (statement_step s f rest store time).next) ≡ false
silent_statement s (Statement-F.Null n) rest store time whole h r = r
silent_statement s (Statement-F.Assign n t e) rest store time whole h r = r
silent_statement s (Statement-F.Later n ticks t e) rest store time whole h r = r
silent_statement s (Statement-F.Call n c) rest store time whole h r = r
silent_statement s (Statement-F.Finish n) rest store time whole h r = r
silent_statement s (Statement-F.Block all) rest store time whole h r = both_silent (flat s) rest (silent_flat s whole) r
silent_statement s (Statement-F.Delay n ticks body) rest store time whole h r = both_silent (flat body.value) rest (silent_flat body.value h) r
silent_statement s (Statement-F.Event n terms body) rest store time whole h r = both_silent (flat body.value) rest (silent_flat body.value h) r
silent_statement s (Statement-F.If n e a b) rest store time whole h r =
    let parts = or_parts (has_display a.value) (has_display b.value) h in
    branch_each (λ (t : Todo). todo_displays (t ++ rest) ≡ false) (truth (value_of e store time)) (flat a.value) (flat b.value)
    (both_silent (flat a.value) rest (silent_flat a.value parts.0) r) (both_silent (flat b.value) rest (silent_flat b.value parts.1) r)
silent_statement s (Statement-F.Case n kind x items) rest store time whole h r =
    taken_each (λ o. todo_displays (flat_item o ++ rest) ≡ false) kind (value_of x store time) store time items.items r
    (λ i z is. both_silent (flat z.1) rest (silent_flat z.1 (silent_items items.items h i z is)) r)
silent_statement s (Statement-F.While n e body) rest store time whole h r =
    branch_each (λ (t : Todo). todo_displays t ≡ false) (truth (value_of e store time)) (flat body.value ++ perform s ∷ rest) rest
    (both_silent (flat body.value) (perform s ∷ rest) (silent_flat body.value h) (or_from (has_display s) (todo_displays rest) whole r)) r
silent_statement s (Statement-F.Repeat n signed e body) rest store time whole h r = silent_repeated (turns_for signed (value_of e store time)) body.value rest h r
silent_statement s (Statement-F.Forever n body) rest store time whole h r =
    both_silent (flat body.value) (perform s ∷ rest) (silent_flat body.value h) (or_from (has_display s) (todo_displays rest) whole r)

opened : (s : Statement) → has_display s ≡ false → layer_displays (out-Statement s) ≡ false
opened s h = sym (fold_out-Statement Bool has_display_step s) ∙ h

-- so is what it has to do behind a step
silent_next : (todo : Todo) (store : Store) (time : ℕ) → todo_displays todo ≡ false → todo_displays (next_todo (step todo store time).next) ≡ false
silent_next [] store time h = refl
silent_next (perform s ∷ rest) store time h =
    let parts = or_parts (has_display s) (todo_displays rest) h in silent_statement s (out-Statement s) rest store time parts.0 (opened s parts.0) parts.1
silent_next (turns n s ∷ rest) store time h = let parts = or_parts (has_display s) (todo_displays rest) h in silent_repeated n s rest parts.0 parts.1

-- ---- the line of a step

call_line : (kind : CallKind) (f : Format) (store : Store) (time : ℕ) → is_display kind ≡ false → display_line kind f store time ≡ None
call_line Display f store time h = absurd (true≢false h)
call_line Strobe f store time h = refl

statement_line : (s : Statement) (f : Statement-F Statement) (rest : Todo) (store : Store) (time : ℕ) → layer_displays f ≡ false → (statement_step s f rest store time).line ≡ None
statement_line s (Statement-F.Null n) rest store time h = refl
statement_line s (Statement-F.Assign n t e) rest store time h = refl
statement_line s (Statement-F.Later n ticks t e) rest store time h = refl
statement_line s (Statement-F.Call n c) rest store time h = call_line c.kind (format_of_call c) store time h
statement_line s (Statement-F.Finish n) rest store time h = refl
statement_line s (Statement-F.Block all) rest store time h = refl
statement_line s (Statement-F.Delay n ticks body) rest store time h = refl
statement_line s (Statement-F.Event n terms body) rest store time h = refl
statement_line s (Statement-F.If n e a b) rest store time h = refl
statement_line s (Statement-F.Case n kind x items) rest store time h = refl
statement_line s (Statement-F.While n e body) rest store time h = refl
statement_line s (Statement-F.Repeat n signed e body) rest store time h = refl
statement_line s (Statement-F.Forever n body) rest store time h = refl

no_line : (todo : Todo) (store : Store) (time : ℕ) → todo_displays todo ≡ false → (step todo store time).line ≡ None
no_line [] store time h = refl
no_line (perform s ∷ rest) store time h = statement_line s (out-Statement s) rest store time (opened s (or_parts (has_display s) (todo_displays rest) h).0)
no_line (turns n s ∷ rest) store time h = refl

-- ---- places

-- whether a process at a place has no `$display` to do
abbrev pub is_silent : Place → Bool
is_silent place = not (todo_displays (todo_of place))

silent_active : (gait : Gait) (todo : Todo) → not (todo_displays todo) ≡ true → is_silent (active_at gait todo) ≡ true
silent_active gait [] h = refl
silent_active gait (i ∷ rest) h = h

silent_paused : (time ticks : ℕ) (todo : Todo) → not (todo_displays todo) ≡ true → is_silent (paused time ticks todo) ≡ true
silent_paused time ticks todo h = cond_both (ticks == 0) (inactive todo) (sleeping (time + ticks) todo) (λ p. is_silent p ≡ true) (λ e. h) (λ e. h)

silent_behind : (place : Place) (time : ℕ) (next : Next) → not (todo_displays (next_todo next)) ≡ true → is_silent (place_after_step place time next) ≡ true
silent_behind (going gait todo) time (on rest) h = silent_active (stepped_gait gait) rest h
silent_behind (sleeping due todo) time (on rest) h = refl
silent_behind (inactive todo) time (on rest) h = refl
silent_behind (waiting terms todo) time (on rest) h = refl
silent_behind ended time (on rest) h = refl
silent_behind (going gait todo) time (delayed n ticks rest) h = silent_paused time ticks rest h
silent_behind (sleeping due todo) time (delayed n ticks rest) h = silent_paused time ticks rest h
silent_behind (inactive todo) time (delayed n ticks rest) h = silent_paused time ticks rest h
silent_behind (waiting terms todo) time (delayed n ticks rest) h = silent_paused time ticks rest h
silent_behind ended time (delayed n ticks rest) h = silent_paused time ticks rest h
silent_behind (going gait todo) time (wait n terms rest) h = h
silent_behind (sleeping due todo) time (wait n terms rest) h = h
silent_behind (inactive todo) time (wait n terms rest) h = h
silent_behind (waiting t todo) time (wait n terms rest) h = h
silent_behind ended time (wait n terms rest) h = h

silent_roused : (p : Place) → is_silent p ≡ true → is_silent (roused p) ≡ true
silent_roused (going gait todo) h = h
silent_roused (sleeping due todo) h = h
silent_roused (inactive todo) h = silent_active Woken todo h
silent_roused (waiting terms todo) h = h
silent_roused ended h = h

silent_wakened : (old new : Store) (p : Place) → is_silent p ≡ true → is_silent (wakened old new p) ≡ true
silent_wakened old new (going gait todo) h = h
silent_wakened old new (sleeping due todo) h = h
silent_wakened old new (inactive todo) h = h
silent_wakened old new (waiting terms todo) h =
    cond_both (wake_any terms old new) (active_at Woken todo) (waiting terms todo) (λ p. is_silent p ≡ true) (λ e. silent_active Woken todo h) (λ e. h)
silent_wakened old new ended h = h

silent_woken : (t : ℕ) (p : Place) → is_silent p ≡ true → is_silent (woken_at t p) ≡ true
silent_woken t (going gait todo) h = h
silent_woken t (inactive todo) h = h
silent_woken t (waiting terms todo) h = h
silent_woken t ended h = h
silent_woken t (sleeping due todo) h = cond_both (due == t) (active_at Woken todo) (sleeping due todo) (λ p. is_silent p ≡ true) (λ e. silent_active Woken todo h) (λ e. h)

-- all places behind the same change of each
each_silent : (f : Place → Place) → ((p : Place) → is_silent p ≡ true → is_silent (f p) ≡ true) → (places : List Place) → list_all is_silent places ≡ true →
    list_all is_silent (map f places) ≡ true
each_silent f keeps places h = list_all-map is_silent f places ∙ list_all_like is_silent (λ p. is_silent (f p)) places keeps h

places_later : (over : Bool) (next : Option ℕ) (places : List Place) → list_all is_silent places ≡ true → list_all is_silent (places_at over next places) ≡ true
places_later true next places h = h
places_later false None places h = h
places_later false (Some t) places h = each_silent (woken_at t) (silent_woken t) places h

-- ---- executions

abbrev Silent : State → Type 0
Silent s = list_all is_silent s.places ≡ true

silent_write : (s : State) (w : Option Write) → Silent s → Silent (written_after s w)
silent_write s None h = h
silent_write s (Some w) h = each_silent (wakened s.store (written s w).store) (silent_wakened s.store (written s w).store) s.places h

silent_step : (s : State) (i : ℕ) (o : Option Place) → slice_get s.places i ≡ o → Silent s → Silent (stepped s i o)
silent_step s i None is h = h
silent_step s i (Some place) is h =
    let todo = todo_of place in
    let own : todo_displays todo ≡ false = not-true (todo_displays todo) (all_at is_silent s.places i place is h) in
    let out = step todo s.store s.time in
    all_set is_silent (written_after s out.write).places i (place_after_step place s.time out.next)
    (silent_behind place s.time out.next (ap not (silent_next todo s.store s.time own))) (silent_write s out.write h)

silent_evaluate : (s : State) (j : ℕ) (o : Option AssignState) → Silent s → Silent (evaluate s j o)
silent_evaluate s j None h = h
silent_evaluate s j (Some x) h = h

silent_value : (s : State) (j : ℕ) (x : AssignState) (o : Option (List Digit)) → Silent s → Silent (propagate_value s j x o)
silent_value s j x None h = h
silent_value s j x (Some digits) h =
    let new = (propagate_value s j x (Some digits)).store in each_silent (wakened s.store new) (silent_wakened s.store new) s.places h

silent_propagate : (s : State) (j : ℕ) (o : Option AssignState) → Silent s → Silent (propagate s j o)
silent_propagate s j None h = h
silent_propagate s j (Some x) h = silent_value s j x x.pending h

silent_make : (s : State) (i : ℕ) (o : Option Update) → Silent s → Silent (make s i o)
silent_make s i None h = h
silent_make s i (Some u) h = let new = (make s i (Some u)).store in each_silent (wakened s.store new) (silent_wakened s.store new) s.places h

silent_move : (m : Move) (s : State) → Silent s → Silent (apply m s)
silent_move (Step i) s h = silent_step s i (slice_get s.places i) refl h
silent_move (Evaluate j) s h = silent_evaluate s j (slice_get s.assigns j) h
silent_move (Propagate j) s h = silent_propagate s j (slice_get s.assigns j) h
silent_move (Make i) s h = silent_make s i (slice_get s.updates i) h
silent_move Rouse s h = each_silent roused silent_roused s.places h
silent_move Activate s h = h
silent_move EndSlot s h = places_later (ends s) (next_time s) s.places h

silent_start : (ps : List Process) → list_any (λ (p : Process). has_display p.body) ps ≡ false → list_all is_silent (map (λ (p : Process). start_place p.body) ps) ≡ true
silent_start [] h = refl
silent_start (p ∷ ps) h =
    let parts = or_parts (has_display p.body) (list_any (λ (p : Process). has_display p.body) ps) h in
    and_from (is_silent (start_place p.body)) (list_all is_silent (map (λ (p : Process). start_place p.body) ps))
    (silent_active Fresh (flat p.body) (ap not (silent_flat p.body parts.0))) (silent_start ps parts.1)

silent_after : (d : Parts) (moves : List Move) → prints_at_once d ≡ false → Silent (after d moves)
silent_after d [] h = silent_start d.processes h
silent_after d (m ∷ before) h = silent_move m (after d before) (silent_after d before h)

-- a step makes no line
pub step_silent : (d : Parts) (moves : List Move) (i : ℕ) → prints_at_once d ≡ false →
    step_lines (after d moves) i (slice_get (after d moves).places i) ≡ []
step_silent d moves i h = by (slice_get (after d moves).places i) refl
  where
    by : (o : Option Place) → slice_get (after d moves).places i ≡ o → step_lines (after d moves) i o ≡ []
    by None is = refl
    by (Some place) is =
        let own = not-true (todo_displays (todo_of place)) (all_at is_silent (after d moves).places i place is (silent_after d moves h)) in
        ap (λ (o : Option (List ℕ)). line_by i o) (no_line (todo_of place) (after d moves).store (after d moves).time own)
