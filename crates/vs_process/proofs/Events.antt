-- A process waits for terms of its own text alone.
use Rattle.std.proofs.Common.{◌≡◌, ℕ, zero, suc, ◌+◌, ◌==◌, ◌++◌, Bool, true, false, Option, Some, None, List, [], ◌∷◌, map, get_or, slice_get, slice_set, refl, sym, ◌∙◌, ap, subst, inl, inr, eq-eqb, if◌then◌else◌}
use Rattle.std.specs.List.{list_all, list_any, Contains}
use Rattle.std.specs.declared.vec.Vec.{Vec}
use Rattle.std.specs.declared.alloc.Global.{Global}
use Rattle.std.proofs.lemmas.Bool.{and_parts, and_from, cases_Bool, cond_both}
use Rattle.std.proofs.lemmas.List.Folds.{list_all-append}
use Rattle.vs_design.specs.vs_logic4.specs.declared.digit.Digit.{Digit}
use Rattle.vs_design.specs.vs_logic4.specs.Comparisons.{truth}
use Rattle.vs_design.specs.declared.design.Process.{Process}
use Rattle.vs_design.specs.declared.expression.Typed.{Typed}
use Rattle.vs_design.specs.declared.statement.EventTerm.{EventTerm}
use Rattle.vs_design.specs.declared.statement.Statement.{Statement}
use Rattle.vs_design.specs.declared.statement.Statement.TheVariants.{Block, rolls-Block}
use Rattle.vs_design.specs.declared.statement.Statement.TheViews.{out-Statement}
use Rattle.vs_design.specs.declared.statement.Statement.TheOpen.{Statement-F}
use Rattle.vs_design.specs.declared.statement.Statement.TheFolds.{fold-roll-Statement, fold_out-Statement, map-Statement}
use Rattle.vs_design.specs.Parts.{Parts}
use Rattle.vs_design.specs.Statements.{event_terms, event_terms_step, listens}
use Rattle.vs_design.specs.Stores.{Store, put}
use Rattle.vs_design.specs.Uses.{is_of, joined}
use Rattle.vs_design.specs.Writes.{Write}
use Rattle.vs_process.specs.vs_eval.specs.Targets.{assigned}
use Rattle.vs_process.specs.vs_eval.specs.Values.{value_of}
use Rattle.vs_process.specs.vs_eval.specs.Waking.{wake_any}
use Rattle.vs_process.specs.declared.gait.Gait.{Gait}
use Rattle.vs_process.specs.declared.gait.Gait.TheVariants.{Fresh, Woken}
use Rattle.vs_process.specs.Places.{Item, perform, turns, Todo, Place, going, sleeping, inactive, waiting, ended, active_at, stepped_gait, start_place, todo_of, flat}
use Rattle.vs_process.specs.Steps.{Next, on, after, wait, step, statement_step, flat_item, turns_for, repeated}
use Rattle.vs_process.specs.declared.moves.Move.{Move}
use Rattle.vs_process.specs.declared.moves.Move.TheVariants.{Step, Evaluate, Propagate, Make, Rouse, Activate, EndSlot}
use Rattle.vs_process.specs.Drafts.{flat_all}
use Rattle.vs_process.specs.States.{State, AssignState, Update, wakened, written_after, place_after_step, paused, stepped, evaluate, propagate, propagate_value, make, roused, woken_at, triggered}
use Rattle.vs_process.specs.Executions as executions
use Rattle.vs_process.specs.Executions.{apply, ends, next_time, places_at}
use Rattle.std.proofs.lemmas.Map.Keys.{any_passes_from_place as at_any}
use Rattle.vs_process.specs.Edges.{IsHeard}
use Rattle.vs_process.specs.Threads.{Thread, Fired, found, turn_at, turn, iterate, opening, IsThread}
use Rattle.vs_process.proofs.WellFormed.{branch_each}
use Rattle.vs_process.proofs.ThreadLists.{place_of}
use Rattle.vs_process.proofs.ThreadsTodos.{flat_each, taken_each}

-- ---- terms

-- the terms of the event controls of what is to be done
abbrev pub item_terms : Item → List EventTerm
item_terms (perform s) = event_terms s
item_terms (turns n s) = event_terms s

abbrev pub todo_terms : Todo → List EventTerm
todo_terms todo = joined (map item_terms todo)

abbrev pub next_terms : Next → List EventTerm
next_terms (on rest) = todo_terms rest
next_terms (after n ticks rest) = todo_terms rest
next_terms (wait n terms rest) = terms ++ todo_terms rest

-- those that a process waits for, and those of what it has to do
abbrev pub place_terms : Place → List EventTerm
place_terms (going gait todo) = todo_terms todo
place_terms (sleeping due todo) = todo_terms todo
place_terms (inactive todo) = todo_terms todo
place_terms (waiting terms todo) = terms ++ todo_terms todo
place_terms ended = []

-- all of some terms pass a test
abbrev pub Pass : (EventTerm → Bool) → List EventTerm → Type 0
Pass p terms = list_all p terms ≡ true

pass_parts : (p : EventTerm → Bool) (xs ys : List EventTerm) → Pass p (xs ++ ys) → Pass p xs × Pass p ys
pass_parts p xs ys h = and_parts (list_all p xs) (list_all p ys) (sym (list_all-append p xs ys) ∙ h)

pass_both : (p : EventTerm → Bool) (xs ys : List EventTerm) → Pass p xs → Pass p ys → Pass p (xs ++ ys)
pass_both p xs ys x y = list_all-append p xs ys ∙ and_from (list_all p xs) (list_all p ys) x y

pass_joined : {A : Type 0} (p : EventTerm → Bool) (f : A → List EventTerm) (xs : List A) → Pass p (joined (map f xs)) → (i : ℕ) (x : A) → slice_get xs i ≡ Some x → Pass p (f x)
pass_joined p f [] h i x is = cc
pass_joined p f (y ∷ xs) h zero x is = let e : y ≡ x = cc in ap (λ z. list_all p (f z)) (sym e) ∙ (pass_parts p (f y) (joined (map f xs)) h).0
pass_joined p f (y ∷ xs) h (suc i) x is = pass_joined p f xs (pass_parts p (f y) (joined (map f xs)) h).1 i x is

-- ---- steps

before_pass : (p : EventTerm → Bool) (xs ys : Todo) → Pass p (todo_terms xs) → Pass p (todo_terms ys) → Pass p (todo_terms (xs ++ ys))
before_pass p [] ys x y = y
before_pass p (i ∷ xs) ys x y =
    let parts = pass_parts p (item_terms i) (todo_terms xs) x in
    pass_both p (item_terms i) (todo_terms (xs ++ ys)) parts.0 (before_pass p xs ys parts.1 y)

block_terms : (v : Vec Statement Global) → event_terms (Block v) ≡ joined (map event_terms v.items)
block_terms v = ap event_terms (sym (rolls-Block v)) ∙ fold-roll-Statement (List EventTerm) event_terms_step (Statement-F.Block v)

flat_pass : (p : EventTerm → Bool) (s : Statement) → Pass p (event_terms s) → Pass p (todo_terms (flat s))
flat_pass p =
    flat_each (λ s todo. Pass p (event_terms s) → Pass p (todo_terms todo)) (λ s h. pass_both p (event_terms s) [] h refl)
    (λ v each h. row v.items (λ i s is. each i s is (pass_joined p event_terms v.items (ap (list_all p) (sym (block_terms v)) ∙ h) i s is)))
  where
    row : (xs : List Statement) → ((i : ℕ) (s : Statement) → slice_get xs i ≡ Some s → Pass p (todo_terms (flat s))) → Pass p (todo_terms (flat_all xs))
    row [] h = refl
    row (x ∷ xs) h = before_pass p (flat x) (flat_all xs) (h 0 x refl) (row xs (λ i. h (suc i)))

repeated_pass : (p : EventTerm → Bool) (n : ℕ) (s : Statement) (rest : Todo) → Pass p (event_terms s) → Pass p (todo_terms rest) → Pass p (todo_terms (repeated n s rest))
repeated_pass p zero s rest h r = r
repeated_pass p (suc n) s rest h r = before_pass p (flat s) (turns n s ∷ rest) (flat_pass p s h) (pass_both p (event_terms s) (todo_terms rest) h r)

statement_pass : (p : EventTerm → Bool) (s : Statement) (f : Statement-F Statement) (rest : Todo) (store : Store) (time : ℕ) →
    Pass p (event_terms s) → Pass p (event_terms_step (map-Statement Statement (List EventTerm) event_terms f)) → Pass p (todo_terms rest) → Pass p (next_terms (statement_step s f rest store time).next)
statement_pass p s (Statement-F.Null n) rest store time whole h r = r
statement_pass p s (Statement-F.Assign n t e) rest store time whole h r = r
statement_pass p s (Statement-F.Later n ticks t e) rest store time whole h r = r
statement_pass p s (Statement-F.Call n c) rest store time whole h r = r
statement_pass p s (Statement-F.Finish n) rest store time whole h r = r
statement_pass p s (Statement-F.Block all) rest store time whole h r = before_pass p (flat s) rest (flat_pass p s whole) r
statement_pass p s (Statement-F.Delay n ticks body) rest store time whole h r = before_pass p (flat body.value) rest (flat_pass p body.value h) r
statement_pass p s (Statement-F.Event n terms body) rest store time whole h r =
    let parts = pass_parts p terms.items (event_terms body.value) h in
    pass_both p terms.items (todo_terms (flat body.value ++ rest)) parts.0 (before_pass p (flat body.value) rest (flat_pass p body.value parts.1) r)
statement_pass p s (Statement-F.If n e a b) rest store time whole h r =
    let parts = pass_parts p (event_terms a.value) (event_terms b.value) h in
    branch_each (λ (t : Todo). Pass p (todo_terms (t ++ rest))) (truth (value_of e store time)) (flat a.value) (flat b.value)
    (before_pass p (flat a.value) rest (flat_pass p a.value parts.0) r) (before_pass p (flat b.value) rest (flat_pass p b.value parts.1) r)
statement_pass p s (Statement-F.Case n kind x items) rest store time whole h r =
    taken_each (λ o. Pass p (todo_terms (flat_item o ++ rest))) kind (value_of x store time) store time items.items (λ none. r)
    (λ i z is. before_pass p (flat z.1) rest (flat_pass p z.1 (item_pass i z is)) r)
  where
    items_pass : (xs : List (Vec Typed Global × Statement)) → Pass p (joined (map (λ (i : Vec Typed Global × List EventTerm). i.1) (map (λ (i : Vec Typed Global × Statement). (i.0, event_terms i.1)) xs))) →
        (i : ℕ) (z : Vec Typed Global × Statement) → slice_get xs i ≡ Some z → Pass p (event_terms z.1)
    items_pass [] h i z is = cc
    items_pass (y ∷ xs) h zero z is = let e : y ≡ z = cc in ap (λ (i : Vec Typed Global × Statement). list_all p (event_terms i.1)) (sym e) ∙ (pass_parts p (event_terms y.1) _ h).0
    items_pass (y ∷ xs) h (suc i) z is = items_pass xs (pass_parts p (event_terms y.1) _ h).1 i z is

    item_pass : (i : ℕ) (z : Vec Typed Global × Statement) → slice_get items.items i ≡ Some z → Pass p (event_terms z.1)
    item_pass i z is = items_pass items.items h i z is
statement_pass p s (Statement-F.While n e body) rest store time whole h r =
    branch_each (λ (t : Todo). Pass p (todo_terms t)) (truth (value_of e store time)) (flat body.value ++ perform s ∷ rest) rest
    (before_pass p (flat body.value) (perform s ∷ rest) (flat_pass p body.value h) (pass_both p (event_terms s) (todo_terms rest) whole r)) r
statement_pass p s (Statement-F.Repeat n signed e body) rest store time whole h r = repeated_pass p (turns_for signed (value_of e store time)) body.value rest h r
statement_pass p s (Statement-F.Forever n body) rest store time whole h r =
    before_pass p (flat body.value) (perform s ∷ rest) (flat_pass p body.value h) (pass_both p (event_terms s) (todo_terms rest) whole r)

step_pass : (p : EventTerm → Bool) (todo : Todo) (store : Store) (time : ℕ) → Pass p (todo_terms todo) → Pass p (next_terms (step todo store time).next)
step_pass p [] store time h = refl
step_pass p (perform s ∷ rest) store time h =
    let parts = pass_parts p (event_terms s) (todo_terms rest) h in
    statement_pass p s (out-Statement s) rest store time parts.0 (ap (list_all p) (sym (fold_out-Statement (List EventTerm) event_terms_step s)) ∙ parts.0) parts.1
step_pass p (turns n s ∷ rest) store time h = let parts = pass_parts p (event_terms s) (todo_terms rest) h in repeated_pass p n s rest parts.0 parts.1

-- ---- places

active_pass : (p : EventTerm → Bool) (gait : Gait) (todo : Todo) → Pass p (todo_terms todo) → Pass p (place_terms (active_at gait todo))
active_pass p gait [] h = refl
active_pass p gait (i ∷ rest) h = h

paused_pass : (p : EventTerm → Bool) (time ticks : ℕ) (todo : Todo) → Pass p (todo_terms todo) → Pass p (place_terms (paused time ticks todo))
paused_pass p time ticks todo h = cond_both (ticks == 0) (inactive todo) (sleeping (time + ticks) todo) (λ x. Pass p (place_terms x)) (λ e. h) (λ e. h)

placed_pass : (p : EventTerm → Bool) (place : Place) (time : ℕ) (next : Next) → Pass p (next_terms next) → Pass p (place_terms (place_after_step place time next))
placed_pass p (going gait todo) time (on rest) h = active_pass p (stepped_gait gait) rest h
placed_pass p (sleeping due todo) time (on rest) h = refl
placed_pass p (inactive todo) time (on rest) h = refl
placed_pass p (waiting terms todo) time (on rest) h = refl
placed_pass p ended time (on rest) h = refl
placed_pass p (going gait todo) time (after n ticks rest) h = paused_pass p time ticks rest h
placed_pass p (sleeping due todo) time (after n ticks rest) h = paused_pass p time ticks rest h
placed_pass p (inactive todo) time (after n ticks rest) h = paused_pass p time ticks rest h
placed_pass p (waiting terms todo) time (after n ticks rest) h = paused_pass p time ticks rest h
placed_pass p ended time (after n ticks rest) h = paused_pass p time ticks rest h
placed_pass p (going gait todo) time (wait n terms rest) h = h
placed_pass p (sleeping due todo) time (wait n terms rest) h = h
placed_pass p (inactive todo) time (wait n terms rest) h = h
placed_pass p (waiting old todo) time (wait n terms rest) h = h
placed_pass p ended time (wait n terms rest) h = h

roused_pass : (p : EventTerm → Bool) (x : Place) → Pass p (place_terms x) → Pass p (place_terms (roused x))
roused_pass p (going gait todo) h = h
roused_pass p (sleeping due todo) h = h
roused_pass p (inactive todo) h = active_pass p Woken todo h
roused_pass p (waiting terms todo) h = h
roused_pass p ended h = h

woken_pass : (p : EventTerm → Bool) (t : ℕ) (x : Place) → Pass p (place_terms x) → Pass p (place_terms (woken_at t x))
woken_pass p t (going gait todo) h = h
woken_pass p t (sleeping due todo) h = cond_both (due == t) (active_at Woken todo) (sleeping due todo) (λ x. Pass p (place_terms x)) (λ e. active_pass p Woken todo h) (λ e. h)
woken_pass p t (inactive todo) h = h
woken_pass p t (waiting terms todo) h = h
woken_pass p t ended h = h

triggered_pass : (p : EventTerm → Bool) (x : Place) → Pass p (place_terms x) → Pass p (place_terms (triggered x))
triggered_pass p (going gait todo) h = h
triggered_pass p (sleeping due todo) h = h
triggered_pass p (inactive todo) h = h
triggered_pass p (waiting terms todo) h = active_pass p Woken todo (pass_parts p terms (todo_terms todo) h).1
triggered_pass p ended h = h

wakened_pass : (p : EventTerm → Bool) (old new : Store) (x : Place) → Pass p (place_terms x) → Pass p (place_terms (wakened old new x))
wakened_pass p old new (going gait todo) h = h
wakened_pass p old new (sleeping due todo) h = h
wakened_pass p old new (inactive todo) h = h
wakened_pass p old new (waiting terms todo) h =
    cond_both (wake_any terms old new) (active_at Woken todo) (waiting terms todo) (λ x. Pass p (place_terms x)) (λ e. active_pass p Woken todo (pass_parts p terms (todo_terms todo) h).1) (λ e. h)
wakened_pass p old new ended h = h

todo_pass : (p : EventTerm → Bool) (x : Place) → Pass p (place_terms x) → Pass p (todo_terms (todo_of x))
todo_pass p (going gait todo) h = h
todo_pass p (sleeping due todo) h = h
todo_pass p (inactive todo) h = h
todo_pass p (waiting terms todo) h = (pass_parts p terms (todo_terms todo) h).1
todo_pass p ended h = refl

-- ---- executions

-- of each process the terms of what it waits for and has to do pass its test
abbrev pub AllPass : (ℕ → EventTerm → Bool) → List Place → Type 0
AllPass p places = (i : ℕ) → Pass (p i) (place_terms (get_or places i ended))

set_pass : (p : ℕ → EventTerm → Bool) (places : List Place) (i : ℕ) (x : Place) → AllPass p places → Pass (p i) (place_terms x) → AllPass p (slice_set places i x)
set_pass p [] i x h g j = refl
set_pass p (q ∷ places) zero x h g zero = g
set_pass p (q ∷ places) zero x h g (suc j) = h (suc j)
set_pass p (q ∷ places) (suc i) x h g zero = h 0
set_pass p (q ∷ places) (suc i) x h g (suc j) = set_pass (λ k. p (suc k)) places i x (λ k. h (suc k)) g j

map_pass : (p : ℕ → EventTerm → Bool) (f : Place → Place) → ((q : EventTerm → Bool) (x : Place) → Pass q (place_terms x) → Pass q (place_terms (f x))) → (places : List Place) → AllPass p places → AllPass p (map f places)
map_pass p f keeps [] h i = refl
map_pass p f keeps (x ∷ places) h zero = keeps (p 0) x (h 0)
map_pass p f keeps (x ∷ places) h (suc i) = map_pass (λ k. p (suc k)) f keeps places (λ k. h (suc k)) i

place_pass : (p : ℕ → EventTerm → Bool) (places : List Place) (i : ℕ) (x : Place) → slice_get places i ≡ Some x → AllPass p places → Pass (p i) (place_terms x)
place_pass p [] i x is h = cc
place_pass p (q ∷ places) zero x is h = let e : q ≡ x = cc in ap (λ z. list_all (p 0) (place_terms z)) (sym e) ∙ h 0
place_pass p (q ∷ places) (suc i) x is h = place_pass (λ k. p (suc k)) places i x is (λ j. h (suc j))

behind_pass : (p : ℕ → EventTerm → Bool) (s : State) (o : Option Write) → AllPass p s.places → AllPass p (written_after s o).places
behind_pass p s None h = h
behind_pass p s (Some w) h = map_pass p (wakened s.store (put s.store w)) (λ q x. wakened_pass q s.store (put s.store w) x) s.places h

stepped_pass : (p : ℕ → EventTerm → Bool) (s : State) (i : ℕ) (o : Option Place) → slice_get s.places i ≡ o → AllPass p s.places → AllPass p (stepped s i o).places
stepped_pass p s i None is h = h
stepped_pass p s i (Some place) is h =
    let out = step (todo_of place) s.store s.time in
    set_pass p (written_after s out.write).places i (place_after_step place s.time out.next) (behind_pass p s out.write h)
    (placed_pass (p i) place s.time out.next (step_pass (p i) (todo_of place) s.store s.time (todo_pass (p i) place (place_pass p s.places i place is h))))

evaluate_pass : (p : ℕ → EventTerm → Bool) (s : State) (j : ℕ) (o : Option AssignState) → AllPass p s.places → AllPass p (evaluate s j o).places
evaluate_pass p s j None h = h
evaluate_pass p s j (Some x) h = h

value_pass : (p : ℕ → EventTerm → Bool) (s : State) (j : ℕ) (x : AssignState) (o : Option (List Digit)) → AllPass p s.places → AllPass p (propagate_value s j x o).places
value_pass p s j x None h = h
value_pass p s j x (Some digits) h =
    let new = put s.store (assigned x.target digits s.store s.time) in
    map_pass p (wakened s.store new) (λ q y. wakened_pass q s.store new y) s.places h

propagate_pass : (p : ℕ → EventTerm → Bool) (s : State) (j : ℕ) (o : Option AssignState) → AllPass p s.places → AllPass p (propagate s j o).places
propagate_pass p s j None h = h
propagate_pass p s j (Some x) h = value_pass p s j x x.pending h

make_pass : (p : ℕ → EventTerm → Bool) (s : State) (i : ℕ) (o : Option Update) → AllPass p s.places → AllPass p (make s i o).places
make_pass p s i None h = h
make_pass p s i (Some u) h = map_pass p (wakened s.store (put s.store u.what)) (λ q y. wakened_pass q s.store (put s.store u.what) y) s.places h

slot_pass : (p : ℕ → EventTerm → Bool) (over : Bool) (next : Option ℕ) (places : List Place) → AllPass p places → AllPass p (places_at over next places)
slot_pass p true next places h = h
slot_pass p false None places h = h
slot_pass p false (Some t) places h = map_pass p (woken_at t) (λ q x. woken_pass q t x) places h

applied_pass : (p : ℕ → EventTerm → Bool) (m : Move) (s : State) → AllPass p s.places → AllPass p (apply m s).places
applied_pass p (Step i) s h = stepped_pass p s i (slice_get s.places i) refl h
applied_pass p (Evaluate j) s h = evaluate_pass p s j (slice_get s.assigns j) h
applied_pass p (Propagate j) s h = propagate_pass p s j (slice_get s.assigns j) h
applied_pass p (Make i) s h = make_pass p s i (slice_get s.updates i) h
applied_pass p Rouse s h = map_pass p roused roused_pass s.places h
applied_pass p Activate s h = h
applied_pass p EndSlot s h = slot_pass p (ends s) (next_time s) s.places h

-- whether a process, where there is one, has an event control with a term of the same signal
abbrev pub hears : Option Process → EventTerm → Bool
hears None t = false
hears (Some p) t = listens p.body t.range.signal

within_terms : (all terms : List EventTerm) → ((i : ℕ) (t : EventTerm) → slice_get terms i ≡ Some t → (j : ℕ) × (slice_get all j ≡ Some t)) →
    list_all (λ (t : EventTerm). list_any (λ (u : EventTerm). is_of t.range.signal u.range) all) terms ≡ true
within_terms all [] h = refl
within_terms all (t ∷ terms) h =
    let here = h 0 t refl in
    and_from (list_any (λ (u : EventTerm). is_of t.range.signal u.range) all) (list_all (λ (t : EventTerm). list_any (λ (u : EventTerm). is_of t.range.signal u.range) all) terms)
    (at_any (λ (u : EventTerm). is_of t.range.signal u.range) all here.0 t here.1 (eq-eqb t.range.signal t.range.signal refl))
    (within_terms all terms (λ i u is. h (suc i) u is))

hears_own : (p : Process) → Pass (hears (Some p)) (event_terms p.body)
hears_own p = within_terms (event_terms p.body) (event_terms p.body) (λ i t is. (i, is))

start_pass : (ps : List Process) (p : ℕ → EventTerm → Bool) → ((i : ℕ) (q : Process) → slice_get ps i ≡ Some q → Pass (p i) (event_terms q.body)) → AllPass p (map (λ (p : Process). start_place p.body) ps)
start_pass [] p h i = refl
start_pass (q ∷ ps) p h zero = active_pass (p 0) Fresh (flat q.body) (flat_pass (p 0) q.body (h 0 q refl))
start_pass (q ∷ ps) p h (suc i) = start_pass ps (λ k. p (suc k)) (λ j. h (suc j)) i

-- each process of a state waits, and will wait, for terms of its own text alone
abbrev pub AllHeard : Parts → State → Type 0
AllHeard d s = AllPass (λ i. hears (slice_get d.processes i)) s.places

-- so in each state of an execution
pub after_heard : (d : Parts) (moves : List Move) → AllHeard d (executions.after d moves)
after_heard d [] = start_pass d.processes (λ i. hears (slice_get d.processes i)) (λ i q is. subst (λ o. Pass (hears o) (event_terms q.body)) (sym is) (hears_own q))
after_heard d (m ∷ before) = applied_pass (λ i. hears (slice_get d.processes i)) m (executions.after d before) (after_heard d before)

-- ---- threads

turned_pass : (p : EventTerm → Bool) (time i : ℕ) (x : Place) (th : Thread) → Pass p (place_terms x) → Pass p (place_terms th.place) → Pass p (place_terms (turn_at time i x th).place)
turned_pass p time i (going gait todo) th h own = placed_pass p (going gait todo) time (step todo th.view time).next (step_pass p todo th.view time h)
turned_pass p time i (inactive todo) th h own = active_pass p Woken todo h
turned_pass p time i (sleeping due todo) th h own = own
turned_pass p time i (waiting terms todo) th h own = own
turned_pass p time i ended th h own = own

iterated_pass : (p : EventTerm → Bool) (time i n : ℕ) (o : Thread) → Pass p (place_terms o.place) → Pass p (place_terms (iterate n (turn time i) o).place)
iterated_pass p time i zero o h = h
iterated_pass p time i (suc n) o h =
    let th = iterate n (turn time i) o in
    let r = iterated_pass p time i n o h in
    turned_pass p time i th.place th r r

found_pass : (p : EventTerm → Bool) (blocks : ℕ → Bool) (b : State) (i : ℕ) → Pass p (place_terms (get_or b.places i ended)) → Pass p (place_terms (found blocks b i))
found_pass p blocks b i h = cond_both (blocks i) ended (get_or b.places i ended) (λ x. Pass p (place_terms x)) (λ e. refl) (λ e. h)

opened_pass : (p : EventTerm → Bool) (blocks : ℕ → Bool) (b : State) (i : ℕ) (o : Option Fired) → Pass p (place_terms (found blocks b i)) → Pass p (place_terms (opening blocks b i o).place)
opened_pass p blocks b i None h = h
opened_pass p blocks b i (Some f) h = triggered_pass p (found blocks b i) h

-- the thread of a block stays where it is
pub block_nowhere : (d : Parts) (blocks : ℕ → Bool) (b : State) (i : ℕ) (th : Thread) → IsThread d blocks b i th → blocks i ≡ true → th.place ≡ ended
block_nowhere d blocks b i th is block = ap (λ (x : Thread). x.place) (sym is.is) ∙ stays is.count (opening blocks b i is.input) (opened is.input)
  where
    opened : (o : Option Fired) → (opening blocks b i o).place ≡ ended
    opened None = ap (λ t. if t then ended else get_or b.places i ended) block
    opened (Some f) = ap triggered (ap (λ t. if t then ended else get_or b.places i ended) block)

    stays : (n : ℕ) (o : Thread) → o.place ≡ ended → (iterate n (turn b.time i) o).place ≡ ended
    stays zero o h = h
    stays (suc n) o h = let r = stays n o h in ap (λ p. (turn_at b.time i p (iterate n (turn b.time i) o)).place) r ∙ r

pass_at : (p : EventTerm → Bool) (terms : List EventTerm) (i : ℕ) (t : EventTerm) → Pass p terms → slice_get terms i ≡ Some t → p t ≡ true
pass_at p [] i t h is = cc
pass_at p (u ∷ terms) zero t h is = let e : u ≡ t = cc in ap p (sym e) ∙ (and_parts (p u) (list_all p terms) h).0
pass_at p (u ∷ terms) (suc i) t h is = pass_at p terms i t (and_parts (p u) (list_all p terms) h).1 is

-- the signal of a term for which a thread waits is heard
pub heard_at : (d : Parts) (blocks : ℕ → Bool) (b : State) (i : ℕ) (th : Thread) → AllHeard d b → IsThread d blocks b i th → (terms : List EventTerm) (todo : Todo) → th.place ≡ waiting terms todo → (t : EventTerm) → Contains terms t → IsHeard d blocks t.range.signal
heard_at d blocks b i th all is_thread terms todo at t among = of_process (slice_get d.processes i) refl heard
  where
    passes : Pass (hears (slice_get d.processes i)) (place_terms th.place)
    passes = subst (λ (x : Thread). Pass (hears (slice_get d.processes i)) (place_terms x.place)) is_thread.is
        (iterated_pass (hears (slice_get d.processes i)) b.time i is_thread.count (opening blocks b i is_thread.input) (opened_pass (hears (slice_get d.processes i)) blocks b i is_thread.input (found_pass (hears (slice_get d.processes i)) blocks b i (all i))))

    heard : hears (slice_get d.processes i) t ≡ true
    heard =
        let n = place_of terms t among in
        pass_at (hears (slice_get d.processes i)) terms n.0 t
        (pass_parts (hears (slice_get d.processes i)) terms (todo_terms todo) (subst (λ x. Pass (hears (slice_get d.processes i)) (place_terms x)) at passes)).0 n.1

    other : blocks i ≡ false
    other = elim (cases_Bool (blocks i)) [
      | inl block ↦ absurd (let no_way : ended ≡ waiting terms todo = sym (block_nowhere d blocks b i th is_thread block) ∙ at in cc)
      | inr miss ↦ miss
    ]

    of_process : (o : Option Process) → slice_get d.processes i ≡ o → hears o t ≡ true → IsHeard d blocks t.range.signal
    of_process None is h = cc
    of_process (Some p) is h = record { number = i; other = other; process = p; is = is; hears = h }
