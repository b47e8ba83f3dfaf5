-- At grain block at most one combinational block has taken a step since its control, and it can take the next.
use Rattle.std.proofs.Common.{◌≡◌, ℕ, zero, suc, ◌+◌, ◌==◌, ◌||◌, ◌&&◌, not, Bool, true, false, Option, Some, None, List, [], ◌∷◌, map, slice_get, slice_set, if◌then◌else◌, refl, sym, ◌∙◌, ap, inl, inr, ◌⊎◌, ⊎_elim, arith, eq-eqb}
use Rattle.std.proofs.lemmas.Bool.{cases_Bool, or_parts, not-true}
use Rattle.std.proofs.lemmas.Bool.Decides.{eqb_tells}
use Rattle.vs_design.specs.vs_logic4.specs.declared.digit.Digit.{Digit}
use Rattle.vs_design.specs.declared.design.Process.{Process}
use Rattle.vs_design.specs.Parts.{Parts}
use Rattle.vs_design.specs.Stores.{Store, put}
use Rattle.vs_design.specs.Writes.{Write}
use Rattle.vs_eval.specs.Waking.{wake_any}
use Rattle.vs_eval.specs.Targets.{assigned}
use Rattle.vs_process.specs.declared.gait.Gait.TheVariants.{Fresh, Woken}
use Rattle.vs_process.specs.declared.moves.Grain.TheVariants.{Block}
use Rattle.vs_process.specs.declared.moves.Move.{Move}
use Rattle.vs_process.specs.declared.moves.Move.TheVariants.{Step, Evaluate, Propagate, Make, Rouse, Activate, EndSlot}
use Rattle.vs_process.specs.Places.{Todo, Place, going, sleeping, inactive, waiting, ended, active_at, is_going, is_inside, start_place, flat}
use Rattle.vs_process.specs.States.{State, AssignState, Update, stepped, evaluate, propagate, propagate_value, make, roused, wakened, woken_at, place_after_step, written_after}
use Rattle.vs_process.specs.Places.{todo_of}
use Rattle.vs_process.specs.Steps.{step}
use Rattle.vs_process.specs.Blocks.{BlocksExclude, InsideFollows, InsideGoesOn, NoneInsideFirst, inside_after_move, inside_block, inside_from, is_inside_at, is_inside_block, is_inside_number, is_step_of_any}
use Rattle.vs_process.specs.Executions.{after, allowed, apply, Legal, is_enabled, is_free, is_kept_out, is_step_of, is_combinational, if_some, ends, next_time, places_at}
use Rattle.vs_process.specs.Permitted.{CanGo}
use Rattle.vs_process.proofs.Permitted.{AllFree, allow}
use Rattle.std.proofs.lemmas.Bool.{false_from_ne_true as none_if}
use Rattle.vs_design.specs.vs_logic4.proofs.Basics.{and_false as and_none, same_tests as bool_same}

-- whether the process at an index passes a test and is inside
abbrev inside_at : (Process → Bool) → List Process → List Place → ℕ → Bool
inside_at test [] xs i = false
inside_at test (p ∷ ps) [] i = false
inside_at test (p ∷ ps) (x ∷ xs) zero = test p && is_inside x
inside_at test (p ∷ ps) (x ∷ xs) (suc i) = inside_at test ps xs i

-- whether such a process keeps a move out
abbrev kept_out : (Process → Bool) → List Process → List Place → ℕ → Move → Bool
kept_out test [] xs first m = false
kept_out test (p ∷ ps) [] first m = false
kept_out test (p ∷ ps) (x ∷ xs) first m = test p && is_inside x && not (is_step_of first m) || kept_out test ps xs (suc first) m

kept_out-same : (ps : List Process) (xs : List Place) (first : ℕ) (m : Move) → is_kept_out ps xs first m ≡ kept_out is_combinational ps xs first m
kept_out-same [] xs first m = refl
kept_out-same (p ∷ ps) [] first m = refl
kept_out-same (p ∷ ps) (x ∷ xs) first m = ap (λ b. is_combinational p && is_inside x && not (is_step_of first m) || b) (kept_out-same ps xs (suc first) m)

and_not : (a b : Bool) → (a && not b) ≡ false → a ≡ true → b ≡ true
and_not a true h e = refl
and_not true false h e = cc
and_not false false h e = cc

out_of : (a b : Bool) → (a ≡ true → b ≡ true) → (a && not b) ≡ false
out_of true true h = refl
out_of false true h = refl
out_of true false h = let e = h refl in cc
out_of false false h = refl

-- a move that isn't kept out is a step of each process that is inside
step_only : (test : Process → Bool) (ps : List Process) (xs : List Place) (first : ℕ) (m : Move) → kept_out test ps xs first m ≡ false → (i : ℕ) → inside_at test ps xs i ≡ true → is_step_of (first + i) m ≡ true
step_only test [] xs first m h i here = cc
step_only test (p ∷ ps) [] first m h i here = cc
step_only test (p ∷ ps) (x ∷ xs) first m h zero here =
    let e : first + 0 ≡ first = omega arith in
    ap (λ n. is_step_of n m) e ∙ and_not (test p && is_inside x) (is_step_of first m) (or_parts _ _ h).0 here
step_only test (p ∷ ps) (x ∷ xs) first m h (suc i) here =
    let e : first + suc i ≡ suc first + i = omega arith in
    ap (λ n. is_step_of n m) e ∙ step_only test ps xs (suc first) m (or_parts (test p && is_inside x && not (is_step_of first m)) _ h).1 i here

-- and a move that is a step of each isn't kept out
not_kept_out : (test : Process → Bool) (ps : List Process) (xs : List Place) (first : ℕ) (m : Move) → ((i : ℕ) → inside_at test ps xs i ≡ true → is_step_of (first + i) m ≡ true) → kept_out test ps xs first m ≡ false
not_kept_out test [] xs first m h = refl
not_kept_out test (p ∷ ps) [] first m h = refl
not_kept_out test (p ∷ ps) (x ∷ xs) first m h =
    let zeroth : first + 0 ≡ first = omega arith in
    ap (λ b. b || kept_out test ps xs (suc first) m) (out_of (test p && is_inside x) (is_step_of first m) (λ e. ap (λ n. is_step_of n m) (sym zeroth) ∙ h 0 e))
    ∙ not_kept_out test ps xs (suc first) m (λ i e. let next : suc first + i ≡ first + suc i = omega arith in ap (λ n. is_step_of n m) next ∙ h (suc i) e)

no_inside : {P : Type 0} (b : Bool) → (b && false) ≡ true → P
no_inside true h = cc
no_inside false h = cc

-- a process that is inside is active
inside_going : (test : Process → Bool) (ps : List Process) (xs : List Place) (i : ℕ) → inside_at test ps xs i ≡ true → if_some is_going (slice_get xs i) ≡ true
inside_going test [] xs i h = cc
inside_going test (p ∷ ps) [] i h = cc
inside_going test (p ∷ ps) (going gait todo ∷ xs) zero h = refl
inside_going test (p ∷ ps) (sleeping due todo ∷ xs) zero h = no_inside (test p) h
inside_going test (p ∷ ps) (inactive todo ∷ xs) zero h = no_inside (test p) h
inside_going test (p ∷ ps) (waiting terms todo ∷ xs) zero h = no_inside (test p) h
inside_going test (p ∷ ps) (ended ∷ xs) zero h = no_inside (test p) h
inside_going test (p ∷ ps) (x ∷ xs) (suc i) h = inside_going test ps xs i h

inside_at-set_other : (test : Process → Bool) (ps : List Process) (xs : List Place) (i k : ℕ) (y : Place) → (k ≡ i → ⊥) → inside_at test ps (slice_set xs i y) k ≡ inside_at test ps xs k
inside_at-set_other test [] xs i k y h = refl
inside_at-set_other test (p ∷ ps) [] i k y h = refl
inside_at-set_other test (p ∷ ps) (x ∷ xs) zero zero y h = absurd (h refl)
inside_at-set_other test (p ∷ ps) (x ∷ xs) zero (suc k) y h = refl
inside_at-set_other test (p ∷ ps) (x ∷ xs) (suc i) zero y h = refl
inside_at-set_other test (p ∷ ps) (x ∷ xs) (suc i) (suc k) y h = inside_at-set_other test ps xs i k y (λ e. h (ap suc e))

inside_at-map : (test : Process → Bool) (f : Place → Place) → ((x : Place) → is_inside (f x) ≡ is_inside x) → (ps : List Process) (xs : List Place) (k : ℕ) → inside_at test ps (map f xs) k ≡ inside_at test ps xs k
inside_at-map test f h [] xs k = refl
inside_at-map test f h (p ∷ ps) [] k = refl
inside_at-map test f h (p ∷ ps) (x ∷ xs) zero = ap (λ b. test p && b) (h x)
inside_at-map test f h (p ∷ ps) (x ∷ xs) (suc k) = inside_at-map test f h ps xs k

active_outside : (todo : Todo) → is_inside (active_at Woken todo) ≡ false
active_outside [] = refl
active_outside (i ∷ rest) = refl

start_outside : (todo : Todo) → is_inside (active_at Fresh todo) ≡ false
start_outside [] = refl
start_outside (i ∷ rest) = refl

inside-roused : (x : Place) → is_inside (roused x) ≡ is_inside x
inside-roused (going gait todo) = refl
inside-roused (sleeping due todo) = refl
inside-roused (inactive todo) = active_outside todo
inside-roused (waiting terms todo) = refl
inside-roused ended = refl

woken_outside : (b : Bool) (todo : Todo) (place : Place) → is_inside place ≡ false → is_inside (if b then active_at Woken todo else place) ≡ false
woken_outside true todo place h = active_outside todo
woken_outside false todo place h = h

inside-woken_at : (time : ℕ) (x : Place) → is_inside (woken_at time x) ≡ is_inside x
inside-woken_at time (going gait todo) = refl
inside-woken_at time (sleeping due todo) = woken_outside (due == time) todo (sleeping due todo) refl
inside-woken_at time (inactive todo) = refl
inside-woken_at time (waiting terms todo) = refl
inside-woken_at time ended = refl

inside-wakened : (old new : Store) (x : Place) → is_inside (wakened old new x) ≡ is_inside x
inside-wakened old new (going gait todo) = refl
inside-wakened old new (sleeping due todo) = refl
inside-wakened old new (inactive todo) = refl
inside-wakened old new (waiting terms todo) = woken_outside (wake_any terms old new) todo (waiting terms todo) refl
inside-wakened old new ended = refl

inside_at-slot : (test : Process → Bool) (b : Bool) (next : Option ℕ) (ps : List Process) (xs : List Place) (k : ℕ) → inside_at test ps (places_at b next xs) k ≡ inside_at test ps xs k
inside_at-slot test true next ps xs k = refl
inside_at-slot test false None ps xs k = refl
inside_at-slot test false (Some t) ps xs k = inside_at-map test (woken_at t) (inside-woken_at t) ps xs k

inside_at-start : (test : Process → Bool) (ps : List Process) (k : ℕ) → inside_at test ps (map (λ (p : Process). start_place p.body) ps) k ≡ false
inside_at-start test [] k = refl
inside_at-start test (p ∷ ps) zero = ap (λ b. test p && b) (start_outside (flat p.body)) ∙ and_none (test p)
inside_at-start test (p ∷ ps) (suc k) = inside_at-start test ps k

-- at most one process that passes the test is inside
abbrev pub AtMostOne : (Process → Bool) → List Process → List Place → Type 0
AtMostOne test ps xs = (i k : ℕ) → inside_at test ps xs i ≡ true → inside_at test ps xs k ≡ true → i ≡ k

equal_step : (i k : ℕ) → (i == k) ≡ true → k ≡ i
equal_step i k h = ⊎_elim (λ same. sym same.1) (λ other. absurd (let no_way : true ≡ false = sym h ∙ other.0 in cc)) (eqb_tells i k)

-- a move is a step of one process at most
one_step : (m : Move) (i k : ℕ) → is_step_of i m ≡ true → is_step_of k m ≡ true → i ≡ k
one_step (Step j) i k h g = equal_step j i h ∙ sym (equal_step j k g)
one_step (Evaluate j) i k h g = cc
one_step (Propagate j) i k h g = cc
one_step (Make j) i k h g = cc
one_step Rouse i k h g = cc
one_step Activate i k h g = cc
one_step EndSlot i k h g = cc

-- the processes that are inside in these places were so in those
abbrev SameInside : (Process → Bool) → List Process → List Place → List Place → Type 0
SameInside test ps xs ys = (k : ℕ) → inside_at test ps ys k ≡ inside_at test ps xs k

same_behind : (test : Process → Bool) (ps : List Process) (s : State) (w : Option Write) → SameInside test ps s.places (written_after s w).places
same_behind test ps s None k = refl
same_behind test ps s (Some w) k = inside_at-map test (wakened s.store (put s.store w)) (inside-wakened s.store (put s.store w)) ps s.places k

same_evaluate : (test : Process → Bool) (ps : List Process) (s : State) (j : ℕ) (o : Option AssignState) → SameInside test ps s.places (evaluate s j o).places
same_evaluate test ps s j None k = refl
same_evaluate test ps s j (Some x) k = refl

same_value : (test : Process → Bool) (ps : List Process) (s : State) (j : ℕ) (x : AssignState) (o : Option (List Digit)) → SameInside test ps s.places (propagate_value s j x o).places
same_value test ps s j x None k = refl
same_value test ps s j x (Some v) k = same_behind test ps s (Some (assigned x.target v s.store s.time)) k

same_propagate : (test : Process → Bool) (ps : List Process) (s : State) (j : ℕ) (o : Option AssignState) → SameInside test ps s.places (propagate s j o).places
same_propagate test ps s j None k = refl
same_propagate test ps s j (Some x) k = same_value test ps s j x x.pending k

same_make : (test : Process → Bool) (ps : List Process) (s : State) (i : ℕ) (o : Option Update) → SameInside test ps s.places (make s i o).places
same_make test ps s i None k = refl
same_make test ps s i (Some u) k = same_behind test ps s (Some u.what) k

-- behind a step of a process, the other processes are inside where they were
other_stepped : (test : Process → Bool) (ps : List Process) (s : State) (i : ℕ) (o : Option Place) (k : ℕ) → (k ≡ i → ⊥) → inside_at test ps (stepped s i o).places k ≡ inside_at test ps s.places k
other_stepped test ps s i None k apart = refl
other_stepped test ps s i (Some x) k apart =
    let out = step (todo_of x) s.store s.time in
    inside_at-set_other test ps (written_after s out.write).places i k (place_after_step x s.time out.next) apart ∙ same_behind test ps s out.write k

-- a process that is inside behind a move was so before it, or the move is its step
was_inside : (test : Process → Bool) (ps : List Process) (m : Move) (s : State) (k : ℕ) → inside_at test ps (apply m s).places k ≡ true → (is_step_of k m ≡ true) ⊎ (inside_at test ps s.places k ≡ true)
was_inside test ps (Step i) s k h =
    ⊎_elim (λ same. inl (eq-eqb i k (sym same.1))) (λ other. inr (sym (other_stepped test ps s i (slice_get s.places i) k other.1) ∙ h)) (eqb_tells k i)
was_inside test ps (Evaluate j) s k h = inr (sym (same_evaluate test ps s j (slice_get s.assigns j) k) ∙ h)
was_inside test ps (Propagate j) s k h = inr (sym (same_propagate test ps s j (slice_get s.assigns j) k) ∙ h)
was_inside test ps (Make i) s k h = inr (sym (same_make test ps s i (slice_get s.updates i) k) ∙ h)
was_inside test ps Rouse s k h = inr (sym (inside_at-map test roused inside-roused ps s.places k) ∙ h)
was_inside test ps Activate s k h = inr h
was_inside test ps EndSlot s k h = inr (sym (inside_at-slot test (ends s) (next_time s) ps s.places k) ∙ h)

-- behind a move that no such process keeps out, each one that is inside is that of which it is a step
only_stepped : (test : Process → Bool) (ps : List Process) (m : Move) (s : State) → kept_out test ps s.places 0 m ≡ false → (k : ℕ) → inside_at test ps (apply m s).places k ≡ true → is_step_of k m ≡ true
only_stepped test ps m s h k here =
    elim (was_inside test ps m s k here) [
      | inl own ↦ own
      | inr before ↦ let e : 0 + k ≡ k = omega arith in ap (λ n. is_step_of n m) (sym e) ∙ step_only test ps s.places 0 m h k before
    ]

and_last : (a b c : Bool) → (a && b && c) ≡ true → c ≡ true
and_last true true c h = h
and_last true false c h = cc
and_last false b c h = cc

-- behind a move that is allowed at grain block, each block that is inside is that of which it is a step
pub allowed_steps : (d : Parts) (s : State) (m : Move) → allowed Block d s m ≡ true → (k : ℕ) → inside_at is_combinational d.processes (apply m s).places k ≡ true → is_step_of k m ≡ true
allowed_steps d s m h =
    only_stepped is_combinational d.processes m s
    (sym (kept_out-same d.processes s.places 0 m) ∙ not-true _ (and_last (not s.over) (is_enabled s m) (is_free Block d s m) h))

-- at grain block at most one combinational block is inside
pub one_inside : (d : Parts) (moves : List Move) → Legal Block d moves → AtMostOne is_combinational d.processes (after d moves).places
one_inside d [] h = λ i k hi hk. let no_way : false ≡ true = sym (inside_at-start is_combinational d.processes i) ∙ hi in cc
one_inside d (m ∷ before) h = λ i k hi hk. one_step m i k (allowed_steps d (after d before) m h.1 i hi) (allowed_steps d (after d before) m h.1 k hk)

-- some such process is inside, or none is
some_inside : (test : Process → Bool) (ps : List Process) (xs : List Place) → ((i : ℕ) × (inside_at test ps xs i ≡ true)) ⊎ ((i : ℕ) → inside_at test ps xs i ≡ false)
some_inside test [] xs = inr (λ i. refl)
some_inside test (p ∷ ps) [] = inr (λ i. refl)
some_inside test (p ∷ ps) (x ∷ xs) =
    elim (cases_Bool (test p && is_inside x)) [
      | inl here ↦ inl (0, here)
      | inr not_here ↦ elim (some_inside test ps xs) [
        | inl later ↦ inl (suc later.0, later.1)
        | inr none ↦ inr (none_at test p ps x xs not_here none)
      ]
    ]
  where
    none_at : (test : Process → Bool) (p : Process) (ps : List Process) (x : Place) (xs : List Place) → (test p && is_inside x) ≡ false → ((i : ℕ) → inside_at test ps xs i ≡ false) →
        (i : ℕ) → inside_at test (p ∷ ps) (x ∷ xs) i ≡ false
    none_at test p ps x xs h rest zero = h
    none_at test p ps x xs h rest (suc i) = rest i

free_if : (d : Parts) (s : State) (m : Move) → ((i : ℕ) → inside_at is_combinational d.processes s.places i ≡ true → is_step_of i m ≡ true) → is_free Block d s m ≡ true
free_if d s m h =
    ap not (kept_out-same d.processes s.places 0 m
    ∙ not_kept_out is_combinational d.processes s.places 0 m (λ i here. let e : 0 + i ≡ i = omega arith in ap (λ n. is_step_of n m) e ∙ h i here))

-- in a state with at most one block inside that block can take its next step, or every move is free
pub block_goes : (d : Parts) (s : State) → AtMostOne is_combinational d.processes s.places → (AllFree Block d s → s.over ≡ false → CanGo Block d s) → s.over ≡ false → CanGo Block d s
block_goes d s one goes over =
    elim (some_inside is_combinational d.processes s.places) [
      | inl found ↦ allow Block d s (Step found.0) over (inside_going is_combinational d.processes s.places found.0 found.1) (free_if d s (Step found.0) (λ k here. eq-eqb found.0 k (one found.0 k found.1 here)))
      | inr none ↦ goes (λ m. free_if d s m (λ k here. let no_way : false ≡ true = sym (none k) ∙ here in cc)) over
    ]

-- ---- the block that is inside, by its number

nowhere : (o : Option Process) → is_inside_at o None ≡ false
nowhere None = refl
nowhere (Some p) = refl

inside_number-at : (ps : List Process) (xs : List Place) (i : ℕ) → is_inside_number ps xs i ≡ inside_at is_combinational ps xs i
inside_number-at [] xs i = refl
inside_number-at (p ∷ ps) [] i = nowhere (slice_get (p ∷ ps) i)
inside_number-at (p ∷ ps) (x ∷ xs) zero = refl
inside_number-at (p ∷ ps) (x ∷ xs) (suc i) = inside_number-at ps xs i

if_true : {A : Type 0} (b : Bool) (x y : A) → b ≡ true → (if b then x else y) ≡ x
if_true b x y e = ap (λ c. if c then x else y) e

if_false : {A : Type 0} (b : Bool) (x y : A) → b ≡ false → (if b then x else y) ≡ y
if_false b x y e = ap (λ c. if c then x else y) e

inside_from-none : (number : ℕ) (ps : List Process) (xs : List Place) → ((k : ℕ) → inside_at is_combinational ps xs k ≡ false) → inside_from number ps xs ≡ None
inside_from-none number [] xs h = refl
inside_from-none number (p ∷ ps) [] h = refl
inside_from-none number (p ∷ ps) (x ∷ xs) h = if_false (is_inside_block p x) (Some number) (inside_from (suc number) ps xs) (h 0) ∙ inside_from-none (suc number) ps xs (λ k. h (suc k))

inside_from-some : (number : ℕ) (ps : List Process) (xs : List Place) (i : ℕ) → inside_at is_combinational ps xs i ≡ true → ((k : ℕ) → inside_at is_combinational ps xs k ≡ true → k ≡ i) →
    inside_from number ps xs ≡ Some (number + i)
inside_from-some number [] xs i here only = cc
inside_from-some number (p ∷ ps) [] i here only = cc
inside_from-some number (p ∷ ps) (x ∷ xs) zero here only =
    let e : number ≡ number + 0 = omega arith in
    if_true (is_inside_block p x) (Some number) (inside_from (suc number) ps xs) here ∙ ap Some e
inside_from-some number (p ∷ ps) (x ∷ xs) (suc i) here only =
    let e : suc number + i ≡ number + suc i = omega arith in
    elim (cases_Bool (is_inside_block p x)) [
      | inl first ↦ let same : 0 ≡ suc i = only 0 first in cc
      | inr later ↦
          if_false (is_inside_block p x) (Some number) (inside_from (suc number) ps xs) later
          ∙ inside_from-some (suc number) ps xs i here (λ k h. let same : suc k ≡ suc i = only (suc k) h in cc) ∙ ap Some e
    ]

inside_block-some : (ps : List Process) (xs : List Place) (i : ℕ) → inside_at is_combinational ps xs i ≡ true → ((k : ℕ) → inside_at is_combinational ps xs k ≡ true → k ≡ i) → inside_block ps xs ≡ Some i
inside_block-some ps xs i here only = let e : 0 + i ≡ i = omega arith in inside_from-some 0 ps xs i here only ∙ ap Some e

-- a free move is a step of each block that is inside
free_steps : (d : Parts) (s : State) (m : Move) (i : ℕ) → inside_at is_combinational d.processes s.places i ≡ true → is_free Block d s m ≡ true → is_step_of i m ≡ true
free_steps d s m i here free =
    let e : 0 + i ≡ i = omega arith in
    ap (λ n. is_step_of n m) (sym e) ∙ step_only is_combinational d.processes s.places 0 m (sym (kept_out-same d.processes s.places 0 m) ∙ not-true _ free) i here

free_one : (d : Parts) (s : State) → AtMostOne is_combinational d.processes s.places → (m : Move) → is_free Block d s m ≡ is_step_of_any (inside_block d.processes s.places) m
free_one d s one m =
    elim (some_inside is_combinational d.processes s.places) [
      | inl found ↦
          bool_same (is_free Block d s m) (is_step_of found.0 m) (free_steps d s m found.0 found.1)
          (λ own. free_if d s m (λ k here. ap (λ n. is_step_of n m) (one k found.0 here found.1) ∙ own))
          ∙ ap (λ o. is_step_of_any o m) (sym (inside_block-some d.processes s.places found.0 found.1 (λ k here. one k found.0 here found.1)))
      | inr none ↦
          free_if d s m (λ k here. let no_way : false ≡ true = sym (none k) ∙ here in cc)
          ∙ ap (λ o. is_step_of_any o m) (sym (inside_from-none 0 d.processes s.places none))
    ]

-- at most one block is inside, and moves are free by it
pub blocks_exclude : BlocksExclude
blocks_exclude d moves legal =
    let places = (after d moves).places in (
      λ i k hi hk. one_inside d moves legal i k (sym (inside_number-at d.processes places i) ∙ hi) (sym (inside_number-at d.processes places k) ∙ hk),
      free_one d (after d moves) (one_inside d moves legal),
    )

-- where each block that is inside is that of which a move is a step, the block of that step is inside or none is
follows_by : (ps : List Process) (xs : List Place) (m : Move) → ((k : ℕ) → inside_at is_combinational ps xs k ≡ true → is_step_of k m ≡ true) → inside_block ps xs ≡ inside_after_move ps xs m
follows_by ps xs (Step i) only =
    elim (cases_Bool (is_inside_number ps xs i)) [
      | inl here ↦
          inside_block-some ps xs i (sym (inside_number-at ps xs i) ∙ here) (λ k h. equal_step i k (only k h)) ∙ sym (if_true (is_inside_number ps xs i) (Some i) None here)
      | inr not_here ↦
          inside_from-none 0 ps xs
          (λ k. none_if (inside_at is_combinational ps xs k)
          (λ h.
          let same : k ≡ i = equal_step i k (only k h) in
          let here : is_inside_number ps xs i ≡ true = inside_number-at ps xs i ∙ ap (inside_at is_combinational ps xs) (sym same) ∙ h in
          let no_way : true ≡ false = sym here ∙ not_here in
          cc))
          ∙ sym (if_false (is_inside_number ps xs i) (Some i) None not_here)
    ]
follows_by ps xs (Evaluate j) only = inside_from-none 0 ps xs (λ k. none_if (inside_at is_combinational ps xs k) (λ h. let no_way = only k h in cc))
follows_by ps xs (Propagate j) only = inside_from-none 0 ps xs (λ k. none_if (inside_at is_combinational ps xs k) (λ h. let no_way = only k h in cc))
follows_by ps xs (Make j) only = inside_from-none 0 ps xs (λ k. none_if (inside_at is_combinational ps xs k) (λ h. let no_way = only k h in cc))
follows_by ps xs Rouse only = inside_from-none 0 ps xs (λ k. none_if (inside_at is_combinational ps xs k) (λ h. let no_way = only k h in cc))
follows_by ps xs Activate only = inside_from-none 0 ps xs (λ k. none_if (inside_at is_combinational ps xs k) (λ h. let no_way = only k h in cc))
follows_by ps xs EndSlot only = inside_from-none 0 ps xs (λ k. none_if (inside_at is_combinational ps xs k) (λ h. let no_way = only k h in cc))

-- the block that is inside behind an allowed move
pub inside_follows : InsideFollows
inside_follows d s m h = follows_by d.processes (apply m s).places m (allowed_steps d s m h)

-- where an execution begins, none is
pub none_inside_first : NoneInsideFirst
none_inside_first d = inside_from-none 0 d.processes (map (λ (p : Process). start_place p.body) d.processes) (inside_at-start is_combinational d.processes)

-- the first block that is inside is inside
inside_from-found : (number : ℕ) (ps : List Process) (xs : List Place) (j : ℕ) → inside_from number ps xs ≡ Some j → (i : ℕ) × (j ≡ number + i) × (inside_at is_combinational ps xs i ≡ true)
inside_from-found number [] xs j h = cc
inside_from-found number (p ∷ ps) [] j h = cc
inside_from-found number (p ∷ ps) (x ∷ xs) j h =
    elim (cases_Bool (is_inside_block p x)) [
      | inl here ↦
          let e : Some number ≡ Some j = sym (if_true (is_inside_block p x) (Some number) (inside_from (suc number) ps xs) here) ∙ h in
          let first : number ≡ j = cc in
          (0, omega (arith, first), here)
      | inr later ↦
          let r = inside_from-found (suc number) ps xs j (sym (if_false (is_inside_block p x) (Some number) (inside_from (suc number) ps xs) later) ∙ h) in
          (suc r.0, omega (arith, r.1), r.2)
    ]

-- it is active
pub inside_goes_on : InsideGoesOn
inside_goes_on d s i h =
    let r = inside_from-found 0 d.processes s.places i h in
    let e : r.0 ≡ i = omega (arith, r.1) in
    inside_going is_combinational d.processes s.places i (ap (inside_at is_combinational d.processes s.places) (sym e) ∙ r.2)
