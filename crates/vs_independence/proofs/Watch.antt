-- What holds in every execution of the place of a process and of one signal.
use Rattle.std.proofs.Common.{◌≡◌, ℕ, zero, suc, ◌<◌, ◌⊎◌, Bool, true, false, Option, Some, None, List, [], ◌∷◌, map, get_or, slice_get, slice_set, refl, sym, ◌∙◌, ap, subst, inl, inr}
use Rattle.std.proofs.Math.ListN.{get_or-map}
use Rattle.std.proofs.lemmas.Bool.{cases_Bool, cases_eq, false≢true, true≢false, false_from_ne_true}
use Rattle.std.proofs.lemmas.List.{get_or-set_other}
use Rattle.std.proofs.lemmas.Option.{get_or_from_slice_get, same_Some}
use Rattle.vs_design.specs.vs_logic4.specs.declared.digit.Digit.{Digit}
use Rattle.vs_design.specs.Parts.{Parts}
use Rattle.vs_design.specs.Stores.{Store, put, is_driven}
use Rattle.vs_design.specs.Uses.{writes_signal}
use Rattle.vs_design.specs.WellFormed.{WellFormed}
use Rattle.vs_design.specs.Writes.{Write, names}
use Rattle.vs_independence.specs.vs_process.specs.vs_eval.specs.Targets.{assigned}
use Rattle.vs_process.specs.declared.gait.Gait.{Gait}
use Rattle.vs_independence.specs.vs_process.specs.declared.moves.Grain.{Grain}
use Rattle.vs_independence.specs.vs_process.specs.declared.moves.Move.{Move}
use Rattle.vs_independence.specs.vs_process.specs.declared.moves.Move.TheVariants.{Step, Evaluate, Propagate, Make, Rouse, Activate, EndSlot}
use Rattle.vs_process.specs.Places.{Todo, Place, going, sleeping, inactive, waiting, ended, is_going, is_inactive, todo_of}
use Rattle.vs_process.specs.Steps.{Out, step}
use Rattle.vs_independence.specs.vs_process.specs.States.{State, AssignState, Update, start, written_after, place_after_step, performed, stepped, evaluate, propagate, propagate_value, make, without, roused, woken_at, wakened, settled}
use Rattle.vs_independence.specs.vs_process.specs.Executions.{after, Legal, ends, next_time, after_slot, places_at, time_at}
use Rattle.vs_independence.specs.vs_process.proofs.Assigns.{assign_driven, assigned_other}
use Rattle.vs_independence.specs.vs_process.proofs.Idle.{after_sound}
use Rattle.vs_independence.specs.vs_process.proofs.Stores.{put_other}
use Rattle.vs_independence.specs.vs_process.proofs.Times.{enabled_of, behind_time as same_time}
use Rattle.vs_rules.specs.vs_process.specs.Threads.{Thread, store_after, turn_at, turn, iterate}
use Rattle.vs_independence.specs.RuleLaws.{TimeRises}
use Rattle.vs_rules.specs.vs_process.proofs.Threads.{is_stopped, stopped_from}
use Rattle.vs_independence.proofs.Making.{none_get}
use Rattle.vs_independence.proofs.InnerMoves.{AtEnd, at_end}
use Rattle.vs_independence.specs.vs_process.proofs.Permitted.{some_of}
use Rattle.vs_independence.proofs.Times.{is_after, after_next, get_from_all}

-- a property of a process's place and of the store at a time is kept by all that the process does, and by what leaves the signal as it is; where a
-- slot ends, another one is known of the store
pub record IsWatched (v : ℕ) (E : ℕ → Store → Type 0) (Q : ℕ → Place → Store → Type 0) : Type 0 where
  pub steps : (time : ℕ) (gait : Gait) (k : Todo) (store : Store) → Q time (going gait k) store →
      Q time (place_after_step (going gait k) time (step k store time).next) (store_after store (step k store time).write)
  pub kept : (time : ℕ) (p : Place) (a b : Store) → slice_get b v ≡ slice_get a v → Q time p a → Q time p b
  pub rouses : (time : ℕ) (p : Place) (store : Store) → Q time p store → Q time (roused p) store
  pub wakes : (time : ℕ) (old new : Store) (p : Place) (store : Store) → Q time p store → Q time (wakened old new p) store
  pub goes_on : (time t : ℕ) (p : Place) (store : Store) → is_stopped p ≡ true → is_after t p ≡ true → time < t → E time store → Q time p store → Q t (woken_at t p) store

-- where it can't be
abbrev pub Nowhere : ℕ → Place → Store → Type 0
Nowhere time p store = ⊥

pub nowhere_watched : (v : ℕ) (E : ℕ → Store → Type 0) → IsWatched v E Nowhere
nowhere_watched v E = record {
  steps = λ time gait k store h. absurd h;
  kept = λ time p a b e h. absurd h;
  rouses = λ time p store h. absurd h;
  wakes = λ time old new p store h. absurd h;
  goes_on = λ time t p store still up less known h. absurd h;
}

turn_watched : (v : ℕ) (E : ℕ → Store → Type 0) (Q : ℕ → Place → Store → Type 0) → IsWatched v E Q → (time i : ℕ) (p : Place) (th : Thread) → th.place ≡ p → Q time p th.view → Q time (turn_at time i p th).place (turn_at time i p th).view
turn_watched v E Q watched time i (going gait k) th e h = watched.steps time gait k th.view h
turn_watched v E Q watched time i (inactive k) th e h = watched.rouses time (inactive k) th.view h
turn_watched v E Q watched time i (sleeping due k) th e h = subst (λ p. Q time p th.view) (sym e) h
turn_watched v E Q watched time i (waiting terms k) th e h = subst (λ p. Q time p th.view) (sym e) h
turn_watched v E Q watched time i ended th e h = subst (λ p. Q time p th.view) (sym e) h

-- a thread of the process keeps it
pub thread_watched : (v : ℕ) (E : ℕ → Store → Type 0) (Q : ℕ → Place → Store → Type 0) → IsWatched v E Q → (time i n : ℕ) (th : Thread) → Q time th.place th.view →
    Q time (iterate n (turn time i) th).place (iterate n (turn time i) th).view
thread_watched v E Q watched time i zero th h = h
thread_watched v E Q watched time i (suc n) th h =
    let one = iterate n (turn time i) th in turn_watched v E Q watched time i one.place one refl (thread_watched v E Q watched time i n th h)

-- the place of the process and the store
abbrev pub Seen : (ℕ → Place → Store → Type 0) → ℕ → State → Type 0
Seen Q i s = Q s.time (get_or s.places i ended) s.store

-- nothing else changes the signal where that matters: no assignment drives it, no update names it, and the property stands a step of any other process
pub record IsLeft (grain : Grain) (d : Parts) (v i : ℕ) (Q : ℕ → Place → Store → Type 0) : Type 0 where
  pub undriven : is_driven d.assigns v ≡ false
  pub updates : (moves : List Move) → Legal grain d moves → (j : ℕ) (u : Update) → slice_get (after d moves).updates j ≡ Some u → names u.what v ≡ false
  pub others : (moves : List Move) → Legal grain d moves → (j : ℕ) (gait : Gait) (k : Todo) (w : Write) → (i ≡ j → ⊥) → slice_get (after d moves).places j ≡ Some (going gait k) →
      (step k (after d moves).store (after d moves).time).write ≡ Some w → names w v ≡ true → Seen Q i (after d moves) →
      Q (after d moves).time (get_or (after d moves).places i ended) (put (after d moves).store w)

seen_behind : (v : ℕ) (E : ℕ → Store → Type 0) (Q : ℕ → Place → Store → Type 0) → IsWatched v E Q → (i : ℕ) (s : State) (o : Option Write) →
    ((w : Write) → o ≡ Some w → Q s.time (get_or s.places i ended) (put s.store w)) → Seen Q i s → Seen Q i (written_after s o)
seen_behind v E Q watched i s None put_is h = h
seen_behind v E Q watched i s (Some w) put_is h =
    subst (λ p. Q s.time p (put s.store w)) (sym (get_or-map (wakened s.store (put s.store w)) s.places i ended))
    (watched.wakes s.time s.store (put s.store w) (get_or s.places i ended) (put s.store w) (put_is w refl))

same_store : (s : State) (o : Option Write) → (written_after s o).store ≡ store_after s.store o
same_store s None = refl
same_store s (Some w) = refl

there_still : (s : State) (o : Option Write) (j : ℕ) (p : Place) → slice_get s.places j ≡ Some p → slice_get (written_after s o).places j ≡ None → ⊥
there_still s None j p is e = by_none (slice_get s.places j) is e
  where
    by_none : (o : Option Place) → o ≡ Some p → o ≡ None → ⊥
    by_none None a b = cc
    by_none (Some x) a b = cc
there_still s (Some w) j p is e = by_map s.places j is e
  where
    by_map : (xs : List Place) (j : ℕ) → slice_get xs j ≡ Some p → slice_get (map (wakened s.store (put s.store w)) xs) j ≡ None → ⊥
    by_map [] j a b = cc
    by_map (x ∷ xs) zero a b = cc
    by_map (x ∷ xs) (suc j) a b = by_map xs j a b

set_there : (next : Place) (xs : List Place) (j : ℕ) → (slice_get xs j ≡ None → ⊥) → get_or (slice_set xs j next) j ended ≡ next
set_there next [] j h = absurd (h refl)
set_there next (x ∷ xs) zero h = refl
set_there next (x ∷ xs) (suc j) h = set_there next xs j h

-- a step
step_seen : (v : ℕ) (E : ℕ → Store → Type 0) (Q : ℕ → Place → Store → Type 0) → IsWatched v E Q → (i : ℕ) (s : State) (j : ℕ) (p : Place) → slice_get s.places j ≡ Some p → is_going p ≡ true →
    ((gait : Gait) (k : Todo) (w : Write) → (i ≡ j → ⊥) → p ≡ going gait k → (step k s.store s.time).write ≡ Some w → Q s.time (get_or s.places i ended) (put s.store w)) →
    Seen Q i s → Seen Q i (performed s j p (step (todo_of p) s.store s.time))
step_seen v E Q watched i s j (going gait k) is h other all = at_place (cases_eq i j)
  where
    out : Out
    out = step k s.store s.time

    t : State
    t = written_after s out.write

    next : Place
    next = place_after_step (going gait k) s.time out.next

    at_place : (i ≡ j) ⊎ (i ≡ j → ⊥) → Q t.time (get_or (slice_set t.places j next) i ended) t.store
    at_place (inl e) =
        subst (λ n. Q t.time (get_or (slice_set t.places j next) n ended) t.store) (sym e)
        (subst (λ p. Q t.time p t.store) (sym (set_there next t.places j (there_still s out.write j (going gait k) is)))
        (subst (λ n. Q n next t.store) (sym (same_time s out.write))
        (subst (λ st. Q s.time next st) (sym (same_store s out.write))
        (watched.steps s.time gait k s.store (subst (λ p. Q s.time p s.store) (get_or_from_slice_get s.places j (going gait k) ended is) (subst (λ n. Seen Q n s) e all))))))
    at_place (inr ne) =
        subst (λ p. Q t.time p t.store) (sym (get_or-set_other t.places j i next ended ne)) (seen_behind v E Q watched i s out.write (λ w at. other gait k w ne refl at) all)
step_seen v E Q watched i s j (sleeping due k) is h other all = absurd (false≢true h)
step_seen v E Q watched i s j (inactive k) is h other all = absurd (false≢true h)
step_seen v E Q watched i s j (waiting terms k) is h other all = absurd (false≢true h)
step_seen v E Q watched i s j ended is h other all = absurd (false≢true h)

end_seen : (v : ℕ) (E : ℕ → Store → Type 0) (Q : ℕ → Place → Store → Type 0) → IsWatched v E Q → (i : ℕ) (s : State) → AtEnd s → ((t : ℕ) → next_time s ≡ Some t → s.time < t) → E s.time s.store → Seen Q i s → Seen Q i (after_slot s)
end_seen v E Q watched i s e up known h = at_next (ends s) (next_time s) refl
  where
    at_next : (over : Bool) (next : Option ℕ) → next_time s ≡ next → Q (time_at over next s.time) (get_or (places_at over next s.places) i ended) s.store
    at_next true next is = h
    at_next false None is = h
    at_next false (Some t) is =
        subst (λ p. Q t p s.store) (sym (get_or-map (woken_at t) s.places i ended))
        (watched.goes_on s.time t (get_or s.places i ended) s.store
        (stopped_from (get_or s.places i ended) (none_get is_going s.places i ended refl e.quiet.going) (none_get is_inactive s.places i ended refl e.inactive))
        (get_from_all (is_after t) s.places ended refl (after_next s t is) i) (up t is) known h)

-- what is watched holds in every state that an execution reaches, where it holds at the start
pub seen_after : (grain : Grain) (d : Parts) → WellFormed d → TimeRises grain d → (v : ℕ) (E : ℕ → Store → Type 0) (Q : ℕ → Place → Store → Type 0) → IsWatched v E Q →
    ((moves : List Move) → Legal grain d moves → AtEnd (after d moves) → E (after d moves).time (after d moves).store) → (i : ℕ) → IsLeft grain d v i Q → Seen Q i (start d) →
    (moves : List Move) → Legal grain d moves → Seen Q i (after d moves)
seen_after grain d formed up v E Q watched at_ends i left first [] l = first
seen_after grain d formed up v E Q watched at_ends i left first (Step j ∷ moves) l =
    let s = after d moves in
    let p = some_of is_going (slice_get s.places j) (enabled_of grain d s (Step j) l.1).1 in
    let before = seen_after grain d formed up v E Q watched at_ends i left first moves l.0 in
    subst (λ (o : Option Place). Seen Q i (stepped s j o)) (sym p.1)
    (step_seen v E Q watched i s j p.0 p.1 p.2
    (λ gait k w ne at writes. by_name moves l.0 before j gait k w ne (p.1 ∙ ap (λ q. Some q) at) writes (cases_Bool (names w v)))
    before)
  where
    by_name : (moves : List Move) → Legal grain d moves → Seen Q i (after d moves) → (j : ℕ) (gait : Gait) (k : Todo) (w : Write) → (i ≡ j → ⊥) → slice_get (after d moves).places j ≡ Some (going gait k) →
        (step k (after d moves).store (after d moves).time).write ≡ Some w → ((names w v ≡ true) ⊎ (names w v ≡ false)) → Q (after d moves).time (get_or (after d moves).places i ended) (put (after d moves).store w)
    by_name moves l before j gait k w ne at writes (inl hit) = left.others moves l j gait k w ne at writes hit before
    by_name moves l before j gait k w ne at writes (inr miss) =
        watched.kept (after d moves).time (get_or (after d moves).places i ended) (after d moves).store (put (after d moves).store w) (put_other (after d moves).store w v miss) before
seen_after grain d formed up v E Q watched at_ends i left first (Evaluate j ∷ moves) l = at_assign (slice_get (after d moves).assigns j) (seen_after grain d formed up v E Q watched at_ends i left first moves l.0)
  where
    at_assign : (o : Option AssignState) → Seen Q i (after d moves) → Seen Q i (evaluate (after d moves) j o)
    at_assign None h = h
    at_assign (Some x) h = h
seen_after grain d formed up v E Q watched at_ends i left first (Propagate j ∷ moves) l = at_assign (slice_get (after d moves).assigns j) refl (seen_after grain d formed up v E Q watched at_ends i left first moves l.0)
  where
    s : State
    s = after d moves

    at_value : (x : AssignState) → slice_get s.assigns j ≡ Some x → (o : Option (List Digit)) → Seen Q i s → Seen Q i (propagate_value s j x o)
    at_value x is None h = h
    at_value x is (Some digits) h =
        let unwritten : writes_signal x.target v ≡ false = false_from_ne_true (writes_signal x.target v) (λ hit.
        true≢false (sym (assign_driven d s.store s.assigns (after_sound d formed moves).assigns j x v is hit) ∙ left.undriven)) in
        let write : Write = assigned x.target digits s.store s.time in
        seen_behind v E Q watched i (record s { assigns = slice_set s.assigns j (settled x) }) (Some write)
        (λ w at.
        watched.kept s.time (get_or s.places i ended) s.store (put s.store w)
        (subst (λ y. slice_get (put s.store y) v ≡ slice_get s.store v) (same_Some write w at) (assigned_other s.store x.target digits s.store s.time v unwritten)) h)
        h

    at_assign : (o : Option AssignState) → slice_get s.assigns j ≡ o → Seen Q i s → Seen Q i (propagate s j o)
    at_assign None is h = h
    at_assign (Some x) is h = at_value x is x.pending h
seen_after grain d formed up v E Q watched at_ends i left first (Make j ∷ moves) l = at_update (slice_get (after d moves).updates j) refl (seen_after grain d formed up v E Q watched at_ends i left first moves l.0)
  where
    s : State
    s = after d moves

    at_update : (o : Option Update) → slice_get s.updates j ≡ o → Seen Q i s → Seen Q i (make s j o)
    at_update None is h = h
    at_update (Some u) is h =
        seen_behind v E Q watched i (record s { updates = without j s.updates }) (Some u.what)
        (λ w at.
        watched.kept s.time (get_or s.places i ended) s.store (put s.store w)
        (put_other s.store w v (subst (λ y. names y v ≡ false) (same_Some u.what w at) (left.updates moves l.0 j u is))) h)
        h
seen_after grain d formed up v E Q watched at_ends i left first (Rouse ∷ moves) l =
    let s = after d moves in
    subst (λ p. Q s.time p s.store) (sym (get_or-map roused s.places i ended)) (watched.rouses s.time (get_or s.places i ended) s.store (seen_after grain d formed up v E Q watched at_ends i left first moves l.0))
seen_after grain d formed up v E Q watched at_ends i left first (Activate ∷ moves) l = seen_after grain d formed up v E Q watched at_ends i left first moves l.0
seen_after grain d formed up v E Q watched at_ends i left first (EndSlot ∷ moves) l =
    let e = at_end (after d moves) (enabled_of grain d (after d moves) EndSlot l.1).1 in
    end_seen v E Q watched i (after d moves) e (λ t is. up moves t l is) (at_ends moves l.0 e) (seen_after grain d formed up v E Q watched at_ends i left first moves l.0)
