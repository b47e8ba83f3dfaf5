-- What holds of the place of a process in every execution.
use Rattle.std.proofs.Common.{◌≡◌, ℕ, zero, suc, ◌⊎◌, Bool, true, false, Option, Some, None, List, [], ◌∷◌, map, get_or, slice_get, slice_set, refl, sym, subst, inl, inr}
use Rattle.std.proofs.Math.ListN.{get_or-map}
use Rattle.std.proofs.lemmas.Bool.{cases_eq, false≢true}
use Rattle.std.proofs.lemmas.List.{get_or-set_other}
use Rattle.std.proofs.lemmas.Option.{get_or_from_slice_get}
use Rattle.vs_design.specs.vs_logic4.specs.declared.digit.Digit.{Digit}
use Rattle.vs_design.specs.Parts.{Parts}
use Rattle.vs_design.specs.Stores.{Store, put}
use Rattle.vs_design.specs.Writes.{Write}
use Rattle.vs_independence.specs.vs_process.specs.vs_eval.specs.Targets.{assigned}
use Rattle.vs_process.specs.declared.gait.Gait.{Gait}
use Rattle.vs_independence.specs.vs_process.specs.declared.moves.Grain.{Grain}
use Rattle.vs_independence.specs.vs_process.specs.declared.moves.Move.{Move}
use Rattle.vs_independence.specs.vs_process.specs.declared.moves.Move.TheVariants.{Step, Evaluate, Propagate, Make, Rouse, Activate, EndSlot}
use Rattle.vs_process.specs.Places.{Todo, Place, going, sleeping, inactive, waiting, ended, is_going, is_inactive, todo_of}
use Rattle.vs_process.specs.Steps.{Out, step}
use Rattle.vs_independence.specs.vs_process.specs.States.{State, AssignState, Update, start, written_after, place_after_step, performed, stepped, evaluate, propagate, propagate_value, make, without, roused, woken_at, wakened, settled}
use Rattle.vs_independence.specs.vs_process.specs.Executions.{after, Legal, ends, next_time, after_slot, places_at, time_at}
use Rattle.vs_independence.specs.vs_process.proofs.Times.{enabled_of}
use Rattle.vs_rules.specs.vs_process.proofs.Threads.{is_stopped, stopped_from}
use Rattle.vs_independence.proofs.Making.{none_get}
use Rattle.vs_independence.proofs.InnerMoves.{AtEnd, at_end}
use Rattle.vs_independence.specs.vs_process.proofs.Permitted.{some_of}
use Rattle.vs_independence.proofs.Times.{is_after, after_next, get_from_all}

-- a property of a process's place at a time is kept by all that can happen to the place
pub record IsSteady (Q : ℕ → Place → Type 0) : Type 0 where
  pub steps : (time : ℕ) (gait : Gait) (k : Todo) (store : Store) → Q time (going gait k) → Q time (place_after_step (going gait k) time (step k store time).next)
  pub rouses : (time : ℕ) (p : Place) → Q time p → Q time (roused p)
  pub wakes : (time : ℕ) (old new : Store) (p : Place) → Q time p → Q time (wakened old new p)
  pub goes_on : (time t : ℕ) (p : Place) → is_stopped p ≡ true → is_after t p ≡ true → Q time p → Q t (woken_at t p)

abbrev Holds : (ℕ → Place → Type 0) → ℕ → State → Type 0
Holds Q i s = Q s.time (get_or s.places i ended)

behind_holds : (Q : ℕ → Place → Type 0) → IsSteady Q → (i : ℕ) (s : State) (o : Option Write) → Holds Q i s → Holds Q i (written_after s o)
behind_holds Q steady i s None h = h
behind_holds Q steady i s (Some w) h =
    subst (Q s.time) (sym (get_or-map (wakened s.store (put s.store w)) s.places i ended)) (steady.wakes s.time s.store (put s.store w) (get_or s.places i ended) h)

step_holds : (Q : ℕ → Place → Type 0) → IsSteady Q → (i : ℕ) (s : State) (j : ℕ) (p : Place) → slice_get s.places j ≡ Some p → is_going p ≡ true → Holds Q i s →
    Holds Q i (performed s j p (step (todo_of p) s.store s.time))
step_holds Q steady i s j (going gait k) is h all = at_place (cases_eq i j)
  where
    out : Out
    out = step k s.store s.time

    t : State
    t = written_after s out.write

    next : Place
    next = place_after_step (going gait k) s.time out.next

    same_time : (o : Option Write) → (written_after s o).time ≡ s.time
    same_time None = refl
    same_time (Some w) = refl

    wider : (o : Option Write) → slice_get (written_after s o).places j ≡ None → ⊥
    wider None e = by_none (slice_get s.places j) is e
      where
        by_none : (o : Option Place) → o ≡ Some (going gait k) → o ≡ None → ⊥
        by_none None a b = cc
        by_none (Some x) a b = cc
    wider (Some w) e = by_map s.places j is e
      where
        by_map : (xs : List Place) (j : ℕ) → slice_get xs j ≡ Some (going gait k) → slice_get (map (wakened s.store (put s.store w)) xs) j ≡ None → ⊥
        by_map [] j a b = cc
        by_map (x ∷ xs) zero a b = cc
        by_map (x ∷ xs) (suc j) a b = by_map xs j a b

    at_place : (i ≡ j) ⊎ (i ≡ j → ⊥) → Q (performed s j (going gait k) out).time (get_or (slice_set t.places j next) i ended)
    at_place (inl e) =
        subst (λ n. Q (performed s j (going gait k) out).time (get_or (slice_set t.places j next) n ended)) (sym e)
        (subst (Q (performed s j (going gait k) out).time) (sym (set_there t.places j (wider out.write)))
        (subst (λ n. Q n next) (sym (same_time out.write))
        (steady.steps s.time gait k s.store (subst (Q s.time) (get_or_from_slice_get s.places j (going gait k) ended is) (subst (λ n. Holds Q n s) e all)))))
      where
        set_there : (xs : List Place) (j : ℕ) → (slice_get xs j ≡ None → ⊥) → get_or (slice_set xs j next) j ended ≡ next
        set_there [] j h = absurd (h refl)
        set_there (x ∷ xs) zero h = refl
        set_there (x ∷ xs) (suc j) h = set_there xs j h
    at_place (inr ne) = subst (Q (performed s j (going gait k) out).time) (sym (get_or-set_other t.places j i next ended ne)) (behind_holds Q steady i s out.write all)
step_holds Q steady i s j (sleeping due k) is h all = absurd (false≢true h)
step_holds Q steady i s j (inactive k) is h all = absurd (false≢true h)
step_holds Q steady i s j (waiting terms k) is h all = absurd (false≢true h)
step_holds Q steady i s j ended is h all = absurd (false≢true h)

evaluate_holds : (Q : ℕ → Place → Type 0) (i : ℕ) (s : State) (j : ℕ) (o : Option AssignState) → Holds Q i s → Holds Q i (evaluate s j o)
evaluate_holds Q i s j None h = h
evaluate_holds Q i s j (Some x) h = h

propagate_holds : (Q : ℕ → Place → Type 0) → IsSteady Q → (i : ℕ) (s : State) (j : ℕ) (o : Option AssignState) → Holds Q i s → Holds Q i (propagate s j o)
propagate_holds Q steady i s j None h = h
propagate_holds Q steady i s j (Some x) h = at_value x.pending
  where
    at_value : (o : Option (List Digit)) → Holds Q i (propagate_value s j x o)
    at_value None = h
    at_value (Some digits) = behind_holds Q steady i (record s { assigns = slice_set s.assigns j (settled x) }) (Some (assigned x.target digits s.store s.time)) h

make_holds : (Q : ℕ → Place → Type 0) → IsSteady Q → (i : ℕ) (s : State) (j : ℕ) (o : Option Update) → Holds Q i s → Holds Q i (make s j o)
make_holds Q steady i s j None h = h
make_holds Q steady i s j (Some u) h = behind_holds Q steady i (record s { updates = without j s.updates }) (Some u.what) h

end_holds : (Q : ℕ → Place → Type 0) → IsSteady Q → (i : ℕ) (s : State) → AtEnd s → Holds Q i s → Holds Q i (after_slot s)
end_holds Q steady i s e h = at_next (ends s) (next_time s) refl
  where
    at_next : (over : Bool) (next : Option ℕ) → next_time s ≡ next → Q (time_at over next s.time) (get_or (places_at over next s.places) i ended)
    at_next true next is = h
    at_next false None is = h
    at_next false (Some t) is =
        subst (Q t) (sym (get_or-map (woken_at t) s.places i ended))
        (steady.goes_on s.time t (get_or s.places i ended)
        (stopped_from (get_or s.places i ended) (none_get is_going s.places i ended refl e.quiet.going) (none_get is_inactive s.places i ended refl e.inactive))
        (get_from_all (is_after t) s.places ended refl (after_next s t is) i) h)

rouse_holds : (Q : ℕ → Place → Type 0) → IsSteady Q → (i : ℕ) (s : State) → Holds Q i s → Holds Q i (record s { places = map roused s.places })
rouse_holds Q steady i s h = subst (Q s.time) (sym (get_or-map roused s.places i ended)) (steady.rouses s.time (get_or s.places i ended) h)

-- what is kept holds in every state that an execution reaches, where it holds at the start
pub holds_after : (grain : Grain) (d : Parts) (Q : ℕ → Place → Type 0) → IsSteady Q → (i : ℕ) → Q 0 (get_or (start d).places i ended) → (moves : List Move) → Legal grain d moves →
    Q (after d moves).time (get_or (after d moves).places i ended)
holds_after grain d Q steady i first [] l = first
holds_after grain d Q steady i first (Step j ∷ moves) l =
    let s = after d moves in
    let p = some_of is_going (slice_get s.places j) (enabled_of grain d s (Step j) l.1).1 in
    subst (λ (o : Option Place). Holds Q i (stepped s j o)) (sym p.1) (step_holds Q steady i s j p.0 p.1 p.2 (holds_after grain d Q steady i first moves l.0))
holds_after grain d Q steady i first (Evaluate j ∷ moves) l = evaluate_holds Q i (after d moves) j (slice_get (after d moves).assigns j) (holds_after grain d Q steady i first moves l.0)
holds_after grain d Q steady i first (Propagate j ∷ moves) l = propagate_holds Q steady i (after d moves) j (slice_get (after d moves).assigns j) (holds_after grain d Q steady i first moves l.0)
holds_after grain d Q steady i first (Make j ∷ moves) l = make_holds Q steady i (after d moves) j (slice_get (after d moves).updates j) (holds_after grain d Q steady i first moves l.0)
holds_after grain d Q steady i first (Rouse ∷ moves) l = rouse_holds Q steady i (after d moves) (holds_after grain d Q steady i first moves l.0)
holds_after grain d Q steady i first (Activate ∷ moves) l = holds_after grain d Q steady i first moves l.0
holds_after grain d Q steady i first (EndSlot ∷ moves) l =
    end_holds Q steady i (after d moves) (at_end (after d moves) (enabled_of grain d (after d moves) EndSlot l.1).1) (holds_after grain d Q steady i first moves l.0)
