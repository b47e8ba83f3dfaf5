-- What holds in every state that an execution of a well formed design reaches; so an idle continuous assignment has its value.
use Rattle.std.proofs.Common.{◌≡◌, ℕ, true, Option, Some, None, List, [], ◌∷◌, slice_get, refl, sym, ◌∙◌, subst}
use Rattle.std.specs.List.{list_any, list_all}
use Rattle.std.proofs.lemmas.Bool.{false≢true}
use Rattle.std.proofs.lemmas.List.Folds.{list_all-map}
use Rattle.vs_design.specs.vs_logic4.specs.declared.digit.Digit.{Digit}
use Rattle.vs_design.specs.declared.design.Assign.{Assign}
use Rattle.vs_design.specs.Parts.{Parts}
use Rattle.vs_design.specs.Stores.{put, changes_nothing}
use Rattle.vs_design.specs.WellFormed.{WellFormed}
use Rattle.vs_design.specs.Writes.{Write, names}
use Rattle.vs_eval.specs.Targets.{assigned}
use Rattle.vs_process.specs.declared.moves.Grain.{Grain}
use Rattle.vs_process.specs.declared.moves.Move.{Move}
use Rattle.vs_process.specs.Places.{Place}
use Rattle.vs_process.specs.Steps.{Out, step, assignment}
use Rattle.vs_process.specs.States.{State, AssignState, Update, place_after_step, performed, stepped, written_after, evaluate, propagate_value, propagate, make, roused}
use Rattle.vs_process.specs.Places.{todo_of}
use Rattle.vs_process.specs.Executions.{after, apply, Legal, ends, next_time}
use Rattle.vs_process.specs.declared.moves.Move.TheVariants.{Step, Evaluate, Propagate, Make, Rouse, Activate, EndSlot}
use Rattle.vs_process.specs.Idle.{HasValueIfIdle}
use Rattle.vs_process.proofs.WellFormed.{IsVariable, NamesVariables, any_activated, is_sound_place, is_sound_todo, next_todo, drives_apart, sound_made, sound_next, sound_all_wakened, sound_place_behind, sound_places_at, sound_roused, sound_start_places, step_names, variable_undriven}
use Rattle.vs_process.proofs.Assigns.{AssignsSound, assign_fixed, assign_of, idle_value, sound_behind, sound_evaluated, sound_propagated, sound_start, sound_written}
use Rattle.vs_process.proofs.ProcessLists.{all_set, any_without, list_all_like}
use Rattle.std.proofs.lemmas.Map.Keys.{any_passes_from_place as at_any}
use Rattle.vs_design.specs.vs_logic4.proofs.Basics.{all_at}

-- the continuous assignments are sound, processes still do what is sound, and updates name variables alone
pub record IsSound (d : Parts) (s : State) : Type 0 where
  pub assigns : AssignsSound d s.store s.assigns
  pub places : list_all (is_sound_place d.signals) s.places ≡ true
  pub updates : (v : ℕ) → list_any (λ (u : Update). names u.what v) s.updates ≡ true → IsVariable d.signals v

behind_sound : (d : Parts) (s : State) (o : Option Write) → list_all (is_sound_place d.signals) s.places ≡ true → list_all (is_sound_place d.signals) (written_after s o).places ≡ true
behind_sound d s None h = h
behind_sound d s (Some w) h = sound_all_wakened d.signals s.store (put s.store w) s.places h

performed_sound : (d : Parts) → WellFormed d → (s : State) (i : ℕ) (place : Place) (out : Out) → NamesVariables d.signals out → is_sound_todo d.signals (next_todo out.next) ≡ true → IsSound d s →
    IsSound d (performed s i place out)
performed_sound d formed s i place out named next h = record {
  assigns = sound_behind d s out.write (λ w is v n. variable_undriven d formed v (named.write w is v n)) h.assigns;
  places = all_set (is_sound_place d.signals) (written_after s out.write).places i (place_after_step place s.time out.next) (sound_place_behind d.signals place s.time out.next next) (behind_sound d s out.write h.places);
  updates = sound_made d.signals i s.time s.updates out.update named.update h.updates;
}

stepped_sound : (d : Parts) → WellFormed d → (s : State) (i : ℕ) (o : Option Place) → slice_get s.places i ≡ o → IsSound d s → IsSound d (stepped s i o)
stepped_sound d formed s i None is h = h
stepped_sound d formed s i (Some place) is h =
    let todo : is_sound_todo d.signals (todo_of place) ≡ true = all_at (is_sound_place d.signals) s.places i place is h.places in
    performed_sound d formed s i place (step (todo_of place) s.store s.time) (step_names d.signals (todo_of place) s.store s.time todo) (sound_next d.signals (todo_of place) s.store s.time todo) h

evaluate_sound : (d : Parts) → WellFormed d → (s : State) (j : ℕ) (o : Option AssignState) → slice_get s.assigns j ≡ o → IsSound d s → IsSound d (evaluate s j o)
evaluate_sound d formed s j None is h = h
evaluate_sound d formed s j (Some x) is h = record { assigns = sound_evaluated d (drives_apart d formed) s.store s.time s.assigns j x is h.assigns; places = h.places; updates = h.updates }

value_sound : (d : Parts) → WellFormed d → (s : State) (j : ℕ) (x : AssignState) (o : Option (List Digit)) → slice_get s.assigns j ≡ Some x → x.pending ≡ o → IsSound d s → IsSound d (propagate_value s j x o)
value_sound d formed s j x None is waits h = h
value_sound d formed s j x (Some digits) is waits h =
    record { assigns = sound_propagated d (drives_apart d formed) s.store s.time s.assigns j x digits is waits h.assigns; places = sound_all_wakened d.signals s.store (put s.store (assigned x.target digits s.store s.time)) s.places h.places; updates = h.updates }

propagate_sound : (d : Parts) → WellFormed d → (s : State) (j : ℕ) (o : Option AssignState) → slice_get s.assigns j ≡ o → IsSound d s → IsSound d (propagate s j o)
propagate_sound d formed s j None is h = h
propagate_sound d formed s j (Some x) is h = value_sound d formed s j x x.pending is refl h

make_sound : (d : Parts) → WellFormed d → (s : State) (i : ℕ) (o : Option Update) → slice_get s.updates i ≡ o → IsSound d s → IsSound d (make s i o)
make_sound d formed s i None is h = h
make_sound d formed s i (Some u) is h = record {
  assigns = sound_written d s.store s.assigns u.what (λ v n. variable_undriven d formed v (h.updates v (at_any (λ (x : Update). names x.what v) s.updates i u is n))) h.assigns;
  places = sound_all_wakened d.signals s.store (put s.store u.what) s.places h.places;
  updates = λ v n. h.updates v (any_without (λ (x : Update). names x.what v) i s.updates n);
}

applied_sound : (d : Parts) → WellFormed d → (m : Move) (s : State) → IsSound d s → IsSound d (apply m s)
applied_sound d formed (Step i) s h = stepped_sound d formed s i (slice_get s.places i) refl h
applied_sound d formed (Evaluate j) s h = evaluate_sound d formed s j (slice_get s.assigns j) refl h
applied_sound d formed (Propagate j) s h = propagate_sound d formed s j (slice_get s.assigns j) refl h
applied_sound d formed (Make i) s h = make_sound d formed s i (slice_get s.updates i) refl h
applied_sound d formed Rouse s h = record {
  assigns = h.assigns;
  places = list_all-map (is_sound_place d.signals) roused s.places ∙ list_all_like (is_sound_place d.signals) (λ p. is_sound_place d.signals (roused p)) s.places (sound_roused d.signals) h.places;
  updates = h.updates;
}
applied_sound d formed Activate s h = record { assigns = h.assigns; places = h.places; updates = λ v n. h.updates v (sym (any_activated s.time s.updates v) ∙ n) }
applied_sound d formed EndSlot s h = record { assigns = h.assigns; places = sound_places_at d.signals (ends s) (next_time s) s.places h.places; updates = h.updates }

-- every state that moves lead to
pub after_sound : (d : Parts) → WellFormed d → (moves : List Move) → IsSound d (after d moves)
after_sound d formed [] = record { assigns = sound_start d; places = sound_start_places d formed; updates = λ v n. absurd (false≢true n) }
after_sound d formed (m ∷ before) = applied_sound d formed m (after d before) (after_sound d formed before)

-- an idle continuous assignment has its value
pub idle_have_values : (grain : Grain) (d : Parts) → WellFormed d → (moves : List Move) → Legal grain d moves → (j : ℕ) (a : Assign) → slice_get d.assigns j ≡ Some a → HasValueIfIdle (after d moves) j a
idle_have_values grain d formed moves legal j a is =
    let s = after d moves in
    let sound = (after_sound d formed moves).assigns in
    let x = assign_of d.assigns s.assigns j a sound.linked is in (
      x.0,
      x.1,
      λ idle. subst (λ t. changes_nothing s.store (assignment t a.source s.store s.time) ≡ true) x.2
          (subst (λ e. changes_nothing s.store (assignment x.0.target e s.store s.time) ≡ true) x.3 (idle_value s.store s.time x.0 (assign_fixed d (drives_apart d formed) s.store s.assigns sound j x.0 x.1) idle (sound.consistent j x.0 x.1))),
    )
