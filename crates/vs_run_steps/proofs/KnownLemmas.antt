-- The continuous assignments of a state to which moves of a design lead.
use Rattle.std.proofs.Common.{◌≡◌, inl, inr, ℕ, Bool, true, false, Option, Some, None, List, [], ◌∷◌, map, length, slice_get, slice_set, if◌then◌else◌, refl, sym, ◌∙◌, ap, subst}
use Rattle.std.proofs.lemmas.Option.{none-some, same_Some}
use Rattle.vs_design.specs.vs_logic4.specs.declared.digit.Digit.{Digit}
use Rattle.vs_design.specs.vs_logic4.specs.Extensions.{length-resized}
use Rattle.vs_design.specs.Parts.{Parts}
use Rattle.vs_design.specs.Stores.{Store, changes_nothing, put}
use Rattle.vs_design.specs.Writes.{Write}
use Rattle.vs_eval.specs.Targets.{assigned}
use Rattle.vs_eval.specs.Values.{target_value, value_of}
use Rattle.vs_run_active.specs.vs_process.specs.Places.{Place, todo_of}
use Rattle.vs_run_active.specs.vs_process.specs.Steps.{step}
use Rattle.vs_run_active.specs.vs_process.proofs.ProcessLists.{map_cases, set_cases}
use Rattle.vs_run_active.specs.vs_process.specs.declared.moves.Move.{Move}
use Rattle.vs_run_active.specs.vs_process.specs.declared.moves.Move.TheVariants.{Step, Evaluate, Propagate, Make, Rouse, Activate, EndSlot}
use Rattle.vs_run_active.specs.vs_process.specs.Executions.{after, apply}
use Rattle.vs_run_active.specs.vs_process.specs.States.{AssignState, State, Update, evaluate, evaluated, make, propagate, propagate_value, settled, start_assign, stepped, touched, written_after}
use Rattle.vs_run_steps.specs.Known.{AreAssigns, IsAssign}

-- ---- one continuous assignment

of_touched : (d : Parts) (j : ℕ) (a b : Store) (x : AssignState) → IsAssign d j x → IsAssign d j (touched a b x)
of_touched d j a b x h = record { assign = h.assign; at = h.at; target = h.target; source = h.source; fits = h.fits }

left_fits : (b : Bool) (digits v : List Digit) (width : ℕ) → length digits ≡ width → (if b then None else Some digits) ≡ Some v → length v ≡ width
left_fits true digits v width long is = absurd (none-some v is)
left_fits false digits v width long is = ap (λ (l : List Digit). length l) (sym (same_Some digits v is)) ∙ long

of_evaluated : (d : Parts) (j : ℕ) (store : Store) (time : ℕ) (x : AssignState) → IsAssign d j x → IsAssign d j (evaluated store time x)
of_evaluated d j store time x h =
    let digits : List Digit = target_value x.target x.source store time in
    record {
      assign = h.assign;
      at = h.at;
      target = h.target;
      source = h.source;
      fits = λ v is.
          left_fits (changes_nothing store (assigned x.target digits store time)) digits v x.target.width (length-resized false x.target.width (value_of x.source store time)) is;
    }

of_settled : (d : Parts) (j : ℕ) (x : AssignState) → IsAssign d j x → IsAssign d j (settled x)
of_settled d j x h = record { assign = h.assign; at = h.at; target = h.target; source = h.source; fits = λ v is. absurd (none-some v is) }

-- ---- all of them

all_touched : (d : Parts) (a b : Store) (xs : List AssignState) → AreAssigns d xs → AreAssigns d (map (touched a b) xs)
all_touched d a b xs h = record {
  each = λ j y at.
      let from = map_cases (touched a b) xs j y at in
      subst (IsAssign d j) from.2 (of_touched d j a b from.0 (h.each j from.0 from.1));
}

pub all_set : (d : Parts) (xs : List AssignState) (j : ℕ) (x y : AssignState) → slice_get xs j ≡ Some x → IsAssign d j y → AreAssigns d xs → AreAssigns d (slice_set xs j y)
all_set d xs j x y here own h = record {
  each = λ k z at. elim (set_cases xs j k x y z here at) [
    | inl same ↦ subst (λ (n : ℕ). IsAssign d n z) (sym same.0) (subst (IsAssign d j) (sym same.1) own)
    | inr other ↦ h.each k z other.1
  ];
}

all_behind : (d : Parts) (s : State) (o : Option Write) → AreAssigns d s.assigns → AreAssigns d (written_after s o).assigns
all_behind d s None h = h
all_behind d s (Some w) h = all_touched d s.store (put s.store w) s.assigns h

all_stepped : (d : Parts) (s : State) (i : ℕ) (o : Option Place) → AreAssigns d s.assigns → AreAssigns d (stepped s i o).assigns
all_stepped d s i None h = h
all_stepped d s i (Some place) h = all_behind d s (step (todo_of place) s.store s.time).write h

all_evaluated : (d : Parts) (s : State) (j : ℕ) (o : Option AssignState) → slice_get s.assigns j ≡ o → AreAssigns d s.assigns → AreAssigns d (evaluate s j o).assigns
all_evaluated d s j None here h = h
all_evaluated d s j (Some x) here h = all_set d s.assigns j x (evaluated s.store s.time x) here (of_evaluated d j s.store s.time x (h.each j x here)) h

all_driven : (d : Parts) (s : State) (j : ℕ) (x : AssignState) (o : Option (List Digit)) → slice_get s.assigns j ≡ Some x → AreAssigns d s.assigns → AreAssigns d (propagate_value s j x o).assigns
all_driven d s j x None here h = h
all_driven d s j x (Some v) here h =
    all_touched d s.store (put s.store (assigned x.target v s.store s.time)) (slice_set s.assigns j (settled x)) (all_set d s.assigns j x (settled x) here (of_settled d j x (h.each j x here)) h)

all_propagated : (d : Parts) (s : State) (j : ℕ) (o : Option AssignState) → slice_get s.assigns j ≡ o → AreAssigns d s.assigns → AreAssigns d (propagate s j o).assigns
all_propagated d s j None here h = h
all_propagated d s j (Some x) here h = all_driven d s j x x.pending here h

all_made : (d : Parts) (s : State) (i : ℕ) (o : Option Update) → AreAssigns d s.assigns → AreAssigns d (make s i o).assigns
all_made d s i None h = h
all_made d s i (Some u) h = all_touched d s.store (put s.store u.what) s.assigns h

all_moved : (d : Parts) (m : Move) (s : State) → AreAssigns d s.assigns → AreAssigns d (apply m s).assigns
all_moved d (Step i) s h = all_stepped d s i (slice_get s.places i) h
all_moved d (Evaluate j) s h = all_evaluated d s j (slice_get s.assigns j) refl h
all_moved d (Propagate j) s h = all_propagated d s j (slice_get s.assigns j) refl h
all_moved d (Make i) s h = all_made d s i (slice_get s.updates i) h
all_moved d Rouse s h = h
all_moved d Activate s h = h
all_moved d EndSlot s h = h

-- so are those of a state to which moves lead
pub all_after : (d : Parts) (moves : List Move) → AreAssigns d (after d moves).assigns
all_after d [] = record {
  each = λ j y at.
      let from = map_cases start_assign d.assigns j y at in
      subst (IsAssign d j) from.2 (record { assign = from.0; at = from.1; target = refl; source = refl; fits = λ v is. absurd (none-some v is) });
}
all_after d (m ∷ before) = all_moved d m (after d before) (all_after d before)
