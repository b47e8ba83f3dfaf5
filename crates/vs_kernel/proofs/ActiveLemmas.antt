-- What is active in a run.
use Rattle.std.proofs.Common.{◌≡◌, ℕ, suc, ◌<◌, ◌||◌, ◌&&◌, not, Bool, true, false, Option, Some, None, List, [], ◌∷◌, length, slice_get, is_some, refl, ◌∙◌, ap₂, arith}
use Rattle.std.specs.Prelude.{IsTrue, ◌↔◌}
use Rattle.std.specs.List.{list_any}
use Rattle.vs_design.specs.Parts.{Parts}
use Rattle.vs_run_regions.specs.vs_process.specs.Places.{is_going}
use Rattle.vs_run_regions.specs.vs_process.specs.declared.moves.Move.TheVariants.{Rouse, Activate, EndSlot}
use Rattle.vs_run_regions.specs.vs_process.specs.Executions.{has_due, has_inactive, if_some, is_busy, is_enabled}
use Rattle.vs_run_regions.specs.vs_process.specs.States.{AssignState, State}
use Rattle.vs_run_active.specs.declared.process.Process.{Process}
use Rattle.vs_run_active.specs.ProcessPlaces.{is_active}
use Rattle.vs_run_active.proofs.ProcessPlacesLemmas.{active_told}
use Rattle.vs_run_active.proofs.TimelinesLemmas.{any_inactive, any_number}
use Rattle.vs_run_steps.specs.declared.run.RunState.{RunState}
use Rattle.vs_run_steps.specs.Runs.{IsRunOf, state_of}
use Rattle.vs_run_steps.specs.vs_run_active.specs.Waiting.{places_of}
use Rattle.vs_run_active.specs.Touches.{is_left}

-- ---- lists of which none is active

pub none_any : {A : Type 0} (f : A → Bool) (xs : List A) → ((i : ℕ) → i < length xs → if_some f (slice_get xs i) ≡ false) → list_any f xs ≡ false
none_any f [] h = refl
none_any f (x ∷ xs) h = ap₂ (λ (a b : Bool). a || b) (h 0 (omega arith)) (none_any f xs (λ i below. h (suc i) (omega (arith, below))))

-- whether a process is active is known without its counters
pub going_any : (css : List (List ℕ)) (ps : List Process) → list_any is_going (places_of css ps) ≡ list_any is_active ps
going_any css [] = refl
going_any [] (p ∷ ps) = ap₂ (λ (a b : Bool). a || b) (active_told p []) (going_any [] ps)
going_any (cs ∷ css) (p ∷ ps) = ap₂ (λ (a b : Bool). a || b) (active_told p cs) (going_any css ps)

-- a continuous assignment that hasn't to be evaluated, and of which no value waits
pub neither_left : (o : Option AssignState) → if_some (λ (x : AssignState). x.needs) o ≡ false → if_some (λ (x : AssignState). is_some x.pending) o ≡ false → if_some is_left o ≡ false
neither_left None needs waits = refl
neither_left (Some x) needs waits = ap₂ (λ (a b : Bool). a || b) needs waits

pub idle_of : (a b c : Bool) → a ≡ false → b ≡ false → c ≡ false → (a || b || c) ≡ false
idle_of a b c x y z = ap₂ (λ (u v : Bool). u || v) (ap₂ (λ (u v : Bool). u || v) x y) z

-- ---- the move between events

pub inactive_any : {Q : Type 0} (d : Parts) (r : RunState Q) (b : Bool) → IsRunOf d r → IsTrue b ↔ (0 < length r.regions.inactive) → b ≡ has_inactive (state_of r)
inactive_any d r b h told = any_number r.regions.inactive b told ∙ any_inactive (state_of r).places r.regions.inactive r.regions.sleepers h.1.agrees.kept

pub rouse_next : (s : State) → is_busy s ≡ false → has_inactive s ≡ true → is_enabled s Rouse ≡ true
rouse_next s idle some = ap₂ (λ (a b : Bool). not a && b) idle some

pub activate_next : (s : State) → is_busy s ≡ false → has_inactive s ≡ false → has_due s ≡ true → is_enabled s Activate ≡ true
activate_next s idle none some = ap₂ (λ (a b : Bool). a && b) (ap₂ (λ (a b : Bool). not a && not b) idle none) some

pub end_next : (s : State) → is_busy s ≡ false → has_inactive s ≡ false → has_due s ≡ false → is_enabled s EndSlot ≡ true
end_next s idle none nothing = ap₂ (λ (a b : Bool). a && not b) (ap₂ (λ (a b : Bool). not a && not b) idle none) nothing
