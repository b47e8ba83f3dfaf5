-- Nonblocking updates that are made.
use Rattle.std.proofs.Common.{◌≡◌, ℕ, Bool, true, false, Option, Some, None, List, [], ◌∷◌, get_or, option_map, slice_get, refl, sym, ◌∙◌, ap, ap₂, subst}
use Rattle.std.specs.Prelude.{IfSome, slice_set}
use Rattle.std.specs.List.{list_any}
use Rattle.std.proofs.lemmas.Bool.{and_parts, false≢true, true≢false}
use Rattle.std.proofs.lemmas.Option.{none-some, same_Some}
use Rattle.vs_design.specs.Parts.{Parts}
use Rattle.vs_design.specs.Writes.{Write}
use Rattle.vs_run_regions.specs.vs_time_wheel.proofs.Bags.{SameBag-from_eq}
use Rattle.vs_run_regions.specs.vs_process.specs.declared.moves.Move.TheVariants.{Make}
use Rattle.vs_run_regions.specs.vs_process.specs.Executions.{apply, if_some, is_first}
use Rattle.vs_run_regions.specs.vs_process.specs.States.{State, Update, without, written}
use Rattle.vs_run_regions.specs.vs_process.proofs.ProcessLists.{none_at}
use Rattle.vs_run_steps.specs.declared.run.RunState.{RunState}
use Rattle.vs_run_steps.specs.Runs.{Agrees, Keeps, state_of}
use Rattle.vs_run_steps.proofs.RunsLemmas.{keeps_regions}
use Rattle.vs_run_steps.specs.vs_run_active.specs.declared.watchers.ProcessTerm.{ProcessTerm}
use Rattle.vs_run_steps.specs.Turns.{AreMade}
use Rattle.vs_run_steps.proofs.AssignLemmas.{updated}
use Rattle.vs_run_steps.proofs.MadeLemmas.{made_one}
use Rattle.vs_run_regions.specs.declared.update.Update as declared
use Rattle.vs_run_regions.specs.declared.update.Update.TheVariants as u
use Rattle.vs_run_regions.specs.Active.{is_active, place_of_active}
use Rattle.vs_run_regions.specs.Regions.{Waiting, place_of_number, without_oldest}
use Rattle.vs_run_regions.specs.Updates.{bits_write, is_there, left_of, what_of}
use Rattle.vs_run_regions.specs.declared.event.Event.TheVariants as e
use Rattle.vs_kernel.specs.Making.{WritesUpdate}
use Rattle.vs_kernel.specs.Running.{IsActive}

-- ---- one that is taken out of the list, and written

by_what : (o : Option Update) (w : Write) → option_map (λ (v : Update). v.what) o ≡ Some w → (x : Update) × (o ≡ Some x) × (x.what ≡ w)
by_what None w h = absurd (none-some w h)
by_what (Some x) w h = (x, refl, same_Some x.what w h)

made_update : (s t : State) (k : ℕ) (w : Write) → option_map (λ (v : Update). v.what) (slice_get s.updates k) ≡ Some w → t ≡ written (record s { updates = without k s.updates }) w → t ≡ apply (Make k) s
made_update s t k w there made =
    let x = by_what (slice_get s.updates k) w there in
    updated s t k x.0 x.1 (subst (λ (z : Write). t ≡ written (record s { updates = without k s.updates }) z) (sym x.2) made)

-- the run without it
without_state : {Q : Type 0} (r : RunState Q) (v : Waiting) (us : List Update) → v.updates ≡ us → v.time ≡ r.regions.time → state_of (record r { regions = v }) ≡ record (state_of r) { updates = us }
without_state r v us updates time = ap₂ (λ (l : List Update) (n : ℕ). record (state_of r) { updates = l; time = n }) updates time

written_from : {Q : Type 0} (r : RunState Q) (v : Waiting) (us : List Update) (w : Write) (t : State) → v.updates ≡ us → v.time ≡ r.regions.time → t ≡ written (state_of (record r { regions = v })) w →
    t ≡ written (record (state_of r) { updates = us }) w
written_from r v us w t updates time made = made ∙ ap (λ (s : State). written s w) (without_state r v us updates time)

-- ---- the oldest one

-- the waiting ones without it
abbrev pub IsNext : declared.Update → Waiting → Waiting → Type 0
IsNext x old v = v ≡ record old { updates = without_oldest x old.updates; listed = record old.listed { active = v.listed.active } }

pub next_keeps : {Q : Type 0} (d : Parts) (terms : List ProcessTerm) (r : RunState Q) (v : Waiting) (x : declared.Update) → Agrees d terms r → IsNext x r.regions v → Keeps d terms r (record r { regions = v })
next_keeps d terms r v x h rest =
    keeps_regions d terms r v h (ap (λ (w : Waiting). w.time) rest) (ap (λ (w : Waiting). w.inactive) rest) (SameBag-from_eq (ap (λ (w : Waiting). w.sleepers) rest))
    (ap (λ (w : Waiting). w.listed.signals) rest)

next_one : {Q : Type 0} (r : RunState Q) (v : Waiting) (w : Write) (t : State) →
    option_map (λ (y : Update). y.what) (slice_get r.regions.updates (place_of_active 0 r.regions.updates)) ≡ Some w →
    if_some (is_first r.regions.updates (place_of_active 0 r.regions.updates)) (slice_get r.regions.updates (place_of_active 0 r.regions.updates)) ≡ true →
    v.updates ≡ without (place_of_active 0 r.regions.updates) r.regions.updates → v.time ≡ r.regions.time → t ≡ written (state_of (record r { regions = v })) w → AreMade 1 (state_of r) t
next_one r v w t there first updates time made =
    let k : ℕ = place_of_active 0 r.regions.updates in
    made_one (state_of r) t (Make k) refl first (made_update (state_of r) t k w there (written_from r v (without k r.regions.updates) w t updates time made))

pub next_made : {Q : Type 0} (r : RunState Q) (v : Waiting) (x : declared.Update) (t : State) (made : Bool) →
    IfSome (left_of v.listed.writes x) (λ what. option_map (λ (y : Update). y.what) (slice_get r.regions.updates (place_of_active 0 r.regions.updates)) ≡ Some what) →
    IfSome (left_of v.listed.writes x) (λ what. if_some (is_first r.regions.updates (place_of_active 0 r.regions.updates)) (slice_get r.regions.updates (place_of_active 0 r.regions.updates)) ≡ true) →
    IsNext x r.regions v → WritesUpdate x v.listed.writes (state_of (record r { regions = v })) t made → made ≡ true → AreMade 1 (state_of r) t
next_made r v (u.Bits b) t made there first rest writes made_so =
    next_one r v (bits_write b) t there first (ap (λ (w : Waiting). w.updates) rest) (ap (λ (w : Waiting). w.time) rest) writes.1
next_made r v (u.Any n) t made there first rest writes made_so =
    next_one r v (get_or v.listed.writes n []) t there first (ap (λ (w : Waiting). w.updates) rest) (ap (λ (w : Waiting). w.time) rest) writes.1
next_made r v u.Gone t made there first rest writes made_so = absurd (false≢true (sym writes.0 ∙ made_so))

-- one that is gone changes nothing
pub next_none : {Q : Type 0} (r : RunState Q) (v : Waiting) (x : declared.Update) (t : State) (made : Bool) → IsNext x r.regions v → WritesUpdate x v.listed.writes (state_of (record r { regions = v })) t made →
    made ≡ false → t ≡ state_of r
next_none r v (u.Bits b) t made rest writes none_so = absurd (true≢false (sym writes.0 ∙ none_so))
next_none r v (u.Any n) t made rest writes none_so = absurd (true≢false (sym writes.0 ∙ none_so))
next_none r v u.Gone t made rest writes none_so = writes.1 ∙ without_state r v r.regions.updates (ap (λ (w : Waiting). w.updates) rest) (ap (λ (w : Waiting). w.time) rest)

-- where the updates are an event the oldest one isn't gone
pub first_made : {Q : Type 0} (r : RunState Q) (v : Waiting) (x : declared.Update) (t : State) (made : Bool) → r.regions.listed.active ≡ left_of v.listed.writes x ∷ v.listed.active →
    WritesUpdate x v.listed.writes (state_of (record r { regions = v })) t made → IsActive r e.Updates → made ≡ true
first_made r v (u.Bits b) t made what writes active = writes.0
first_made r v (u.Any n) t made what writes active = writes.0
first_made r v u.Gone t made what writes active =
    absurd (false≢true (sym (ap (λ (l : List (Option Write)). is_there (slice_get l 0)) what) ∙ active.0))

-- and one is active
some_there : (us : List Update) (k : ℕ) (o : Option Update) → slice_get us k ≡ o → if_some (is_first us k) o ≡ true → list_any is_active us ≡ false → ⊥
some_there us k None there first none = absurd (false≢true first)
some_there us k (Some x) there first none = false≢true (sym (none_at is_active us k x there none) ∙ (and_parts x.active _ first).0)

pub some_active : {Q : Type 0} (r : RunState Q) → IsActive r e.Updates → list_any is_active r.regions.updates ≡ false → ⊥
some_active r active none =
    let k : ℕ = place_of_number 0 r.regions in some_there r.regions.updates k (slice_get r.regions.updates k) refl active.1 none

-- ---- the one of a number

abbrev pub IsTaken : ℕ → Waiting → Waiting → Type 0
IsTaken n old v = v ≡ record old { updates = without (place_of_number n old) old.updates; listed = record old.listed { active = slice_set old.listed.active n None } }

pub taken_keeps : {Q : Type 0} (d : Parts) (terms : List ProcessTerm) (r : RunState Q) (v : Waiting) (n : ℕ) → Agrees d terms r → IsTaken n r.regions v → Keeps d terms r (record r { regions = v })
taken_keeps d terms r v n h rest =
    keeps_regions d terms r v h (ap (λ (w : Waiting). w.time) rest) (ap (λ (w : Waiting). w.inactive) rest) (SameBag-from_eq (ap (λ (w : Waiting). w.sleepers) rest))
    (ap (λ (w : Waiting). w.listed.signals) rest)

pub taken_made : {Q : Type 0} (r : RunState Q) (v : Waiting) (x : declared.Update) (n : ℕ) (t : State) (made : Bool) →
    option_map (λ (y : Update). y.what) (slice_get r.regions.updates (place_of_number n r.regions)) ≡ Some (what_of v.listed.writes x) → left_of v.listed.writes x ≡ Some (what_of v.listed.writes x) →
    IsTaken n r.regions v → WritesUpdate x v.listed.writes (state_of (record r { regions = v })) t made → t ≡ apply (Make (place_of_number n r.regions)) (state_of r)
taken_made r v (u.Bits b) n t made there left rest writes =
    made_update (state_of r) t (place_of_number n r.regions) (bits_write b) there
    (written_from r v (without (place_of_number n r.regions) r.regions.updates) (bits_write b) t (ap (λ (w : Waiting). w.updates) rest) (ap (λ (w : Waiting). w.time) rest) writes.1)
taken_made r v (u.Any k) n t made there left rest writes =
    made_update (state_of r) t (place_of_number n r.regions) (get_or v.listed.writes k []) there
    (written_from r v (without (place_of_number n r.regions) r.regions.updates) (get_or v.listed.writes k []) t (ap (λ (w : Waiting). w.updates) rest) (ap (λ (w : Waiting). w.time) rest) writes.1)
taken_made r v u.Gone n t made there left rest writes = absurd (none-some [] left)
