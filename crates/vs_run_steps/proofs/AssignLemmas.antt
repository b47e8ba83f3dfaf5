-- Moves of a continuous assignment, by what is left of it.
use Rattle.std.proofs.Common.{◌≡◌, ℕ, Bool, true, false, Option, Some, None, List, [], slice_get, slice_set, is_some, if◌then◌else◌, refl, sym, ◌∙◌, ap, subst}
use Rattle.vs_design.specs.vs_logic4.specs.declared.digit.Digit.{Digit}
use Rattle.vs_design.specs.Stores.{changed_at, changes_nothing}
use Rattle.vs_design.specs.Writes.{Write}
use Rattle.vs_run_active.specs.vs_process.specs.vs_eval.specs.Targets.{assigned}
use Rattle.vs_run_active.specs.vs_process.specs.vs_eval.specs.Values.{target_value}
use Rattle.vs_run_active.specs.vs_process.proofs.ProcessLists.{set_same}
use Rattle.vs_run_active.specs.vs_process.specs.declared.moves.Move.TheVariants.{Evaluate, Propagate, Make}
use Rattle.vs_run_active.specs.vs_process.specs.Executions.{apply, if_some, is_enabled}
use Rattle.vs_run_active.specs.vs_process.specs.States.{AssignState, State, Update, evaluate, evaluated, make, propagate, propagate_value, settled, without, written}
use Rattle.vs_run_active.proofs.ChangedLemmas.{changed_there}
use Rattle.vs_design.specs.vs_logic4.proofs.Basics.{set_twice}
use Rattle.vs_run_steps.specs.Turns.{AreMade}

-- a continuous assignment after an evaluation that leaves this value to be written, or none
abbrev pub valued : Option (List Digit) → AssignState → AssignState
valued v x = record x { needs = false; pending = v }

-- the value that an evaluation gives, as the definition has it
value_left : (s : State) (x : AssignState) (v : List Digit) (b : Bool) → v ≡ target_value x.target x.source s.store s.time → changes_nothing s.store (assigned x.target v s.store s.time) ≡ b →
    evaluated s.store s.time x ≡ valued (if b then None else Some v) x
value_left s x v b value held =
    let d : List Digit = target_value x.target x.source s.store s.time in
    let told : changes_nothing s.store (assigned x.target d s.store s.time) ≡ b = subst (λ (w : List Digit). changes_nothing s.store (assigned x.target w s.store s.time) ≡ b) value held in
    ap (λ (c : Bool). valued (if c then None else Some d) x) told ∙ ap (λ (w : List Digit). valued (if b then None else Some w) x) (sym value)

evaluated_by : (s : State) (j : ℕ) (x : AssignState) (v : Option (List Digit)) → slice_get s.assigns j ≡ Some x → evaluated s.store s.time x ≡ valued v x →
    record s { assigns = changed_at (valued v) j s.assigns } ≡ apply (Evaluate j) s
evaluated_by s j x v here is =
    ap (λ (l : List AssignState). record s { assigns = l }) (sym (changed_there (valued v) s.assigns j x (valued v x) here refl) ∙ ap (slice_set s.assigns j) (sym is)) ∙ sym (ap (evaluate s j) here)

-- an evaluation whose value would change nothing
pub evaluated_none : (s : State) (j : ℕ) (x : AssignState) (v : List Digit) → slice_get s.assigns j ≡ Some x → v ≡ target_value x.target x.source s.store s.time →
    changes_nothing s.store (assigned x.target v s.store s.time) ≡ true → record s { assigns = changed_at (valued None) j s.assigns } ≡ apply (Evaluate j) s
evaluated_none s j x v here value held = evaluated_by s j x None here (value_left s x v true value held)

-- an evaluation whose value waits to be written
pub evaluated_some : (s : State) (j : ℕ) (x : AssignState) (v : List Digit) → slice_get s.assigns j ≡ Some x → v ≡ target_value x.target x.source s.store s.time →
    changes_nothing s.store (assigned x.target v s.store s.time) ≡ false → record s { assigns = changed_at (valued (Some v)) j s.assigns } ≡ apply (Evaluate j) s
evaluated_some s j x v here value held = evaluated_by s j x (Some v) here (value_left s x v false value held)

-- the update of one
pub propagated : (s t : State) (j : ℕ) (x : AssignState) (v : List Digit) → slice_get s.assigns j ≡ Some x → x.pending ≡ Some v →
    t ≡ written (record s { assigns = changed_at settled j s.assigns }) (assigned x.target v s.store s.time) → t ≡ apply (Propagate j) s
propagated s t j x v here waits made =
    made ∙ ap (λ (l : List AssignState). written (record s { assigns = l }) (assigned x.target v s.store s.time)) (sym (changed_there settled s.assigns j x (settled x) here refl))
    ∙ sym (ap (propagate s j) here ∙ ap (propagate_value s j x) waits)

-- an evaluation whose value is written at once
pub driven : (s t : State) (j : ℕ) (x : AssignState) (v : List Digit) → slice_get s.assigns j ≡ Some x → x.needs ≡ true → v ≡ target_value x.target x.source s.store s.time →
    changes_nothing s.store (assigned x.target v s.store s.time) ≡ false → t ≡ written (record s { assigns = changed_at (valued None) j s.assigns }) (assigned x.target v s.store s.time) → AreMade 2 s t
driven s t j x v here needs value held made =
    let y : AssignState = valued (Some v) x in
    let m : State = record s { assigns = slice_set s.assigns j y } in
    let first : m ≡ apply (Evaluate j) s = ap (λ (l : List AssignState). record s { assigns = l }) (changed_there (valued (Some v)) s.assigns j x y here refl) ∙ evaluated_some s j x v here value held in
    let there : slice_get m.assigns j ≡ Some y = set_same s.assigns j x y here in
    let settled_one : changed_at settled j m.assigns ≡ changed_at (valued None) j s.assigns =
    sym (changed_there settled m.assigns j y (settled y) there refl) ∙ set_twice s.assigns j y (valued None x) ∙ changed_there (valued None) s.assigns j x (valued None x) here refl
    in
    let last : t ≡ apply (Propagate j) m =
    propagated m t j y v there refl (made ∙ ap (λ (l : List AssignState). written (record s { assigns = l }) (assigned x.target v s.store s.time)) (sym settled_one))
    in
    let waits : is_enabled m (Propagate j) ≡ true = ap (if_some (λ (z : AssignState). is_some z.pending)) there in
    let enabled : is_enabled s (Evaluate j) ≡ true = ap (if_some (λ (z : AssignState). z.needs)) here ∙ needs in
    (m, Propagate j, (s, Evaluate j, refl, refl, enabled, first), refl, waits, last)

-- a nonblocking update that is taken out of the list and written
pub updated : (s t : State) (i : ℕ) (u : Update) → slice_get s.updates i ≡ Some u → t ≡ written (record s { updates = without i s.updates }) u.what → t ≡ apply (Make i) s
updated s t i u here made = made ∙ sym (ap (make s i) here)
