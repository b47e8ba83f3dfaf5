-- The moves of a continuous assignment in a run.
use Rattle.std.proofs.Common.{◌≡◌, ℕ, Bool, true, false, not, Option, Some, None, List, ◌∷◌, length, slice_get, refl, sym, ◌∙◌, ap, subst}
use Rattle.std.proofs.lemmas.Bool.{false≢true}
use Rattle.vs_design.specs.vs_logic4.specs.declared.digit.Digit.{Digit}
use Rattle.vs_design.specs.vs_logic4.specs.Extensions.{length-resized}
use Rattle.vs_design.specs.declared.design.Assign.{Assign}
use Rattle.vs_design.specs.declared.statement.Target.{Target}
use Rattle.vs_design.specs.Parts.{Parts}
use Rattle.vs_design.specs.Stores.{changed_at, changes_nothing}
use Rattle.vs_eval.specs.Targets.{assigned}
use Rattle.vs_eval.specs.Values.{target_value, value_of}
use Rattle.vs_run_active.specs.vs_process.specs.declared.moves.Move.{Move}
use Rattle.vs_run_active.specs.vs_process.specs.declared.moves.Move.TheVariants.{Evaluate, Propagate}
use Rattle.vs_run_active.specs.vs_process.specs.Executions.{apply, if_some, is_enabled}
use Rattle.vs_run_active.specs.vs_process.specs.States.{AssignState, State, settled, written}
use Rattle.vs_run_active.specs.declared.queue.Queue.{Queue}
use Rattle.vs_run_active.specs.Left.{valued}
use Rattle.vs_run_active.specs.Wakes.{AreWatched}
use Rattle.vs_run_active.specs.declared.watchers.ProcessTerm.{ProcessTerm}
use Rattle.vs_run_active.proofs.WatchedLemmas.{watched_assigns}
use Rattle.vs_run_steps.specs.Turns.{AreMade, IsReached}
use Rattle.vs_run_steps.proofs.AssignLemmas.{driven, evaluated_none, evaluated_some, propagated}
use Rattle.vs_run_steps.proofs.MadeLemmas.{made_reached}
use Rattle.vs_run_steps.specs.declared.run.RunState.{RunState}
use Rattle.vs_run_steps.specs.Runs.{Agrees, IsRunOf, Plan, plan_of, state_of}
use Rattle.vs_run_steps.proofs.RunsLemmas.{plan_in, plan_out}
use Rattle.vs_run_steps.specs.Evaluations.{HasDigits, IsDriven, IsEvaluation}
use Rattle.vs_run_steps.specs.Known.{AreAssigns, IsAssign}
use Rattle.vs_run_steps.proofs.KnownLemmas.{all_after}

-- ---- what is active

enabled_there : {A : Type 0} (f : A → Bool) (o : Option A) → if_some f o ≡ true → (x : A) × (o ≡ Some x) × (f x ≡ true)
enabled_there f None h = absurd (false≢true h)
enabled_there f (Some x) h = (x, refl, h)

-- a continuous assignment that is at a number of a state that is reached
assign_of : (d : Parts) (s : State) (j : ℕ) (x : AssignState) → IsReached d s → slice_get s.assigns j ≡ Some x → IsAssign d j x
assign_of d s j x h here =
    let all : AreAssigns d s.assigns = subst (λ (t : State). AreAssigns d t.assigns) h.1 (all_after d h.0) in
    all.each j x here

-- a continuous assignment in a state, and the one of the design that it is
record IsThere (d : Parts) (s : State) (j : ℕ) (x : AssignState) : Type 0 where
  pub here : slice_get s.assigns j ≡ Some x
  pub is : IsAssign d j x

needs_there : (d : Parts) (s : State) (j : ℕ) → IsReached d s → is_enabled s (Evaluate j) ≡ true → (x : AssignState) × IsThere d s j x × (x.needs ≡ true)
needs_there d s j h active =
    let x = enabled_there (λ (x : AssignState). x.needs) (slice_get s.assigns j) active in (x.0, record { here = x.1; is = assign_of d s j x.0 h x.1 }, x.2)

-- the design has it
pub assign_there : (d : Parts) (s : State) (j : ℕ) → IsReached d s → is_enabled s (Evaluate j) ≡ true → (a : Assign) × (slice_get d.assigns j ≡ Some a)
assign_there d s j h active = let x = needs_there d s j h active in (x.1.is.assign, x.1.is.at)

-- ---- evaluations of a state

-- the value, by what the state has of the assignment
value_there : (d : Parts) (s : State) (j : ℕ) (x : AssignState) (v : List Digit) (b : Bool) → IsAssign d j x → IsEvaluation d j s.store s.time v b → v ≡ target_value x.target x.source s.store s.time
value_there d s j x v b is e =
    e.value is.assign is.at ∙ ap (λ (t : Target). target_value t is.assign.source s.store s.time) is.target
    ∙ ap (λ e. target_value x.target e s.store s.time) is.source

held_there : (d : Parts) (s : State) (j : ℕ) (x : AssignState) (v : List Digit) (b c : Bool) → IsAssign d j x → IsEvaluation d j s.store s.time v b → b ≡ c →
    changes_nothing s.store (assigned x.target v s.store s.time) ≡ not c
held_there d s j x v b c is e told =
    ap (λ (t : Target). changes_nothing s.store (assigned t v s.store s.time)) (sym is.target) ∙ e.held is.assign is.at ∙ ap not told

-- a value that would change nothing
pub left_none : (d : Parts) (s : State) (j : ℕ) (v : List Digit) (b : Bool) → IsReached d s → is_enabled s (Evaluate j) ≡ true → IsEvaluation d j s.store s.time v b → b ≡ false →
    record s { assigns = changed_at (valued None) j s.assigns } ≡ apply (Evaluate j) s
left_none d s j v b h active e told =
    let x = needs_there d s j h active in
    evaluated_none s j x.0 v x.1.here (value_there d s j x.0 v b x.1.is e) (held_there d s j x.0 v b false x.1.is e told)

-- one that waits to be written
pub left_some : (d : Parts) (s : State) (j : ℕ) (v : List Digit) (b : Bool) → IsReached d s → is_enabled s (Evaluate j) ≡ true → IsEvaluation d j s.store s.time v b → b ≡ true →
    record s { assigns = changed_at (valued (Some v)) j s.assigns } ≡ apply (Evaluate j) s
left_some d s j v b h active e told =
    let x = needs_there d s j h active in
    evaluated_some s j x.0 v x.1.here (value_there d s j x.0 v b x.1.is e) (held_there d s j x.0 v b true x.1.is e told)

-- its digits
pub digits_there : (d : Parts) (s : State) (j : ℕ) (v : List Digit) (b : Bool) → IsReached d s → is_enabled s (Evaluate j) ≡ true → IsEvaluation d j s.store s.time v b → HasDigits d j v
digits_there d s j v b h active e =
    let x = needs_there d s j h active in
    let a : Assign = x.1.is.assign in
    record { assign = a; at = x.1.is.at; long = ap (λ (l : List Digit). length l) (e.value a x.1.is.at) ∙ length-resized false a.target.width (value_of a.source s.store s.time) }

-- one that is written at once
pub written_once : (d : Parts) (s t : State) (xs : List AssignState) (j : ℕ) (v : List Digit) (b : Bool) → IsReached d s → is_enabled s (Evaluate j) ≡ true → IsEvaluation d j s.store s.time v b → b ≡ true →
    xs ≡ changed_at (valued None) j s.assigns → IsDriven d j v (record s { assigns = xs }) t → AreMade 2 s t
written_once d s t xs j v b h active e told left made =
    let x = needs_there d s j h active in
    let a : Assign = x.1.is.assign in
    let done : t ≡ written (record s { assigns = changed_at (valued None) j s.assigns }) (assigned x.0.target v s.store s.time) =
    made a x.1.is.at
    ∙ ap (λ (t : Target). written (record s { assigns = xs }) (assigned t v s.store s.time)) x.1.is.target
    ∙ ap (λ (l : List AssignState). written (record s { assigns = l }) (assigned x.0.target v s.store s.time)) left
    in
    driven s t j x.0 v x.1.here x.2 (value_there d s j x.0 v b x.1.is e) (held_there d s j x.0 v b true x.1.is e told) done

-- ---- updates of a state

pub pending_digits : (d : Parts) (s : State) (j : ℕ) (x : AssignState) (v : List Digit) → IsReached d s → slice_get s.assigns j ≡ Some x → x.pending ≡ Some v → HasDigits d j v
pending_digits d s j x v h here waits =
    let is : IsAssign d j x = assign_of d s j x h here in
    record { assign = is.assign; at = is.at; long = is.fits v waits ∙ ap (λ (t : Target). t.width) (sym is.target) }

pub written_then : (d : Parts) (s t : State) (xs : List AssignState) (j : ℕ) (x : AssignState) (v : List Digit) → IsReached d s → slice_get s.assigns j ≡ Some x → x.pending ≡ Some v →
    xs ≡ changed_at settled j s.assigns → IsDriven d j v (record s { assigns = xs }) t → t ≡ apply (Propagate j) s
written_then d s t xs j x v h here waits left made =
    let is : IsAssign d j x = assign_of d s j x h here in
    propagated s t j x v here waits (
    made is.assign is.at
    ∙ ap (λ (t : Target). written (record s { assigns = xs }) (assigned t v s.store s.time)) is.target
    ∙ ap (λ (l : List AssignState). written (record s { assigns = l }) (assigned x.target v s.store s.time)) left
    )

-- ---- the run

-- it has these continuous assignments, and this queue
abbrev pub with_assigns : {Q : Type 0} → RunState Q → List AssignState → Queue → RunState Q
with_assigns r xs q = record r { watched = record r.watched { events = record r.watched.events { assigns = xs; queue = q } } }

-- its parts agree where one of them is changed, but not what it evaluates
pub agrees_with : {Q : Type 0} (d : Parts) (terms : List ProcessTerm) (r : RunState Q) (xs : List AssignState) (q : Queue) (f : AssignState → AssignState) (j : ℕ) →
    ((x : AssignState) → (f x).source ≡ x.source) → Agrees d terms r → xs ≡ changed_at f j r.watched.events.assigns → Agrees d terms (with_assigns r xs q)
agrees_with d terms r xs q f j same h is = record {
  store = h.store;
  watched =
      subst (λ (l : List AssignState). AreWatched d terms r.watched.tables l r.watched.events.processes) (sym is)
      (watched_assigns d terms r.watched.tables r.watched.events.assigns r.watched.events.processes f same j h.watched);
  rows = h.rows;
  kept = h.kept;
  signals = h.signals;
  counted = h.counted;
  scripts = h.scripts;
  plan = h.plan;
}

-- its design
pub design_of : {Q : Type 0} (d : Parts) (r : RunState Q) → IsRunOf d r → d ≡ (plan_of r).design
design_of d r h = ap (λ (p : Plan). p.design) (sym h.1.agrees.plan)

-- after moves it is one of its design where its parts agree
pub run_made : {Q : Type 0} (d : Parts) (n : ℕ) (r new : RunState Q) → IsRunOf d r → AreMade n (state_of r) (state_of new) → Agrees (plan_of r).design (plan_of r).terms new → IsRunOf d new
run_made d n r new h made agrees =
    plan_out d r new h (record { reached = made_reached (plan_of r).design n (state_of r) (state_of new) (plan_in d r h).reached made; agrees = agrees })

pub run_moved : {Q : Type 0} (d : Parts) (m : Move) (r new : RunState Q) → IsRunOf d r → state_of new ≡ apply m (state_of r) → Agrees (plan_of r).design (plan_of r).terms new → IsRunOf d new
run_moved d m r new h made agrees =
    let before : IsReached (plan_of r).design (state_of r) = (plan_in d r h).reached in
    plan_out d r new h (record { reached = (m ∷ before.0, ap (apply m) before.1 ∙ sym made); agrees = agrees })

-- it is one after an evaluation that leaves a value to be written, or none
pub run_left : {Q : Type 0} (d : Parts) (r : RunState Q) (xs : List AssignState) (q : Queue) (value : Option (List Digit)) (j : ℕ) → IsRunOf d r → xs ≡ changed_at (valued value) j r.watched.events.assigns →
    state_of (with_assigns r xs q) ≡ apply (Evaluate j) (state_of r) → IsRunOf d (with_assigns r xs q)
run_left d r xs q value j h is made =
    run_moved d (Evaluate j) r (with_assigns r xs q) h made
    (agrees_with (plan_of r).design (plan_of r).terms r xs q (valued value) j (λ x. refl) (plan_in d r h).agrees is)

-- what an evaluation leaves
pub state_none : {Q : Type 0} (d : Parts) (r : RunState Q) (xs : List AssignState) (q : Queue) (j : ℕ) (v : List Digit) (b : Bool) → IsRunOf d r → is_enabled (state_of r) (Evaluate j) ≡ true →
    IsEvaluation d j r.watched.store r.regions.time v b → b ≡ false → xs ≡ changed_at (valued None) j r.watched.events.assigns → state_of (with_assigns r xs q) ≡ apply (Evaluate j) (state_of r)
state_none d r xs q j v b h active e told is =
    ap (λ (l : List AssignState). record (state_of r) { assigns = l }) is ∙ left_none d (state_of r) j v b h.1.reached active e told

pub state_some : {Q : Type 0} (d : Parts) (r : RunState Q) (xs : List AssignState) (q : Queue) (j : ℕ) (v : List Digit) (b : Bool) → IsRunOf d r → is_enabled (state_of r) (Evaluate j) ≡ true →
    IsEvaluation d j r.watched.store r.regions.time v b → b ≡ true → xs ≡ changed_at (valued (Some v)) j r.watched.events.assigns → state_of (with_assigns r xs q) ≡ apply (Evaluate j) (state_of r)
state_some d r xs q j v b h active e told is =
    ap (λ (l : List AssignState). record (state_of r) { assigns = l }) is ∙ left_some d (state_of r) j v b h.1.reached active e told

-- it is one after an evaluation that leaves nothing
pub run_none : {Q : Type 0} (d : Parts) (r : RunState Q) (xs : List AssignState) (j : ℕ) (v : List Digit) (b : Bool) → IsRunOf d r → is_enabled (state_of r) (Evaluate j) ≡ true →
    IsEvaluation d j r.watched.store r.regions.time v b → b ≡ false → xs ≡ changed_at (valued None) j r.watched.events.assigns → IsRunOf d (with_assigns r xs r.watched.events.queue)
run_none d r xs j v b h active e told is =
    run_left d r xs r.watched.events.queue None j h is (state_none d r xs r.watched.events.queue j v b h active e told is)

-- and after one whose value waits to be written
pub run_some : {Q : Type 0} (d : Parts) (r : RunState Q) (xs : List AssignState) (j : ℕ) (v : List Digit) (b : Bool) → IsRunOf d r → is_enabled (state_of r) (Evaluate j) ≡ true →
    IsEvaluation d j r.watched.store r.regions.time v b → b ≡ true → xs ≡ changed_at (valued (Some v)) j r.watched.events.assigns → IsRunOf d (with_assigns r xs r.watched.events.queue)
run_some d r xs j v b h active e told is =
    run_left d r xs r.watched.events.queue (Some v) j h is (state_some d r xs r.watched.events.queue j v b h active e told is)

-- its parts agree while a value is written
pub agrees_left : {Q : Type 0} (d : Parts) (r : RunState Q) (xs : List AssignState) (j : ℕ) (f : AssignState → AssignState) → ((x : AssignState) → (f x).source ≡ x.source) → IsRunOf d r →
    xs ≡ changed_at f j r.watched.events.assigns → Agrees (plan_of r).design (plan_of r).terms (with_assigns r xs r.watched.events.queue)
agrees_left d r xs j f same h is =
    agrees_with (plan_of r).design (plan_of r).terms r xs r.watched.events.queue f j same (plan_in d r h).agrees is

-- so it is with another queue
pub run_queued : {Q : Type 0} (d : Parts) (r : RunState Q) (q : Queue) → IsRunOf d r → IsRunOf d (with_assigns r r.watched.events.assigns q)
run_queued d r q h = (
  h.0,
  record {
    reached = h.1.reached;
    agrees = record {
      store = h.1.agrees.store;
      watched = h.1.agrees.watched;
      rows = h.1.agrees.rows;
      kept = h.1.agrees.kept;
      signals = h.1.agrees.signals;
      counted = h.1.agrees.counted;
      scripts = h.1.agrees.scripts;
      plan = h.1.agrees.plan;
    };
  },
)
