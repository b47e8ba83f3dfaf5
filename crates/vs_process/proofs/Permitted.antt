-- That something is always permitted, and that moves are the permitted steps.
use Rattle.std.proofs.Common.{◌≡◌, ℕ, suc, Bool, true, false, ◌&&◌, ◌||◌, not, Option, Some, None, List, [], ◌∷◌, take, slice_get, refl, sym, ◌∙◌, ap, subst, inl, inr}
use Rattle.std.proofs.lemmas.Bool.{cases_Bool, or_cases, and_parts, not-true}
use Rattle.std.specs.Prelude.{is_some}
use Rattle.std.specs.List.{list_any}
use Rattle.vs_design.specs.vs_logic4.specs.declared.digit.Digit.{Digit}
use Rattle.vs_design.specs.Parts.{Parts}
use Rattle.vs_design.specs.Writes.{Write, shares}
use Rattle.vs_process.specs.declared.moves.Grain.{Grain}
use Rattle.vs_process.specs.declared.moves.Move.{Move}
use Rattle.vs_process.specs.declared.moves.Move.TheVariants.{Step, Evaluate, Propagate, Make, Rouse, Activate, EndSlot}
use Rattle.vs_process.specs.Places.{Place, is_going}
use Rattle.vs_process.specs.States.{State, AssignState, Update, stepped, evaluate, propagate, propagate_value, make}
use Rattle.vs_process.specs.Executions.{is_first, is_busy, has_inactive, has_due, is_free, is_enabled, if_some, allowed, apply}
use Rattle.vs_process.specs.Permitted.{Permitted, runs, evaluates, propagates, updates, rouses, activates, ends_slot, CanGo}
use Rattle.vs_design.specs.vs_logic4.proofs.Basics.{pending_of}

-- the first element that passes a test
pub record Found {A : Type 0} (f : A → Bool) (xs : List A) : Type 0 where
  pub place : ℕ
  pub element : A
  pub here : slice_get xs place ≡ Some element
  pub passes : f element ≡ true
  pub none_before : list_any f (take place xs) ≡ false

found_later : {A : Type 0} (f : A → Bool) (x : A) (xs : List A) → f x ≡ false → Found f xs → Found f (x ∷ xs)
found_later f x xs e r = record { place = suc r.place; element = r.element; here = r.here; passes = r.passes; none_before = ap (λ b. b || list_any f (take r.place xs)) e ∙ r.none_before }

found_by : {A : Type 0} (f : A → Bool) (x : A) (xs : List A) (b : Bool) → f x ≡ b → f x || list_any f xs ≡ true → (list_any f xs ≡ true → Found f xs) → Found f (x ∷ xs)
found_by f x xs true e h later = record { place = 0; element = x; here = refl; passes = e; none_before = refl }
found_by f x xs false e h later = found_later f x xs e (later (subst (λ b. b || list_any f xs ≡ true) e h))

pub found : {A : Type 0} (f : A → Bool) (xs : List A) → list_any f xs ≡ true → Found f xs
found f [] h = cc
found f (x ∷ xs) h = found_by f x xs (f x) refl h (found f xs)

pub allow : (grain : Grain) (d : Parts) (s : State) (m : Move) → s.over ≡ false → is_enabled s m ≡ true → is_free grain d s m ≡ true → CanGo grain d s
allow grain d s m o e free =
    (m, ap (λ b. not b && is_enabled s m && is_free grain d s m) o ∙ ap (λ b. b && is_free grain d s m) e ∙ free)

-- whether every move is free in a state: no combinational block keeps another one out
abbrev pub AllFree : Grain → Parts → State → Type 0
AllFree grain d s = (m : Move) → is_free grain d s m ≡ true

-- an active process can step
process_goes : (grain : Grain) (d : Parts) (s : State) → AllFree grain d s → s.over ≡ false → list_any is_going s.places ≡ true → CanGo grain d s
process_goes grain d s free o h = let r = found is_going s.places h in allow grain d s (Step r.place) o (ap (if_some is_going) r.here ∙ r.passes) (free (Step r.place))

-- an assignment that needs an evaluation or has a pending value can go
assign_goes : (grain : Grain) (d : Parts) (s : State) → AllFree grain d s → s.over ≡ false → list_any (λ (x : AssignState). x.needs || is_some x.pending) s.assigns ≡ true → CanGo grain d s
assign_goes grain d s free o h =
    let r = found (λ (x : AssignState). x.needs || is_some x.pending) s.assigns h in
    elim (or_cases r.element.needs (is_some r.element.pending) r.passes) [
      | inl needs ↦ allow grain d s (Evaluate r.place) o (ap (if_some (λ (x : AssignState). x.needs)) r.here ∙ needs) (free (Evaluate r.place))
      | inr pending ↦ allow grain d s (Propagate r.place) o (ap (if_some (λ (x : AssignState). is_some x.pending)) r.here ∙ pending) (free (Propagate r.place))
    ]

-- where no older update is activated, none that is activated shares a signal
none_shares : (us : List Update) (what : Write) → list_any (λ (u : Update). u.active) us ≡ false → list_any (λ (older : Update). older.active && shares older.what what) us ≡ false
none_shares [] what h = refl
none_shares (u ∷ us) what h = none_shares_by u us what u.active refl h (none_shares us what)
  where
    none_shares_by : (u : Update) (us : List Update) (what : Write) (b : Bool) → u.active ≡ b → u.active || list_any (λ (v : Update). v.active) us ≡ false →
        (list_any (λ (v : Update). v.active) us ≡ false → list_any (λ (older : Update). older.active && shares older.what what) us ≡ false) →
        u.active && shares u.what what || list_any (λ (older : Update). older.active && shares older.what what) us ≡ false
    none_shares_by u us what true e h later = absurd (let no_way : true ≡ false = sym (ap (λ b. b || list_any (λ (v : Update). v.active) us) e) ∙ h in cc)
    none_shares_by u us what false e h later =
        ap (λ b. b && shares u.what what || list_any (λ (older : Update). older.active && shares older.what what) us) e
        ∙ later (subst (λ b. b || list_any (λ (v : Update). v.active) us ≡ false) e h)

-- the oldest activated update can be made
update_goes : (grain : Grain) (d : Parts) (s : State) → AllFree grain d s → s.over ≡ false → list_any (λ (u : Update). u.active) s.updates ≡ true → CanGo grain d s
update_goes grain d s free o h =
    let r = found (λ (u : Update). u.active) s.updates h in
    allow grain d s (Make r.place) o
    (ap (if_some (is_first s.updates r.place)) r.here
    ∙ ap (λ b. b && not (list_any (λ (older : Update). older.active && shares older.what r.element.what) (take r.place s.updates))) r.passes
    ∙ ap not (none_shares (take r.place s.updates) r.element.what r.none_before)) (free (Make r.place))

busy_goes : (grain : Grain) (d : Parts) (s : State) → AllFree grain d s → s.over ≡ false → is_busy s ≡ true → CanGo grain d s
busy_goes grain d s free o h =
    elim (or_cases (list_any is_going s.places || list_any (λ (x : AssignState). x.needs || is_some x.pending) s.assigns) (list_any (λ (u : Update). u.active) s.updates) h) [
      | inl first ↦ elim (or_cases (list_any is_going s.places) (list_any (λ (x : AssignState). x.needs || is_some x.pending) s.assigns) first) [
        | inl process ↦ process_goes grain d s free o process
        | inr assign ↦ assign_goes grain d s free o assign
      ]
      | inr update ↦ update_goes grain d s free o update
    ]

-- a state that isn't over, and in which every move is free, has a permitted step
pub state_goes : (grain : Grain) (d : Parts) (s : State) → AllFree grain d s → s.over ≡ false → CanGo grain d s
state_goes grain d s free o =
    elim (cases_Bool (is_busy s)) [
      | inl busy ↦ busy_goes grain d s free o busy
      | inr quiet ↦ elim (cases_Bool (has_inactive s)) [
        | inl inactive ↦ allow grain d s Rouse o (ap (λ b. not b && has_inactive s) quiet ∙ inactive) (free Rouse)
        | inr none ↦ elim (cases_Bool (has_due s)) [
          | inl due ↦ allow grain d s Activate o (ap (λ b. not b && not (has_inactive s) && has_due s) quiet ∙ ap (λ b. not b && has_due s) none ∙ due) (free Activate)
          | inr idle ↦ allow grain d s EndSlot o (ap (λ b. not b && not (has_inactive s) && not (has_due s)) quiet ∙ ap (λ b. not b && not (has_due s)) none ∙ ap not idle) (free EndSlot)
        ]
      ]
    ]

allowed_from : (grain : Grain) (d : Parts) (s : State) (m : Move) → s.over ≡ false → is_enabled s m ≡ true → is_free grain d s m ≡ true → allowed grain d s m ≡ true
allowed_from grain d s m o e f = ap (λ b. not b && is_enabled s m && is_free grain d s m) o ∙ ap (λ b. b && is_free grain d s m) e ∙ f

-- a permitted step is an allowed move
pub permitted_is_allowed : (grain : Grain) (d : Parts) (s t : State) → Permitted grain d s t → (m : Move) × (allowed grain d s m ≡ true) × (apply m s ≡ t)
permitted_is_allowed grain d s _ (runs i place o here going free) =
    (Step i, allowed_from grain d s (Step i) o (ap (if_some is_going) here ∙ going) free, ap (stepped s i) here)
permitted_is_allowed grain d s _ (evaluates j x o here needs free) =
    (Evaluate j, allowed_from grain d s (Evaluate j) o (ap (if_some (λ (x : AssignState). x.needs)) here ∙ needs) free, ap (evaluate s j) here)
permitted_is_allowed grain d s _ (propagates j x digits o here pending free) = (
  Propagate j,
  allowed_from grain d s (Propagate j) o (ap (if_some (λ (x : AssignState). is_some x.pending)) here ∙ ap is_some pending) free,
  ap (propagate s j) here ∙ ap (propagate_value s j x) pending,
)
permitted_is_allowed grain d s _ (updates i u o here first free) =
    (Make i, allowed_from grain d s (Make i) o (ap (if_some (is_first s.updates i)) here ∙ first) free, ap (make s i) here)
permitted_is_allowed grain d s _ (rouses o quiet inactive free) =
    (Rouse, allowed_from grain d s Rouse o (ap (λ b. not b && has_inactive s) quiet ∙ inactive) free, refl)
permitted_is_allowed grain d s _ (activates o quiet none due free) =
    (Activate, allowed_from grain d s Activate o (ap (λ b. not b && not (has_inactive s) && has_due s) quiet ∙ ap (λ b. not b && has_due s) none ∙ due) free, refl)
permitted_is_allowed grain d s _ (ends_slot o quiet none idle free) =
    (EndSlot, allowed_from grain d s EndSlot o (ap (λ b. not b && not (has_inactive s) && not (has_due s)) quiet ∙ ap (λ b. not b && not (has_due s)) none ∙ ap not idle) free, refl)

pub some_of : {A : Type 0} (f : A → Bool) (o : Option A) → if_some f o ≡ true → (x : A) × (o ≡ Some x) × (f x ≡ true)
some_of f None h = absurd (let no_way : false ≡ true = h in cc)
some_of f (Some x) h = (x, refl, h)

enabled_is_permitted : (grain : Grain) (d : Parts) (s : State) (m : Move) → s.over ≡ false → is_enabled s m ≡ true → is_free grain d s m ≡ true → Permitted grain d s (apply m s)
enabled_is_permitted grain d s (Step i) o e f =
    let r = some_of is_going (slice_get s.places i) e in
    subst (λ (p : Option Place). Permitted grain d s (stepped s i p)) (sym r.1) (runs i r.0 o r.1 r.2 f)
enabled_is_permitted grain d s (Evaluate j) o e f =
    let r = some_of (λ (x : AssignState). x.needs) (slice_get s.assigns j) e in
    subst (λ (x : Option AssignState). Permitted grain d s (evaluate s j x)) (sym r.1) (evaluates j r.0 o r.1 r.2 f)
enabled_is_permitted grain d s (Propagate j) o e f =
    let r = some_of (λ (x : AssignState). is_some x.pending) (slice_get s.assigns j) e in
    let v = pending_of r.0.pending r.2 in
    subst (λ (x : Option AssignState). Permitted grain d s (propagate s j x)) (sym r.1)
    (subst (λ (p : Option (List Digit)). Permitted grain d s (propagate_value s j r.0 p)) (sym v.1) (propagates j r.0 v.0 o r.1 v.1 f))
enabled_is_permitted grain d s (Make i) o e f =
    let r = some_of (is_first s.updates i) (slice_get s.updates i) e in
    subst (λ (u : Option Update). Permitted grain d s (make s i u)) (sym r.1) (updates i r.0 o r.1 r.2 f)
enabled_is_permitted grain d s Rouse o e f =
    let r = and_parts (not (is_busy s)) (has_inactive s) e in
    rouses o (not-true (is_busy s) r.0) r.1 f
enabled_is_permitted grain d s Activate o e f =
    let r = and_parts (not (is_busy s) && not (has_inactive s)) (has_due s) e in
    let q = and_parts (not (is_busy s)) (not (has_inactive s)) r.0 in
    activates o (not-true (is_busy s) q.0) (not-true (has_inactive s) q.1) r.1 f
enabled_is_permitted grain d s EndSlot o e f =
    let r = and_parts (not (is_busy s) && not (has_inactive s)) (not (has_due s)) e in
    let q = and_parts (not (is_busy s)) (not (has_inactive s)) r.0 in
    ends_slot o (not-true (is_busy s) q.0) (not-true (has_inactive s) q.1) (not-true (has_due s) r.1) f

-- an allowed move is a permitted step
pub allowed_is_permitted : (grain : Grain) (d : Parts) (s : State) (m : Move) → allowed grain d s m ≡ true → Permitted grain d s (apply m s)
allowed_is_permitted grain d s m h =
    let r = and_parts (not s.over && is_enabled s m) (is_free grain d s m) h in
    let q = and_parts (not s.over) (is_enabled s m) r.0 in
    enabled_is_permitted grain d s m (not-true s.over q.0) q.1 r.1
