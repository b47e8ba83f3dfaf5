-- Within a slot each process that is no block has made the lines of its thread.
use Rattle.std.proofs.Common.{◌≡◌, ℕ, ◌==◌, ◌<◌, ◌++◌, ◌⊎◌, Bool, true, false, ◌&&◌, ◌||◌, not, Option, Some, None, is_some, List, [], map, get_or, slice_get, ltb, leb, ltb-true, eqb-true, eq-eqb, arith, refl, sym, ◌∙◌, ap, subst, inl, inr, append-nil}
use Rattle.std.specs.List.{list_any}
use Rattle.std.proofs.lemmas.Bool.{and_parts, or_cases, not_from_true, ne_eqb, true≢false, false≢true, cases_Bool}
use Rattle.std.proofs.lemmas.List.Elements.{filter-append}
use Rattle.std.proofs.lemmas.Option.{get_or_from_slice_get}
use Rattle.vs_design.specs.vs_logic4.specs.declared.digit.Digit.{Digit}
use Rattle.vs_design.specs.Parts.{Parts}
use Rattle.vs_design.specs.Stores.{is_changed}
use Rattle.vs_design.specs.Traces.{Line}
use Rattle.vs_process.specs.declared.gait.Gait.{Gait}
use Rattle.vs_process.specs.Places.{Todo, Place, going, sleeping, inactive, waiting, ended, is_going, is_inactive, todo_of}
use Rattle.vs_process.specs.Steps.{Out, step}
use Rattle.vs_process.specs.declared.moves.Move.{Move}
use Rattle.vs_process.specs.declared.moves.Move.TheVariants.{Step, Evaluate, Propagate, Make, Rouse, Activate, EndSlot}
use Rattle.vs_process.specs.States.{State, AssignState, Update, activated, evaluate, is_due, make, performed, propagate, propagate_value, roused, stepped}
use Rattle.vs_process.specs.Executions.{apply, is_enabled, is_first, line_by, step_lines}
use Rattle.vs_design.specs.vs_logic4.proofs.Basics.{element_of as any_at}
use Rattle.vs_process.specs.BlockDrivers.{Roles}
use Rattle.vs_process.specs.Threads.{Thread, place_shows, todo_shows, turn}
use Rattle.vs_process.proofs.ThreadLists.{at, at_each}
use Rattle.vs_process.proofs.ThreadsNamed.{line_shown}
use Rattle.vs_process.proofs.ThreadStores.{filter_hit, filter_miss, names_some}
use Rattle.vs_process.proofs.Threads.{not_going, not_inactive, rouse_thread}
use Rattle.vs_independence.specs.Displays.{ShowsApart, displayed, is_line_of, lines_of_process}
use Rattle.vs_independence.proofs.Running.{Apart, Running, is_waiting, steady_agree}
use Rattle.vs_independence.proofs.Moves.{RunsOn, evaluate_runs, propagate_runs, rouse_runs, step_runs}
use Rattle.vs_independence.proofs.BlockSteps.{block_runs}
use Rattle.vs_independence.proofs.BlocksAt.{BlocksAt, block_made, text_at}
use Rattle.vs_independence.proofs.Making.{GoesFrom, GoesOn, Making, activate_makes, block_makes, evaluate_makes, is_settled, make_makes, none_makes, propagate_makes, stopped_at}
use Rattle.vs_independence.proofs.Inner.{Setting}
use Rattle.vs_independence.proofs.InnerMoves.{AtActivate, AtEnd, AtRouse, IsInner, all_idle, at_activate, at_end, at_rouse, block_active, going_place}
use Rattle.vs_design.specs.vs_logic4.proofs.Basics.{all_at as all_get, pending_of}
use Rattle.vs_process.proofs.Permitted.{some_of}
use Rattle.vs_independence.proofs.Tells.{Tells, place_lines, tells_fired, tells_rouses, tells_turns, turn_lines}

-- ---- one more line

-- a line of a process, among its own
own_line : (i : ℕ) (o : Option (List ℕ)) → lines_of_process i (line_by i o) ≡ line_by i o
own_line i None = refl
own_line i (Some text) = filter_hit (is_line_of i) (record { by = i; text = text }) [] (eq-eqb i i refl)

-- and among those of another one
other_line : (i k : ℕ) (o : Option (List ℕ)) → (k ≡ i → ⊥) → lines_of_process i (line_by k o) ≡ []
other_line i k None ne = refl
other_line i k (Some text) ne = filter_miss (is_line_of i) (record { by = k; text = text }) [] (ne_eqb k i ne)

more_own : (i : ℕ) (lines : List Line) (o : Option (List ℕ)) → lines_of_process i (lines ++ line_by i o) ≡ lines_of_process i lines ++ line_by i o
more_own i lines o = filter-append (is_line_of i) lines (line_by i o) ∙ ap (λ l. lines_of_process i lines ++ l) (own_line i o)

more_other : (i k : ℕ) (lines : List Line) (o : Option (List ℕ)) → (k ≡ i → ⊥) → lines_of_process i (lines ++ line_by k o) ≡ lines_of_process i lines
more_other i k lines o ne = filter-append (is_line_of i) lines (line_by k o) ∙ ap (λ l. lines_of_process i lines ++ l) (other_line i k o ne) ∙ append-nil (lines_of_process i lines)

-- ---- a slot

-- each process that is no block has made the lines of its thread
abbrev pub AllTell : Parts → (ℕ → Bool) → State → (ℕ → Thread) → List Line → Type 0
AllTell d blocks b th lines = (i : ℕ) → blocks i ≡ false → Tells d blocks b i (th i) (lines_of_process i lines)

-- so it is before the updates of the slot are activated
pub record Telling (d : Parts) (blocks : ℕ → Bool) (b s : State) (lines : List Line) : Type 0 where
  pub th : ℕ → Thread
  pub runs : Running d blocks b s th
  pub tells : AllTell d blocks b th lines

-- and once they are
pub record HasThreadLines (d : Parts) (blocks : ℕ → Bool) (b s : State) (lines : List Line) : Type 0 where
  pub making : Making d blocks b s
  pub tells : AllTell d blocks b making.th lines

abbrev pub Tale : Parts → (ℕ → Bool) → State → State → List Line → Type 0
Tale d blocks b s lines = Telling d blocks b s lines ⊎ HasThreadLines d blocks b s lines

-- threads after a move that may fire some
tells_on : (d : Parts) (blocks : ℕ → Bool) (b s : State) → Apart d blocks b → (mid : ℕ → Thread) (lines : List Line) → (on : RunsOn d blocks b s mid) → AllTell d blocks b mid lines → Telling d blocks b s lines
tells_on d blocks b s apart mid lines on tells = record {
  th = on.th;
  runs = on.runs;
  tells = λ i other. elim (on.goes i) [
    | inl same ↦ subst (λ x. Tells d blocks b i x (lines_of_process i lines)) (sym same) (tells i other)
    | inr fired ↦ tells_fired d blocks b apart i (mid i) (on.th i) (lines_of_process i lines) fired (tells i other)
  ];
}

-- after a move that makes updates
told_on : (d : Parts) (blocks : ℕ → Bool) (b s t : State) (lines : List Line) → (x : HasThreadLines d blocks b s lines) → GoesOn d blocks b s x.making t → HasThreadLines d blocks b t lines
told_on d blocks b s t lines x next = record { making = next.0; tells = subst (λ th. AllTell d blocks b th lines) (sym next.2) x.tells }

nets_from : (d : Parts) (blocks : ℕ → Bool) (b s t : State) (lines : List Line) → (x : Telling d blocks b s lines) → GoesFrom d blocks b s x.th t → HasThreadLines d blocks b t lines
nets_from d blocks b s t lines x next = record { making = next.0; tells = subst (λ th. AllTell d blocks b th lines) (sym next.2) x.tells }

-- a line of a block is none of another process
tells_block : (d : Parts) (blocks : ℕ → Bool) (b : State) (k : ℕ) (th : ℕ → Thread) (lines : List Line) (o : Option (List ℕ)) → blocks k ≡ true → AllTell d blocks b th lines → AllTell d blocks b th (lines ++ line_by k o)
tells_block d blocks b k th lines o is tells i other =
    subst (λ l. Tells d blocks b i (th i) l) (sym (more_other i k lines o (λ e. true≢false (sym is ∙ ap blocks e ∙ other)))) (tells i other)

-- a step of a process that is no block
step_tells : (d : Parts) (roles : Roles) → Setting d roles → (b s : State) → Apart d roles.blocks b → ShowsApart d roles.blocks b → (lines : List Line) → Telling d roles.blocks b s lines →
    (i : ℕ) → roles.blocks i ≡ false → (p : Place) → slice_get s.places i ≡ Some p → is_going p ≡ true →
    Telling d roles.blocks b (performed s i p (step (todo_of p) s.store s.time)) (lines ++ line_by i (step (todo_of p) s.store s.time).line)
step_tells d roles set b s apart shows lines x i other (going gait todo) is goes =
    tells_on d roles.blocks b (performed s i (going gait todo) out) apart (at x.th i tn) (lines ++ line_by i out.line)
    (step_runs d roles.blocks (text_at d roles set.z) b s apart x.th x.runs i other (going gait todo) is goes)
    (at_each (λ k t. roles.blocks k ≡ false → Tells d roles.blocks b k t (lines_of_process k (lines ++ line_by i out.line))) x.th i tn
    (λ mine. subst (λ l. Tells d roles.blocks b i tn l) (ap (λ l. lines_of_process i lines ++ l) own ∙ sym (more_own i lines out.line))
    (tells_turns d roles.blocks b i (x.th i) (lines_of_process i lines) (x.tells i mine)))
    (λ k ne mine. subst (λ l. Tells d roles.blocks b k (x.th k) l) (sym (more_other k i lines out.line (λ e. ne (sym e)))) (x.tells k mine)))
  where
    out : Out
    out = step todo s.store s.time

    tn : Thread
    tn = turn b.time i (x.th i)

    here_is : (x.th i).place ≡ going gait todo
    here_is = sym (x.runs.places i other) ∙ get_or_from_slice_get s.places i (going gait todo) ended is

    agree : list_any (is_changed s.store (x.th i).view) (todo_shows todo) ≡ false
    agree = subst (λ p. list_any (is_changed s.store (x.th i).view) (place_shows p) ≡ false) here_is
        (steady_agree d roles.blocks b apart s.store s.assigns s.places x.th x.runs.stands x.runs.sound x.runs.sources x.runs.nets x.runs.bare x.runs.rests i (place_shows (x.th i).place)
        (shows i (x.th i) (x.runs.stands i).is))

    own : turn_lines b.time i (x.th i) ≡ line_by i out.line
    own =
        ap (λ p. place_lines b.time i p (x.th i).view) here_is
        ∙ ap (line_by i) (sym (line_shown s.store (x.th i).view todo s.time agree ∙ ap (λ n. (step todo (x.th i).view n).line) x.runs.slot.time))
step_tells d roles set b s apart shows lines x i other (sleeping due todo) is goes = absurd (false≢true goes)
step_tells d roles set b s apart shows lines x i other (inactive todo) is goes = absurd (false≢true goes)
step_tells d roles set b s apart shows lines x i other (waiting terms todo) is goes = absurd (false≢true goes)
step_tells d roles set b s apart shows lines x i other ended is goes = absurd (false≢true goes)

-- a step of any process
step_tale : (d : Parts) (roles : Roles) (set : Setting d roles) (b s : State) (late : Bool) (ran : ℕ → Bool) → Apart d roles.blocks b → ShowsApart d roles.blocks b → BlocksAt d roles set.z late ran s.time s.store s.places →
    (lines : List Line) → Tale d roles.blocks b s lines → (i : ℕ) (p : Place) → slice_get s.places i ≡ Some p → is_going p ≡ true →
    Tale d roles.blocks b (performed s i p (step (todo_of p) s.store s.time)) (lines ++ line_by i (step (todo_of p) s.store s.time).line)
step_tale d roles set b s late ran apart shows at_them lines tale i p is goes =
    elim (cases_Bool (roles.blocks i)) [
      | inl at_i ↦ let g = going_place p goes in
          subst (λ q. Tale d roles.blocks b (performed s i q (step (todo_of q) s.store s.time)) (lines ++ line_by i (step (todo_of q) s.store s.time).line)) (sym g.2)
          (of_block at_i g.0 g.1 (is ∙ ap (λ q. Some q) g.2) tale)
      | inr other ↦ of_process other tale
    ]
  where
    of_block : roles.blocks i ≡ true → (gait : Gait) (todo : Todo) → slice_get s.places i ≡ Some (going gait todo) → Tale d roles.blocks b s lines →
        Tale d roles.blocks b (performed s i (going gait todo) (step todo s.store s.time)) (lines ++ line_by i (step todo s.store s.time).line)
    of_block at_i gait todo at_k (inl x) = inl (record {
      th = x.th;
      runs = block_runs d roles.blocks (text_at d roles set.z) set.z.exclusive set.z.own b s x.th apart x.runs i at_i gait todo (step todo s.store s.time) at_k
          (block_made d roles set.z late ran s i at_i gait todo at_k at_them);
      tells = tells_block d roles.blocks b i x.th lines (step todo s.store s.time).line at_i x.tells;
    })
    of_block at_i gait todo at_k (inr x) =
        let made = block_made d roles set.z late ran s i at_i gait todo at_k at_them in
        inr (told_on d roles.blocks b s (performed s i (going gait todo) (step todo s.store s.time)) (lines ++ line_by i (step todo s.store s.time).line)
        (record { making = x.making; tells = tells_block d roles.blocks b i x.making.th lines (step todo s.store s.time).line at_i x.tells })
        (block_makes d roles.blocks set.z.own b s apart x.making i at_i (going gait todo) (step todo s.store s.time) made))

    of_process : roles.blocks i ≡ false → Tale d roles.blocks b s lines → Tale d roles.blocks b (performed s i p (step (todo_of p) s.store s.time)) (lines ++ line_by i (step (todo_of p) s.store s.time).line)
    of_process other (inl x) = inl (step_tells d roles set b s apart shows lines x i other p is goes)
    of_process other (inr x) = absurd (not_going p (stopped_at d roles.blocks b s x.making i other p is) goes)

-- ---- moves

-- a move that is no step makes no line
mute_tale : (d : Parts) (roles : Roles) (set : Setting d roles) (b s : State) (late : Bool) (ran : ℕ → Bool) → Apart d roles.blocks b → BlocksAt d roles set.z late ran s.time s.store s.places →
    (lines : List Line) → (m : Move) → IsInner m → is_enabled s m ≡ true → ((i : ℕ) → m ≡ Step i → ⊥) → Tale d roles.blocks b s lines → Tale d roles.blocks b (apply m s) lines
mute_tale d roles set b s late ran apart at_them lines (Step i) inner h none tale = absurd (none i refl)
mute_tale d roles set b s late ran apart at_them lines (Evaluate j) inner h none tale =
    let x = some_of (λ (x : AssignState). x.needs) (slice_get s.assigns j) h in
    subst (λ (o : Option AssignState). Tale d roles.blocks b (evaluate s j o) lines) (sym x.1) (by_phase x.0 x.1 x.2 tale)
  where
    by_phase : (x : AssignState) → slice_get s.assigns j ≡ Some x → x.needs ≡ true → Tale d roles.blocks b s lines → Tale d roles.blocks b (evaluate s j (Some x)) lines
    by_phase x is needs (inl t) = inl (record { th = t.th; runs = evaluate_runs d roles.blocks set.well b s apart t.th t.runs j x is needs; tells = t.tells })
    by_phase x is needs (inr t) = inr (told_on d roles.blocks b s (evaluate s j (Some x)) lines t (evaluate_makes d roles.blocks set.well b s t.making j x is needs))
mute_tale d roles set b s late ran apart at_them lines (Propagate j) inner h none tale =
    let x = some_of (λ (x : AssignState). is_some x.pending) (slice_get s.assigns j) h in
    let v = pending_of x.0.pending x.2 in
    subst (λ (o : Option AssignState). Tale d roles.blocks b (propagate s j o) lines) (sym x.1)
    (subst (λ (p : Option (List Digit)). Tale d roles.blocks b (propagate_value s j x.0 p) lines) (sym v.1) (by_phase x.0 v.0 x.1 v.1 tale))
  where
    by_phase : (x : AssignState) (digits : List Digit) → slice_get s.assigns j ≡ Some x → x.pending ≡ Some digits → Tale d roles.blocks b s lines → Tale d roles.blocks b (propagate_value s j x (Some digits)) lines
    by_phase x digits is waits (inl t) =
        inl (tells_on d roles.blocks b (propagate_value s j x (Some digits)) apart t.th lines
        (propagate_runs d roles.blocks set.well (text_at d roles set.z) set.z.own b s apart t.th t.runs j x digits is waits) t.tells)
    by_phase x digits is waits (inr t) = inr (told_on d roles.blocks b s (propagate_value s j x (Some digits)) lines t (propagate_makes d roles.blocks set.well b s apart t.making j x digits is waits))
mute_tale d roles set b s late ran apart at_them lines (Make i) inner h none tale = by_phase tale
  where
    u : (u : Update) × (slice_get s.updates i ≡ Some u) × (is_first s.updates i u ≡ true)
    u = some_of (is_first s.updates i) (slice_get s.updates i) h

    by_phase : Tale d roles.blocks b s lines → Tale d roles.blocks b (make s i (slice_get s.updates i)) lines
    by_phase (inl t) =
        let active = (and_parts u.0.active _ u.2).0 in
        let waits = and_parts (not u.0.active && leb b.time u.0.due) (names_some u.0.what) (all_get (is_waiting b.time) s.updates i u.0 u.1 t.runs.mades.waiting) in
        absurd (true≢false (sym (and_parts (not u.0.active) (leb b.time u.0.due) waits.0).0 ∙ not_from_true u.0.active active))
    by_phase (inr t) =
        subst (λ (o : Option Update). Tale d roles.blocks b (make s i o) lines) (sym u.1)
        (inr (told_on d roles.blocks b s (make s i (Some u.0)) lines t (make_makes d roles.blocks b s apart t.making i u.0 u.1 u.2)))
mute_tale d roles set b s late ran apart at_them lines Rouse inner h none tale = by_phase tale
  where
    a : AtRouse s
    a = at_rouse s h

    by_phase : Tale d roles.blocks b s lines → Tale d roles.blocks b (record s { places = map roused s.places }) lines
    by_phase (inl t) = inl (record {
      th = λ i. rouse_thread (t.th i);
      runs = rouse_runs d roles.blocks (text_at d roles set.z) b s t.th t.runs;
      tells = λ i other. tells_rouses d roles.blocks b i (t.th i) (lines_of_process i lines) (t.tells i other);
    })
    by_phase (inr t) =
        let p = any_at is_inactive s.places a.inactive in
        absurd (elim (cases_Bool (roles.blocks p.0)) [
          | inl is ↦ block_active d (roles.inputs p.0) p.0 (text_at d roles set.z p.0 is) late (ran p.0) s.time s.store (get_or s.places p.0 ended) (at_them.fares p.0 is) (ap is_inactive (get_or_from_slice_get s.places p.0 p.1 ended p.2) ∙ p.3)
          | inr other ↦ not_inactive p.1 (stopped_at d roles.blocks b s t.making p.0 other p.1 p.2) p.3
        ])
mute_tale d roles set b s late ran apart at_them lines Activate inner h none tale = by_phase tale
  where
    a : AtActivate s
    a = at_activate s h

    by_phase : Tale d roles.blocks b s lines → Tale d roles.blocks b (record s { updates = map (activated s.time) s.updates }) lines
    by_phase (inl t) =
        inr (nets_from d roles.blocks b s (record s { updates = map (activated s.time) s.updates }) lines t
        (activate_makes d roles.blocks b s apart t.th t.runs a.quiet.going a.inactive (all_idle s.assigns a.quiet.assigns)))
    by_phase (inr t) =
        let u = any_at (is_due s.time) s.updates a.due in
        let due = and_parts (not u.1.active) (u.1.due == s.time) u.3 in
        let done = (and_parts (u.1.active || ltb b.time u.1.due) (names_some u.1.what) (all_get (is_settled b.time) s.updates u.0 u.1 u.2 t.making.settled)).0 in
        absurd (elim (or_cases u.1.active (ltb b.time u.1.due) done) [
          | inl active ↦ true≢false (sym due.0 ∙ not_from_true u.1.active active)
          | inr later ↦
              let up : b.time < u.1.due = ltb-true b.time u.1.due later in
              let now : u.1.due ≡ s.time = eqb-true u.1.due s.time due.1 in
              let same : s.time ≡ b.time = t.making.slot.time in
              omega (arith, up, now, same)
        ])
mute_tale d roles set b s late ran apart at_them lines EndSlot inner h none tale = absurd inner

-- every move within a slot
pub inner_tale : (d : Parts) (roles : Roles) (set : Setting d roles) (b s : State) (late : Bool) (ran : ℕ → Bool) → Apart d roles.blocks b → ShowsApart d roles.blocks b → BlocksAt d roles set.z late ran s.time s.store s.places →
    (lines : List Line) → (m : Move) → IsInner m → is_enabled s m ≡ true → Tale d roles.blocks b s lines → Tale d roles.blocks b (apply m s) (lines ++ displayed m s)
inner_tale d roles set b s late ran apart shows at_them lines (Step i) inner h tale =
    let p = some_of is_going (slice_get s.places i) h in
    subst (λ (o : Option Place). Tale d roles.blocks b (stepped s i o) (lines ++ step_lines s i o)) (sym p.1) (step_tale d roles set b s late ran apart shows at_them lines tale i p.0 p.1 p.2)
inner_tale d roles set b s late ran apart shows at_them lines (Evaluate j) inner h tale =
    subst (Tale d roles.blocks b (apply (Evaluate j) s)) (sym (append-nil lines)) (mute_tale d roles set b s late ran apart at_them lines (Evaluate j) inner h (λ i e. cc) tale)
inner_tale d roles set b s late ran apart shows at_them lines (Propagate j) inner h tale =
    subst (Tale d roles.blocks b (apply (Propagate j) s)) (sym (append-nil lines)) (mute_tale d roles set b s late ran apart at_them lines (Propagate j) inner h (λ i e. cc) tale)
inner_tale d roles set b s late ran apart shows at_them lines (Make j) inner h tale =
    subst (Tale d roles.blocks b (apply (Make j) s)) (sym (append-nil lines)) (mute_tale d roles set b s late ran apart at_them lines (Make j) inner h (λ i e. cc) tale)
inner_tale d roles set b s late ran apart shows at_them lines Rouse inner h tale =
    subst (Tale d roles.blocks b (apply Rouse s)) (sym (append-nil lines)) (mute_tale d roles set b s late ran apart at_them lines Rouse inner h (λ i e. cc) tale)
inner_tale d roles set b s late ran apart shows at_them lines Activate inner h tale =
    subst (Tale d roles.blocks b (apply Activate s)) (sym (append-nil lines)) (mute_tale d roles set b s late ran apart at_them lines Activate inner h (λ i e. cc) tale)
inner_tale d roles set b s late ran apart shows at_them lines EndSlot inner h tale = absurd inner

-- where a slot ends, all processes have come to a stop
pub tale_ends : (d : Parts) (blocks : ℕ → Bool) (b s : State) → Apart d blocks b → (lines : List Line) → is_enabled s EndSlot ≡ true → Tale d blocks b s lines → HasThreadLines d blocks b s lines
tale_ends d blocks b s apart lines h (inr t) = t
tale_ends d blocks b s apart lines h (inl t) =
    let e : AtEnd s = at_end s h in
    nets_from d blocks b s s lines t
    (none_makes d blocks b s apart t.th t.runs e.quiet.going e.inactive (all_idle s.assigns e.quiet.assigns) (ap (λ n. list_any (is_due n) s.updates) (sym t.runs.slot.time) ∙ e.due))
