-- The text of a combinational block: where it stands, what it writes, and what wakes it.
use Rattle.std.proofs.Common.{◌≡◌, ℕ, ◌++◌, ◌||◌, not, Bool, true, false, cond, Some, List, [], ◌∷◌, map, slice_get, refl, sym, ◌∙◌, ap, ap₂, append_assoc}
use Rattle.std.specs.List.{list_any, list_all}
use Rattle.std.specs.declared.vec.Vec.{Vec}
use Rattle.std.specs.declared.alloc.Global.{Global}
use Rattle.std.proofs.lemmas.Bool.{and_parts, false≢true, not-true, or_parts, true≢false}
use Rattle.vs_design.specs.vs_logic4.specs.declared.edge.Edge.{Edge}
use Rattle.vs_design.specs.vs_logic4.specs.declared.edge.Edge.TheVariants.{Any}
use Rattle.vs_design.specs.declared.design.Process.{Process}
use Rattle.vs_design.specs.declared.statement.EventTerm.{EventTerm}
use Rattle.vs_design.specs.declared.statement.Statement.{Statement}
use Rattle.vs_design.specs.declared.statement.Statement.TheVariants.{Block}
use Rattle.vs_design.specs.declared.statement.Statement.TheViews.{out-Statement}
use Rattle.vs_design.specs.declared.statement.Statement.TheOpen.{Statement-F}
use Rattle.vs_design.specs.Parts.{Parts}
use Rattle.vs_design.specs.Statements.{has_control}
use Rattle.vs_design.specs.Stores.{Store, is_changed}
use Rattle.vs_process.specs.vs_eval.specs.Waking.{wakes, wakes_by, wake_any}
use Rattle.vs_process.specs.declared.gait.Gait.{Gait}
use Rattle.vs_process.specs.declared.gait.Gait.TheVariants.{Woken}
use Rattle.vs_process.specs.Places.{Todo, Place, perform, going, waiting, active_at, flat, stepped_gait, todo_of}
use Rattle.vs_process.specs.Steps.{on, wait, goes, step, statement_step}
use Rattle.vs_process.specs.States.{place_after_step, terms_of, wakened}
use Rattle.vs_process.specs.Executions.{is_any, is_level, waits_for_levels, is_block_body, is_always, is_combinational}
use Rattle.vs_process.specs.BlockDrivers.{home, control, place_for, text_place, control_place}
use Rattle.vs_process.proofs.Free.{todo_control, both_free, item_on}
use Rattle.vs_process.proofs.ThreadsTodos.{flat_each}

-- ---- the text

pub record Text (d : Parts) (k : ℕ) : Type 0 where
  pub process : Process
  pub is : slice_get d.processes k ≡ Some process
  pub event : Statement
  pub inner : Statement
  pub number : ℕ
  pub terms : List EventTerm
  pub home_is : home d k ≡ waiting terms (flat inner ++ perform process.body ∷ [])
  pub levels : list_all is_level terms ≡ true
  pub calm : has_control inner ≡ false
  -- its start, and its two steps to the control
  pub starts : flat process.body ≡ perform process.body ∷ []
  pub flat_event : flat event ≡ perform event ∷ []
  pub turn_is : (rest : Todo) (store : Store) (time : ℕ) → step (perform process.body ∷ rest) store time ≡ goes (on (flat event ++ perform process.body ∷ rest))
  pub arrival_is : (rest : Todo) (store : Store) (time : ℕ) → step (perform event ∷ rest) store time ≡ goes (wait number terms (flat inner ++ rest))

-- a statement that is no block is one thing to be done
abbrev is_open : Statement-F Statement → Bool
is_open (Statement-F.Block v) = true
is_open _ = false

block_open : (v : Vec Statement Global) → is_open (out-Statement (Block v)) ≡ false → true ≡ false
unfolding out-Statement denote.Hole.Carrier.out
block_open v h = h

leaf_is : (s : Statement) → is_open (out-Statement s) ≡ false → flat s ≡ perform s ∷ []
leaf_is = flat_each (λ s todo. is_open (out-Statement s) ≡ false → todo ≡ perform s ∷ []) (λ s h. refl) (λ v each h. absurd (true≢false (block_open v h)))

not_open : (s : Statement) (f : Statement-F Statement) → out-Statement s ≡ f → is_open f ≡ false → flat s ≡ perform s ∷ []
not_open s f e h = leaf_is s (ap is_open e ∙ h)

pub text_of : (d : Parts) (k : ℕ) (p : Process) → slice_get d.processes k ≡ Some p → is_combinational p ≡ true → Text d k
text_of d k p is shape = of_body (out-Statement p.body) refl (and_parts (is_always p.kind) (is_block_body (out-Statement p.body)) shape).1
  where
    of_event : (n : ℕ) (s : Statement) (f : Statement-F Statement) → out-Statement s ≡ f → waits_for_levels f ≡ true →
        ((terms : List EventTerm) (number : ℕ) (inner : Statement) → control_place p.body f ≡ waiting terms (flat inner ++ perform p.body ∷ []) → list_all is_level terms ≡ true → has_control inner ≡ false →
        flat s ≡ perform s ∷ [] → ((rest : Todo) (store : Store) (time : ℕ) → step (perform s ∷ rest) store time ≡ goes (wait number terms (flat inner ++ rest))) → Text d k) → Text d k
    of_event n s (Statement-F.Event m terms body) e h make =
        let parts = and_parts (list_all is_level terms.items) (not (has_control body.value)) h in
        make terms.items m body.value refl parts.0 (not-true (has_control body.value) parts.1) (not_open s (Statement-F.Event m terms body) e refl)
        (λ rest store time. ap (λ f. statement_step s f rest store time) e)
    of_event n s _ e h make = absurd (false≢true h)

    of_body : (f : Statement-F Statement) → out-Statement p.body ≡ f → is_block_body f ≡ true → Text d k
    of_body (Statement-F.Forever n s) e h =
        of_event n s.value (out-Statement s.value) refl h (λ terms number inner at_home levels calm flat_event arrival. record {
          process = p;
          is = is;
          event = s.value;
          inner = inner;
          number = number;
          terms = terms;
          home_is = ap place_for is ∙ ap (text_place p.body) e ∙ at_home;
          levels = levels;
          calm = calm;
          starts = not_open p.body (Statement-F.Forever n s) e refl;
          flat_event = flat_event;
          turn_is = λ rest store time. ap (λ f. statement_step p.body f rest store time) e;
          arrival_is = arrival;
        })
    of_body _ e h = absurd (false≢true h)

-- ---- where it stands

-- what it still has to do on its way to the control
pub data OnWay (d : Parts) (k : ℕ) (t : Text d k) (todo : Todo) : Type 0 where
  within : (front : Todo) → todo_control front ≡ false → todo ≡ front ++ perform t.process.body ∷ [] → OnWay d k t todo
  before : todo ≡ perform t.event ∷ perform t.process.body ∷ [] → OnWay d k t todo

-- it goes on its way, or has come to its control
pub data GoesOrWaits (d : Parts) (k : ℕ) (t : Text d k) (gait : Gait) (place : Place) : Type 0 where
  goes_on : (todo : Todo) → OnWay d k t todo → place ≡ going gait todo → GoesOrWaits d k t gait place
  arrives : place ≡ home d k → GoesOrWaits d k t gait place

active_tail : (gait : Gait) (front : Todo) (s : Statement) → active_at gait (front ++ perform s ∷ []) ≡ going gait (front ++ perform s ∷ [])
active_tail gait [] s = refl
active_tail gait (i ∷ front) s = refl

-- behind a step of it
pub stands_next : (d : Parts) (k : ℕ) (t : Text d k) (gait : Gait) (todo : Todo) (store : Store) (time : ℕ) → OnWay d k t todo →
    GoesOrWaits d k t (stepped_gait gait) (place_after_step (going gait todo) time (step todo store time).next)
stands_next d k t gait todo store time (within [] free is) =
    goes_on (perform t.event ∷ perform t.process.body ∷ []) (before refl)
    (ap (λ l. place_after_step (going gait l) time (step l store time).next) is
    ∙ ap (λ out. place_after_step (going gait (perform t.process.body ∷ [])) time out.next) (t.turn_is [] store time)
    ∙ ap (λ l. active_at (stepped_gait gait) (l ++ perform t.process.body ∷ [])) t.flat_event)
stands_next d k t gait todo store time (within (i ∷ front) free is) =
    let parts = or_parts _ (todo_control front) free in
    let g = item_on i (front ++ perform t.process.body ∷ []) store time parts.0 in
    goes_on ((g.front ++ front) ++ perform t.process.body ∷ []) (within (g.front ++ front) (both_free g.front front g.free parts.1) refl)
    (ap (λ l. place_after_step (going gait l) time (step l store time).next) is
    ∙ ap (λ n. place_after_step (going gait ((i ∷ front) ++ perform t.process.body ∷ [])) time n) g.is
    ∙ ap (active_at (stepped_gait gait)) (sym (append_assoc g.front front (perform t.process.body ∷ [])))
    ∙ active_tail (stepped_gait gait) (g.front ++ front) t.process.body)
stands_next d k t gait todo store time (before is) =
    arrives (ap (λ l. place_after_step (going gait l) time (step l store time).next) is
    ∙ ap (λ out. place_after_step (going gait (perform t.event ∷ perform t.process.body ∷ [])) time out.next) (t.arrival_is (perform t.process.body ∷ []) store time)
    ∙ sym t.home_is)

-- ---- what wakes it

-- a change wakes level terms where a range of theirs is changed
wakes_level : (old new : Store) (t : EventTerm) → is_level t ≡ true → wakes old new t ≡ is_changed old new t.range
wakes_level old new t h = by_edge t.edge refl h
  where
    by_edge : (e : Edge) → t.edge ≡ e → is_any e ≡ true → wakes old new t ≡ is_changed old new t.range
    by_edge Any is g = ap (λ (e : Edge). wakes_by e old new t) is
    by_edge _ is g = absurd (false≢true g)

pub wake_levels : (old new : Store) (terms : List EventTerm) → list_all is_level terms ≡ true → wake_any terms old new ≡ list_any (is_changed old new) (map (λ (t : EventTerm). t.range) terms)
wake_levels old new [] h = refl
wake_levels old new (t ∷ terms) h =
    let parts = and_parts (is_level t) (list_all is_level terms) h in
    ap₂ (λ x y. x || y) (wakes_level old new t parts.0) (wake_levels old new terms parts.1)

-- the ranges that its control names
pub control_is : (d : Parts) (k : ℕ) (t : Text d k) → control d k ≡ map (λ (t : EventTerm). t.range) t.terms
control_is d k t = ap (λ p. map (λ (t : EventTerm). t.range) (terms_of p)) t.home_is

-- at its control a change that touches none of them leaves it, and another one wakes it
pub home_stays : (d : Parts) (k : ℕ) (t : Text d k) (old new : Store) → list_any (is_changed old new) (control d k) ≡ false → wakened old new (home d k) ≡ home d k
home_stays d k t old new h =
    ap (wakened old new) t.home_is
    ∙ ap (λ b. cond b (active_at Woken (flat t.inner ++ perform t.process.body ∷ [])) (waiting t.terms (flat t.inner ++ perform t.process.body ∷ [])))
    (wake_levels old new t.terms t.levels ∙ ap (list_any (is_changed old new)) (sym (control_is d k t)) ∙ h)
    ∙ sym t.home_is

pub home_wakes : (d : Parts) (k : ℕ) (t : Text d k) (old new : Store) → list_any (is_changed old new) (control d k) ≡ true → wakened old new (home d k) ≡ going Woken (todo_of (home d k))
home_wakes d k t old new h =
    ap (wakened old new) t.home_is
    ∙ ap (λ b. cond b (active_at Woken (flat t.inner ++ perform t.process.body ∷ [])) (waiting t.terms (flat t.inner ++ perform t.process.body ∷ [])))
    (wake_levels old new t.terms t.levels ∙ ap (list_any (is_changed old new)) (sym (control_is d k t)) ∙ h)
    ∙ active_tail Woken (flat t.inner) t.process.body
    ∙ ap (λ p. going Woken (todo_of p)) (sym t.home_is)
