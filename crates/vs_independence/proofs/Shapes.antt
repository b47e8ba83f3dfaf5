-- Where a combinational block waits.
use Rattle.std.proofs.Common.{◌≡◌, ℕ, zero, suc, ◌++◌, true, not, Option, Some, None, List, [], ◌∷◌, map, get_or, slice_get, refl, sym, ◌∙◌, ap, subst}
use Rattle.std.specs.List.{Contains, list_all}
use Rattle.std.proofs.lemmas.Bool.{and_parts, not-true, false≢true}
use Rattle.std.proofs.lemmas.Option.{none-some, same_Some}
use Rattle.vs_design.specs.declared.design.Process.{Process}
use Rattle.vs_design.specs.declared.statement.EventTerm.{EventTerm}
use Rattle.vs_design.specs.declared.statement.Statement.{Statement}
use Rattle.vs_design.specs.declared.statement.Statement.TheOpen.{Statement-F}
use Rattle.vs_design.specs.declared.statement.Statement.TheViews.{out-Statement}
use Rattle.vs_design.specs.Parts.{Parts}
use Rattle.vs_process.specs.declared.gait.Gait.{Gait}
use Rattle.vs_process.specs.declared.gait.Gait.TheVariants.{Fresh}
use Rattle.vs_process.specs.Drafts.{is_block}
use Rattle.vs_process.specs.Nexts.{statement_nexts}
use Rattle.vs_process.specs.Places.{Todo, Place, perform, waiting, ended, active_at, start_place, flat, todo_of}
use Rattle.vs_process.specs.Steps.{on, wait}
use Rattle.vs_process.proofs.Shapes.{flat-single}
use Rattle.vs_independence.specs.vs_process.specs.States.{terms_of}
use Rattle.vs_independence.specs.vs_process.specs.Executions.{is_block_body, is_always, waits_for_levels, is_level}
use Rattle.vs_independence.specs.vs_process.proofs.ProcessLists.{map_cases}
use Rattle.vs_rules.specs.vs_process.proofs.ThreadLists.{place_of, contains_at}
use Rattle.vs_rules.specs.Points.{Goes, Point, first_todo}
use Rattle.vs_rules.specs.Points as r
use Rattle.vs_rules.specs.Claims.{Claims, IsBlock}
use Rattle.vs_rules.specs.Paths.{IsPoint}
use Rattle.vs_rules.specs.Drivers.{Names}
use Rattle.vs_rules.specs.Blocks.{K5}
use Rattle.vs_rules.specs.vs_process.specs.BlockDrivers.{control_place, text_place, place_for, home}
use Rattle.vs_design.specs.vs_logic4.proofs.Basics.{none_in}
use Rattle.vs_independence.proofs.Cones.{ControlNames, is_block as kind_block}
use Rattle.vs_design.specs.declared.statement.Statement.TheFolds.{map-Statement}
use Rattle.vs_design.specs.Statements.{event_terms, event_terms_step, has_control}
use Rattle.vs_rules.specs.Controls.{controls_in, controls_step}
use Rattle.std.proofs.lemmas.List.{append-nil}
use Rattle.vs_independence.proofs.Controls.{no_controls}
use Rattle.vs_rules.proofs.Texts.{layer_is}

active_todo : (gait : Gait) (k : Todo) → todo_of (active_at gait k) ≡ k
active_todo gait [] = refl
active_todo gait (x ∷ k) = refl

pub first_is : (ps : List Process) (k : ℕ) (p : Process) → slice_get ps k ≡ Some p → todo_of (get_or (map (λ (p : Process). start_place p.body) ps) k ended) ≡ flat p.body
first_is [] k p is = absurd (none-some p is)
first_is (q ∷ ps) zero p is = active_todo Fresh (flat q.body) ∙ ap (λ (x : Process). flat x.body) (same_Some q p is)
first_is (q ∷ ps) (suc k) p is = first_is ps k p is

-- a block waits behind its control for its terms
pub record Shape (d : Parts) (k : ℕ) : Type 0 where
  pub process : Process
  pub number : ℕ
  pub terms : List EventTerm
  pub body : Statement
  pub waits : Todo
  pub is : slice_get d.processes k ≡ Some process
  pub home : home d k ≡ waiting terms (flat body ++ perform process.body ∷ [])
  pub point : IsPoint d k waits
  pub goes : Goes waits (wait number terms (flat body ++ perform process.body ∷ []))
  pub text_terms : event_terms process.body ≡ terms
  pub text_delays : controls_in process.body ≡ []

-- by the two outermost layers
shape_of : (d : Parts) (k : ℕ) (p : Process) → slice_get d.processes k ≡ Some p → (x : Statement-F Statement) → out-Statement p.body ≡ x → is_block_body x ≡ true → Shape d k
shape_of d k p is (Statement-F.Forever n s) e h = at_control (out-Statement s.value) refl h
  where
    at_control : (y : Statement-F Statement) → out-Statement s.value ≡ y → waits_for_levels y ≡ true → Shape d k
    at_control (Statement-F.Event m terms body) f h = record {
      process = p;
      number = m;
      terms = terms.items;
      body = body.value;
      waits = perform s.value ∷ perform p.body ∷ [];
      is = is;
      home = ap place_for is ∙ ap (text_place p.body) e ∙ ap (control_place p.body) f;
      point = subst (IsPoint d k) (ap (λ (todo : Todo). todo ++ perform p.body ∷ []) (flat-single s.value (ap is_block f)))
          (Point.goes_on (perform p.body ∷ []) (flat s.value ++ perform p.body ∷ []) begun
          (subst (λ x. r.Among (on (flat s.value ++ perform p.body ∷ [])) (statement_nexts p.body x [])) (sym e) (r.Among.first [])));
      goes = subst (λ y. r.Among (wait m terms.items (flat body.value ++ perform p.body ∷ [])) (statement_nexts s.value y (perform p.body ∷ []))) (sym f) (r.Among.first []);
      text_terms =
          layer_is event_terms_step p.body ∙ ap (λ x. event_terms_step (map-Statement Statement (List EventTerm) event_terms x)) e
          ∙ layer_is event_terms_step s.value ∙ ap (λ x. event_terms_step (map-Statement Statement (List EventTerm) event_terms x)) f
          ∙ ap (λ (ts : List EventTerm). terms.items ++ ts) free.1 ∙ append-nil terms.items;
      text_delays =
          layer_is controls_step p.body ∙ ap (λ x. controls_step (map-Statement Statement (List ℕ) controls_in x)) e
          ∙ layer_is controls_step s.value ∙ ap (λ x. controls_step (map-Statement Statement (List ℕ) controls_in x)) f
          ∙ free.0;
    }
      where
        free : (controls_in body.value ≡ []) × (event_terms body.value ≡ [])
        free = no_controls body.value (not-true (has_control body.value) (and_parts (list_all is_level terms.items) (not (has_control body.value)) h).1)

        begun : IsPoint d k (perform p.body ∷ [])
        begun = subst (Point (first_todo d k)) (first_is d.processes k p is ∙ flat-single p.body (ap is_block e)) Point.begins
    at_control (Statement-F.Null m) f h = absurd (false≢true h)
    at_control (Statement-F.Assign m t x) f h = absurd (false≢true h)
    at_control (Statement-F.Later m ticks t x) f h = absurd (false≢true h)
    at_control (Statement-F.Call m c) f h = absurd (false≢true h)
    at_control (Statement-F.Finish m) f h = absurd (false≢true h)
    at_control (Statement-F.Block all) f h = absurd (false≢true h)
    at_control (Statement-F.Delay m ticks body) f h = absurd (false≢true h)
    at_control (Statement-F.If m x a b) f h = absurd (false≢true h)
    at_control (Statement-F.Case m kind x items) f h = absurd (false≢true h)
    at_control (Statement-F.While m x body) f h = absurd (false≢true h)
    at_control (Statement-F.Repeat m signed x body) f h = absurd (false≢true h)
    at_control (Statement-F.Forever m body) f h = absurd (false≢true h)
shape_of d k p is (Statement-F.Null n) e h = absurd (false≢true h)
shape_of d k p is (Statement-F.Assign n t x) e h = absurd (false≢true h)
shape_of d k p is (Statement-F.Later n ticks t x) e h = absurd (false≢true h)
shape_of d k p is (Statement-F.Call n c) e h = absurd (false≢true h)
shape_of d k p is (Statement-F.Finish n) e h = absurd (false≢true h)
shape_of d k p is (Statement-F.Block all) e h = absurd (false≢true h)
shape_of d k p is (Statement-F.Delay n ticks body) e h = absurd (false≢true h)
shape_of d k p is (Statement-F.Event n terms body) e h = absurd (false≢true h)
shape_of d k p is (Statement-F.If n x a b) e h = absurd (false≢true h)
shape_of d k p is (Statement-F.Case n kind x items) e h = absurd (false≢true h)
shape_of d k p is (Statement-F.While n x body) e h = absurd (false≢true h)
shape_of d k p is (Statement-F.Repeat n signed x body) e h = absurd (false≢true h)

pub block_shape : (d : Parts) (c : Claims) (k : ℕ) (p : Process) → K5 d c k → IsBlock d c k → slice_get d.processes k ≡ Some p → Shape d k
block_shape d c k p r blk is = shape_of d k p is (out-Statement p.body) refl (and_parts (is_always p.kind) (is_block_body (out-Statement p.body)) (r.shape p blk is)).1

-- the control of a block names its ranges
pub control_names : (d : Parts) (c : Claims) → ((k : ℕ) → K5 d c k) → ControlNames d c
control_names d c r k q blk con = by_process (slice_get d.processes k) refl
  where
    by_process : (o : Option Process) → slice_get d.processes k ≡ o → Names d k q
    by_process None is = absurd (none_in q (subst (λ (o : Option Process). Contains (map (λ (t : EventTerm). t.range) (terms_of (place_for o))) q) is con))
    by_process (Some p) is =
        let s = block_shape d c k p (r k) (kind_block d c k blk) is in
        let listed : Contains (map (λ (t : EventTerm). t.range) s.terms) q = subst (λ (x : Place). Contains (map (λ (t : EventTerm). t.range) (terms_of x)) q) s.home con in
        let there = place_of (map (λ (t : EventTerm). t.range) s.terms) q listed in
        let term = map_cases (λ (t : EventTerm). t.range) s.terms there.0 q there.1 in
        record {
          term = term.0;
          has = record { control = s.waits; number = s.number; terms = s.terms; behind = flat s.body ++ perform s.process.body ∷ []; point = s.point; goes = s.goes; is = contains_at s.terms there.0 term.0 term.1 };
          is = term.2;
          touches = tt;
        }
