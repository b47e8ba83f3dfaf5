-- That no write is empty.
use Rattle.std.proofs.Common.{◌≡◌, ℕ, ◌+◌, ◌<◌, ◌==◌, ◌&&◌, Bool, true, false, if◌then◌else◌, Some, None, List, [], ◌∷◌, map, slice_get, sum, refl, sym, ◌∙◌, ap, subst, arith, eqb-true}
use Rattle.std.specs.List.{list_all}
use Rattle.std.proofs.lemmas.Bool.{and_parts}
use Rattle.vs_design.specs.vs_logic4.specs.declared.digit.Digit.{Digit}
use Rattle.vs_design.specs.declared.design.Assign.{Assign}
use Rattle.vs_design.specs.declared.design.Process.{Process}
use Rattle.vs_design.specs.declared.signal.Signal.{Signal}
use Rattle.vs_design.specs.declared.statement.Aim.{Aim}
use Rattle.vs_design.specs.declared.statement.Statement.{Statement}
use Rattle.vs_design.specs.declared.statement.Statement.TheOpen.{Statement-F}
use Rattle.vs_design.specs.declared.statement.Statement.TheViews.{out-Statement}
use Rattle.vs_design.specs.declared.statement.Target.{Target}
use Rattle.vs_design.specs.Parts.{Parts}
use Rattle.vs_design.specs.Stores.{Store}
use Rattle.vs_design.specs.WellFormed.{WellFormed, aim_width, counts_from, is_body_of, is_net_aim, is_sound_assign, is_sound_process, is_sound_statement, is_sound_target, is_source, is_variable_aim, numbers}
use Rattle.vs_design.specs.Writes.{Write}
use Rattle.vs_process.specs.vs_eval.specs.Targets.{assigned, parts_from}
use Rattle.vs_process.specs.vs_eval.specs.Values.{target_value}
use Rattle.vs_process.specs.Landings.{todo_after}
use Rattle.vs_process.specs.declared.gait.Gait.{Gait}
use Rattle.vs_process.specs.declared.gait.Gait.TheVariants.{Fresh}
use Rattle.vs_process.specs.Places.{perform, turns, Todo, active_at, going, inactive, sleeping, stepped_gait}
use Rattle.vs_process.specs.Steps.{Next, on, after, wait, Out, assignment, step, statement_step}
use Rattle.vs_process.proofs.ProcessLists.{all_slice}
use Rattle.vs_process.specs.States.{place_after_step}
use Rattle.vs_process.proofs.WellFormed.{is_sound_place, is_sound_todo, opened, sound_flat, sound_next, sound_out, sound_place_behind}
use Rattle.vs_process.specs.ThreadLaws.{HasPart, IsLeft, WritesHaveParts, start, behind}

-- ---- targets

filled_parts : (place : ℕ) (aims : List Aim) (digits : List Digit) (store : Store) (time : ℕ) → (aims ≡ [] → ⊥) → HasPart (parts_from place aims digits store time)
filled_parts place [] digits store time h e = h refl
filled_parts place (x ∷ aims) digits store time h e = cc

-- a sound target has a place, as it has a bit
has_place : (test : Aim → Bool) (t : Target) → is_sound_target test t ≡ true → t.parts.items ≡ [] → ⊥
has_place test t h none =
    let size : sum (map aim_width t.parts.items) ≡ t.width =
    eqb-true (sum (map aim_width t.parts.items)) t.width (and_parts (list_all test t.parts.items) (sum (map aim_width t.parts.items) == t.width) h).1 in
    let width : 0 ≡ t.width = ap (λ aims. sum (map aim_width aims)) (sym none) ∙ size in
    let up : 0 < t.width = t.sized.0 in
    omega (arith, width, up)

filled_assigned : (test : Aim → Bool) (t : Target) (digits : List Digit) (store : Store) (time : ℕ) → is_sound_target test t ≡ true → HasPart (assigned t digits store time)
filled_assigned test t digits store time h = filled_parts 0 t.parts.items digits store time (has_place test t h)

-- ---- steps

-- what a step writes, at once or by its update, has a part
pub record IsFilled (out : Out) : Type 0 where
  pub write : (w : Write) → out.write ≡ Some w → HasPart w
  pub update : (u : ℕ × Write) → out.update ≡ Some u → HasPart u.1

filled_none : (out : Out) → out.write ≡ None → out.update ≡ None → IsFilled out
filled_none out w u = record { write = λ x h. let e : None ≡ Some x = sym w ∙ h in cc; update = λ x h. let e : None ≡ Some x = sym u ∙ h in cc }

statement_filled : (ss : List Signal) (s : Statement) (f : Statement-F Statement) (rest : Todo) (store : Store) (time : ℕ) → sound_out ss f ≡ true → IsFilled (statement_step s f rest store time)
statement_filled ss s (Statement-F.Null n) rest store time h = filled_none (statement_step s (Statement-F.Null n) rest store time) refl refl
statement_filled ss s (Statement-F.Assign n t e) rest store time h = record {
  write = λ w is.
      let p : assignment t e store time ≡ w = cc in
      subst HasPart p (filled_assigned (is_variable_aim ss) t (target_value t e store time) store time (and_parts (is_sound_target (is_variable_aim ss) t) (is_source ss t e) h).0);
  update = λ u is. cc;
}
statement_filled ss s (Statement-F.Later n ticks t e) rest store time h = record {
  write = λ w is. cc;
  update = λ u is.
      let p : (ticks.count, assignment t e store time) ≡ u = cc in
      subst (λ (x : ℕ × Write). HasPart x.1) p (filled_assigned (is_variable_aim ss) t (target_value t e store time) store time (and_parts (is_sound_target (is_variable_aim ss) t) (is_source ss t e) h).0);
}
statement_filled ss s (Statement-F.Call n c) rest store time h = filled_none (statement_step s (Statement-F.Call n c) rest store time) refl refl
statement_filled ss s (Statement-F.Finish n) rest store time h = filled_none (statement_step s (Statement-F.Finish n) rest store time) refl refl
statement_filled ss s (Statement-F.Block all) rest store time h = filled_none (statement_step s (Statement-F.Block all) rest store time) refl refl
statement_filled ss s (Statement-F.Delay n ticks body) rest store time h = filled_none (statement_step s (Statement-F.Delay n ticks body) rest store time) refl refl
statement_filled ss s (Statement-F.Event n terms body) rest store time h = filled_none (statement_step s (Statement-F.Event n terms body) rest store time) refl refl
statement_filled ss s (Statement-F.If n e a b) rest store time h = filled_none (statement_step s (Statement-F.If n e a b) rest store time) refl refl
statement_filled ss s (Statement-F.Case n kind x items) rest store time h = filled_none (statement_step s (Statement-F.Case n kind x items) rest store time) refl refl
statement_filled ss s (Statement-F.While n e body) rest store time h = filled_none (statement_step s (Statement-F.While n e body) rest store time) refl refl
statement_filled ss s (Statement-F.Repeat n signed e body) rest store time h = filled_none (statement_step s (Statement-F.Repeat n signed e body) rest store time) refl refl
statement_filled ss s (Statement-F.Forever n body) rest store time h = filled_none (statement_step s (Statement-F.Forever n body) rest store time) refl refl

pub step_filled : (ss : List Signal) (todo : Todo) (store : Store) (time : ℕ) → is_sound_todo ss todo ≡ true → IsFilled (step todo store time)
step_filled ss [] store time h = filled_none (step [] store time) refl refl
step_filled ss (perform s ∷ rest) store time h = statement_filled ss s (out-Statement s) rest store time (opened ss s (and_parts (is_sound_statement ss s) (is_sound_todo ss rest) h).0)
step_filled ss (turns n s ∷ rest) store time h = filled_none (step (turns n s ∷ rest) store time) refl refl

-- ---- processes and continuous assignments

-- what is to be done behind a step is that of the place behind it
active_sound : (ss : List Signal) (gait : Gait) (rest : Todo) → is_sound_place ss (active_at gait rest) ≡ true → is_sound_todo ss rest ≡ true
active_sound ss gait [] h = refl
active_sound ss gait (i ∷ rest) h = h

paused_sound : (ss : List Signal) (b : Bool) (due : ℕ) (rest : Todo) → is_sound_place ss (if b then inactive rest else sleeping due rest) ≡ true → is_sound_todo ss rest ≡ true
paused_sound ss true due rest h = h
paused_sound ss false due rest h = h

behind_sound : (ss : List Signal) (todo : Todo) (time : ℕ) (n : Next) → is_sound_place ss (place_after_step (going Fresh todo) time n) ≡ true → is_sound_todo ss (todo_after n) ≡ true
behind_sound ss todo time (on rest) h = active_sound ss (stepped_gait Fresh) rest h
behind_sound ss todo time (after n ticks rest) h = paused_sound ss (ticks == 0) (time + ticks) rest h
behind_sound ss todo time (wait n terms rest) h = h

left_sound : (ss : List Signal) (body : Statement) (todo : Todo) → is_sound_statement ss body ≡ true → IsLeft body todo → is_sound_todo ss todo ≡ true
left_sound ss body _ h start = sound_flat ss body h
left_sound ss body _ h (behind todo store time l) =
    let next = (step todo store time).next in
    behind_sound ss todo time next (sound_place_behind ss (going Fresh todo) time next (sound_next ss todo store time (left_sound ss body todo h l)))

pub body_sound : (d : Parts) → WellFormed d → (i : ℕ) (p : Process) → slice_get d.processes i ≡ Some p → is_sound_statement d.signals p.body ≡ true
body_sound d formed i p is =
    let whole = all_slice (λ (p : Process). is_sound_process d.signals p ≡ true) d.processes i p is formed.processes in
    (and_parts (is_sound_statement d.signals p.body) (counts_from 0 (numbers p.body))
    (and_parts (is_sound_statement d.signals p.body && counts_from 0 (numbers p.body)) (is_body_of p.kind p.body) whole).0).0

left_filled : (d : Parts) → WellFormed d → (i : ℕ) (p : Process) (todo : Todo) (store : Store) (time : ℕ) → slice_get d.processes i ≡ Some p → IsLeft p.body todo → IsFilled (step todo store time)
left_filled d formed i p todo store time is l = step_filled d.signals todo store time (left_sound d.signals p.body todo (body_sound d formed i p is) l)

pub filled : WritesHaveParts
filled = record {
  written = λ d formed i p todo store time w is l h. (left_filled d formed i p todo store time is l).write w h;
  updated = λ d formed i p todo store time u is l h. (left_filled d formed i p todo store time is l).update u h;
  driven = λ d formed j a digits store time is.
      let sound = all_slice (λ (a : Assign). is_sound_assign d.signals a ≡ true) d.assigns j a is formed.assigns in
      filled_assigned (is_net_aim d.signals) a.target digits store time (and_parts (is_sound_target (is_net_aim d.signals) a.target) (is_source d.signals a.target a.source) sound).0;
}
