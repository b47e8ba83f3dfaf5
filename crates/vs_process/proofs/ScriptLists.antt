-- Lemmas on the instructions of a script, one for each instruction of the code.
use Rattle.std.proofs.Common.{◌≡◌, ℕ, zero, suc, ◌≤◌, Option, Some, None, List, [], ◌∷◌, ◌++◌, map, length, refl, sym, ◌∙◌, ap, ap₂, subst, arith}
use Rattle.std.specs.Prelude.{slice_get, Bool, Vec}
use Rattle.std.specs.declared.alloc.Global.{Global}
use Rattle.vs_design.specs.vs_logic4.specs.declared.case.CaseKind.{CaseKind}
use Rattle.std.proofs.lemmas.List.{length-map}
use Rattle.std.proofs.lemmas.Option.{none-some, same_Some}
use Rattle.vs_design.specs.declared.expression.Typed.{Typed}
use Rattle.vs_design.specs.declared.signal.Signal.{Signal}
use Rattle.vs_design.specs.declared.statement.Call.{Call}
use Rattle.vs_design.specs.declared.statement.EventTerm.{EventTerm}
use Rattle.vs_design.specs.declared.statement.Statement.{Statement}
use Rattle.vs_design.specs.declared.statement.Statement.TheOpen.{Statement-F}
use Rattle.vs_design.specs.declared.statement.Statement.TheViews.{out-Statement}
use Rattle.vs_design.specs.declared.statement.Target.{Target}
use Rattle.vs_design.specs.declared.statement.Ticks.{Ticks}
use Rattle.vs_process.specs.declared.draft.Op.{Op}
use Rattle.vs_process.specs.declared.draft.Task.{Task}
use Rattle.vs_process.specs.declared.draft.Task.TheVariants.{Perform, Turns}
use Rattle.vs_process.specs.declared.script.Action.{Action}
use Rattle.vs_process.specs.declared.script.Action.TheVariants as a
use Rattle.vs_process.specs.declared.script.Instruction.{Instruction}
use Rattle.vs_process.specs.Choices.{index_of}
use Rattle.vs_process.specs.Codes.{IsCodeOf, links_of, link_of, job_of}
use Rattle.vs_process.specs.Instructions.{AreInstructionsOf, IsActionOf, IsAssign, IsBranch, IsCall, IsCase, IsDelay, IsInstructionOf, IsOfTask, IsRepeat, IsTurns, IsUpdate, IsWait}
use Rattle.vs_process.specs.Links.{todo_from, todo_within}
use Rattle.vs_process.specs.Places.{Todo}
use Rattle.vs_process.specs.Scripts.{IsScriptOf, StartsWith, action_control, instruction_control}
use Rattle.vs_process.specs.Steps.{has_nothing}
use Rattle.vs_process.specs.Texts.{Control, job_control, layer_control, link_control}
use Rattle.vs_process.specs.passes.Made.{IsScriptMade}
use Rattle.vs_process.proofs.Codes.{todo_start}
use Rattle.vs_process.proofs.Drafts.{link_here}
use Rattle.vs_process.proofs.Links.{todo_here}
use Rattle.vs_process.proofs.ScriptLemmas.{does_op, same_place, text_of}
use Rattle.vs_process.proofs.Ways.{link_none}

-- ---- one for each

get_made : (signals : List Signal) (count : ℕ) (ops : List Op) (script : List Instruction) (i : ℕ) (ins : Instruction) → AreInstructionsOf signals count ops script →
    slice_get script i ≡ Some ins → (x : Op) × (slice_get ops i ≡ Some x) × IsInstructionOf signals count x ins
get_made signals count [] [] i ins h e = absurd (none-some ins e)
get_made signals count [] (y ∷ ys) i ins h e = absurd h
get_made signals count (x ∷ ops) [] i ins h e = absurd h
get_made signals count (x ∷ ops) (y ∷ ys) zero ins h e = (x, refl, subst (IsInstructionOf signals count x) (same_Some y ins e) h.0)
get_made signals count (x ∷ ops) (y ∷ ys) (suc i) ins h e = get_made signals count ops ys i ins h.1 e

none_made : (signals : List Signal) (count : ℕ) (ops : List Op) (script : List Instruction) (i : ℕ) → AreInstructionsOf signals count ops script → slice_get script i ≡ None →
    slice_get ops i ≡ None
none_made signals count [] ys i h e = refl
none_made signals count (x ∷ ops) [] i h e = absurd h
none_made signals count (x ∷ ops) (y ∷ ys) zero h e = absurd (none-some y (sym e))
none_made signals count (x ∷ ops) (y ∷ ys) (suc i) h e = none_made signals count ops ys i h.1 e

pub made_more : (signals : List Signal) (count : ℕ) (ops : List Op) (script : List Instruction) (x : Op) (ins : Instruction) → AreInstructionsOf signals count ops script →
    IsInstructionOf signals count x ins → AreInstructionsOf signals count (ops ++ x ∷ []) (script ++ ins ∷ [])
made_more signals count [] [] x ins h k = (k, tt)
made_more signals count [] (y ∷ ys) x ins h k = absurd h
made_more signals count (z ∷ ops) [] x ins h k = absurd h
made_more signals count (z ∷ ops) (y ∷ ys) x ins h k = (h.0, made_more signals count ops ys x ins h.1 k)

-- ---- the event controls

assign_free : (signals : List Signal) (t : Target) (e : Typed) (action : Action) → IsAssign signals t e action → action_control action ≡ None
assign_free signals t e (a.Assign spot r) h = refl
assign_free signals t e (a.AssignChosen place r) h = refl
assign_free signals t e (a.AssignAny target x) h = refl
assign_free signals t e _ h = absurd h

update_free : (signals : List Signal) (ticks : Ticks) (t : Target) (e : Typed) (action : Action) → IsUpdate signals ticks t e action → action_control action ≡ None
update_free signals ticks t e (a.Update spot r) h = refl
update_free signals ticks t e (a.UpdateChosen place r) h = refl
update_free signals ticks t e (a.UpdateAny k target x) h = refl
update_free signals ticks t e _ h = absurd h

call_free : (x : Op) (call : Call) (action : Action) → IsCall x call action → action_control action ≡ None
call_free x call (a.Display format) h = refl
call_free x call (a.Strobe format) h = refl
call_free x call a.Nothing h = refl
call_free x call _ h = absurd h

branch_free : (signals : List Signal) (e : Typed) (other : ℕ) (action : Action) → IsBranch signals e other action → action_control action ≡ None
branch_free signals e other (a.Branch r there) h = refl
branch_free signals e other _ h = absurd h

case_free : (signals : List Signal) (count : ℕ) (x : Op) (kind : CaseKind) (e : Typed) (items : List (Vec Typed Global × Statement)) (action : Action) → IsCase signals count x kind e items action →
    action_control action ≡ None
case_free signals count x kind e items (a.Case s) h = refl
case_free signals count x kind e items _ h = absurd h

repeat_free : (count : ℕ) (x : Op) (signed : Bool) (e : Typed) (action : Action) → IsRepeat count x signed e action → action_control action ≡ None
repeat_free count x signed e (a.Repeat r) h = refl
repeat_free count x signed e _ h = absurd h

turns_free : (count : ℕ) (x : Op) (action : Action) → IsTurns count x action → action_control action ≡ None
turns_free count x (a.Turns t) h = refl
turns_free count x _ h = absurd h

delay_free : (m : ℕ) (ticks : Ticks) (action : Action) → IsDelay m ticks action → action_control action ≡ None
delay_free m ticks (a.Delay k t) h = refl
delay_free m ticks _ h = absurd h

wait_control : (m : ℕ) (terms : List EventTerm) (action : Action) → IsWait m terms action → action_control action ≡ Some (m, terms)
wait_control m terms (a.Wait k ts) h = ap₂ (λ (n : ℕ) (l : List EventTerm). Some (n, l)) h.0 h.1
wait_control m terms _ h = absurd h

layer_same : (signals : List Signal) (count : ℕ) (x : Op) (f : Statement-F Statement) (action : Action) → IsActionOf signals count x f action → action_control action ≡ layer_control f
layer_same signals count x (Statement-F.Null m) action h = ap (λ (k : Action). action_control k) h
layer_same signals count x (Statement-F.Assign m t v) action h = assign_free signals t v action h
layer_same signals count x (Statement-F.Later m ticks t v) action h = update_free signals ticks t v action h
layer_same signals count x (Statement-F.Call m call) action h = call_free x call action h
layer_same signals count x (Statement-F.Finish m) action h = ap (λ (k : Action). action_control k) h
layer_same signals count x (Statement-F.Block all) action h = ap (λ (k : Action). action_control k) h
layer_same signals count x (Statement-F.Delay m ticks body) action h = delay_free m ticks action h
layer_same signals count x (Statement-F.Event m terms body) action h = wait_control m terms.items action h
layer_same signals count x (Statement-F.If m v p q) action h = branch_free signals v (index_of count x.second) action h
layer_same signals count x (Statement-F.Case m kind v items) action h = case_free signals count x kind v items.items action h
layer_same signals count x (Statement-F.While m v body) action h = branch_free signals v (index_of count x.behind) action h
layer_same signals count x (Statement-F.Repeat m signed v body) action h = repeat_free count x signed v action h
layer_same signals count x (Statement-F.Forever m body) action h = ap (λ (k : Action). action_control k) h

task_same : (signals : List Signal) (count : ℕ) (x : Op) (task : Task) (ins : Instruction) → IsOfTask signals count x task ins → action_control ins.action ≡ job_control (job_of x.counter task)
task_same signals count x (Perform s) ins h = layer_same signals count x (out-Statement s.now) ins.action h.0
task_same signals count x (Turns s) ins h = turns_free count x ins.action h

same_controls : (signals : List Signal) (count : ℕ) (ops : List Op) (script : List Instruction) → AreInstructionsOf signals count ops script →
    map instruction_control script ≡ map link_control (links_of ops)
same_controls signals count [] [] h = refl
same_controls signals count [] (y ∷ ys) h = absurd h
same_controls signals count (x ∷ ops) [] h = absurd h
same_controls signals count (x ∷ ops) (y ∷ ys) h =
    ap₂ (λ (c : Option Control) (l : List (Option Control)). c ∷ l) (task_same signals count x x.task y h.0) (same_controls signals count ops ys h.1)

-- ---- a script

pub script_is : (signals : List Signal) (ops : List Op) (counters start : ℕ) (script : List Instruction) → IsScriptMade signals ops counters script →
    IsScriptOf (text_of signals ops counters start) script
script_is signals ops counters start script h = record {
  does = λ i ins at. let g = get_made signals (length ops) ops script i ins h.made at in does_op signals ops counters start i g.0 ins h.code g.1 g.2;
  some = λ i ins cs at.
      let g = get_made signals (length ops) ops script i ins h.made at in
      ap (λ (t : Todo). has_nothing t) (todo_here (links_of ops) cs i (link_of g.0) h.code.linked (link_here ops i g.0 g.1));
  ends = λ i cs none.
      ap (todo_from cs (λ p. todo_within i (links_of ops) cs p)) (link_none ops i (none_made signals (length ops) ops script i h.made none));
  controls = same_controls signals (length ops) ops script h.made;
  apart = h.apart;
}

pub starts_with : (signals : List Signal) (s : Statement) (ops : List Op) (counters place : ℕ) → IsCodeOf s ops counters place →
    StartsWith (text_of signals ops counters (index_of (length ops) place)) s
starts_with signals s ops counters place h cs =
    let many : length (links_of ops) ≤ length ops = omega (arith, length-map ops link_of) in
    same_place (links_of ops) cs (length ops) place many ∙ todo_start s ops counters place cs h

pub starts_at : (signals : List Signal) (s : Statement) (ops : List Op) (counters place start count : ℕ) → IsCodeOf s ops counters place → count ≡ length ops → start ≡ index_of count place →
    StartsWith (text_of signals ops counters start) s
starts_at signals s ops counters place start count h many is =
    subst (λ (i : ℕ). StartsWith (text_of signals ops counters i) s) (sym (is ∙ ap (λ (n : ℕ). index_of n place) many)) (starts_with signals s ops counters place h)
