-- A step depends on what it reads.
use Rattle.std.proofs.Common.{◌≡◌, ℕ, ◌||◌, ◌++◌, true, false, cond, Option, Some, List, [], ◌∷◌, map, refl, sym, ◌∙◌, ap, ap₂}
use Rattle.std.specs.Prelude.{find}
use Rattle.std.specs.declared.vec.Vec.{Vec}
use Rattle.std.specs.declared.alloc.Global.{Global}
use Rattle.std.specs.List.{list_any}
use Rattle.std.proofs.lemmas.Bool.{or_parts}
use Rattle.std.proofs.lemmas.List.Folds.{list_any-append}
use Rattle.vs_design.specs.vs_logic4.specs.declared.digit.Digit.{Digit}
use Rattle.vs_design.specs.vs_logic4.specs.declared.case.CaseKind.{CaseKind}
use Rattle.vs_design.specs.vs_logic4.specs.Cases.{matches}
use Rattle.vs_design.specs.vs_logic4.specs.Comparisons.{truth}
use Rattle.vs_design.specs.declared.expression.Typed.{Typed}
use Rattle.vs_design.specs.declared.signal.Signal.{Signal}
use Rattle.vs_design.specs.declared.statement.Statement.{Statement}
use Rattle.vs_design.specs.declared.statement.Statement.TheOpen.{Statement-F}
use Rattle.vs_design.specs.declared.statement.Statement.TheViews.{out-Statement}
use Rattle.vs_design.specs.declared.statement.Target.{Target}
use Rattle.vs_design.specs.Stores.{Store, is_changed}
use Rattle.vs_design.specs.Statements.{all_reads, assignment_reads}
use Rattle.vs_design.specs.Uses.{joined, reads, target_reads}
use Rattle.vs_design.specs.Writes.{Write}
use Rattle.vs_process.specs.vs_eval.specs.Targets.{assigned}
use Rattle.vs_process.specs.vs_eval.specs.Values.{target_value, value_of}
use Rattle.vs_process.specs.vs_eval.proofs.WritesHold.{parts_same}
use Rattle.vs_process.specs.Places.{perform, turns, Todo, flat}
use Rattle.vs_process.specs.Steps.{Out, assignment, step, statement_step, goes, on, branch, item_matches, is_default, first_of, flat_item, taken, turns_for, repeated}
use Rattle.vs_process.proofs.Values.{target_value_unchanged, value_unchanged}
use Rattle.vs_process.proofs.WellFormed.{is_sound_todo}
use Rattle.vs_process.specs.ThreadLaws.{HasPart}
use Rattle.vs_process.proofs.Filled.{step_filled}
use Rattle.vs_process.specs.Reads.{StepsReadWhatIsNamed, mute}
use Rattle.vs_process.specs.Threads.{item_reads, own_reads}
use Rattle.vs_process.proofs.ThreadStores.{names_some}

-- the write of an assignment is the same in two stores between which nothing that its target and its source read is changed
assignment_kept : (a b : Store) (t : Target) (e : Typed) (time : ℕ) → list_any (is_changed a b) (assignment_reads t e) ≡ false → assignment t e a time ≡ assignment t e b time
assignment_kept a b t e time h =
    let parts = or_parts (list_any (is_changed a b) (reads e)) (list_any (is_changed a b) (target_reads t)) (sym (list_any-append (is_changed a b) (reads e) (target_reads t)) ∙ h) in
    parts_same a b time 0 t.parts.items (target_value t e a time) parts.1 ∙ ap (λ v. assigned t v b time) (target_value_unchanged a b time time t e parts.0)

-- so are the answers of the expressions of a `case` item
labels_kept : (a b : Store) (kind : CaseKind) (digits : List Digit) (es : List Typed) (time : ℕ) → list_any (is_changed a b) (all_reads es) ≡ false →
    list_any (λ e. matches kind digits (value_of e a time)) es ≡ list_any (λ e. matches kind digits (value_of e b time)) es
labels_kept a b kind digits [] time h = refl
labels_kept a b kind digits (e ∷ es) time h =
    let parts = or_parts (list_any (is_changed a b) (reads e)) (list_any (is_changed a b) (all_reads es)) (sym (list_any-append (is_changed a b) (reads e) (all_reads es)) ∙ h) in
    ap₂ (λ x y. x || y) (ap (matches kind digits) (value_unchanged a b time time e parts.0)) (labels_kept a b kind digits es time parts.1)

-- the first item that matches
items_kept : (a b : Store) (kind : CaseKind) (digits : List Digit) (items : List (Vec Typed Global × Statement)) (time : ℕ) → list_any (is_changed a b) (joined (map item_reads items)) ≡ false →
    find (item_matches kind digits a time) items ≡ find (item_matches kind digits b time) items
items_kept a b kind digits [] time h = refl
items_kept a b kind digits (i ∷ items) time h =
    let parts = or_parts (list_any (is_changed a b) (item_reads i)) (list_any (is_changed a b) (joined (map item_reads items))) (sym (list_any-append (is_changed a b) (item_reads i) (joined (map item_reads items))) ∙ h) in
    ap₂ (λ t (o : Option (Vec Typed Global × Statement)). cond t (Some i) o) (labels_kept a b kind digits i.0.items time parts.0) (items_kept a b kind digits items time parts.1)

-- and the item that is taken
taken_kept : (a b : Store) (kind : CaseKind) (x : Typed) (items : List (Vec Typed Global × Statement)) (time : ℕ) → list_any (is_changed a b) (reads x ++ joined (map item_reads items)) ≡ false →
    taken kind (value_of x a time) a time items ≡ taken kind (value_of x b time) b time items
taken_kept a b kind x items time h =
    let parts = or_parts (list_any (is_changed a b) (reads x)) (list_any (is_changed a b) (joined (map item_reads items))) (sym (list_any-append (is_changed a b) (reads x) (joined (map item_reads items))) ∙ h) in
    ap (λ digits. taken kind digits a time items) (value_unchanged a b time time x parts.0)
    ∙ ap (λ o. first_of o (find is_default items)) (items_kept a b kind (value_of x b time) items time parts.1)

statement_step_reads : (a b : Store) (s : Statement) (f : Statement-F Statement) (rest : Todo) (time : ℕ) → list_any (is_changed a b) (own_reads f) ≡ false →
    mute (statement_step s f rest a time) ≡ mute (statement_step s f rest b time)
statement_step_reads a b s (Statement-F.Null n) rest time h = refl
statement_step_reads a b s (Statement-F.Assign n t e) rest time h = ap (λ w. record (goes (on rest)) { write = Some w }) (assignment_kept a b t e time h)
statement_step_reads a b s (Statement-F.Later n ticks t e) rest time h =
    ap (λ w. record (goes (on rest)) { update = Some (ticks.count, w) }) (assignment_kept a b t e time h)
statement_step_reads a b s (Statement-F.Call n c) rest time h = refl
statement_step_reads a b s (Statement-F.Finish n) rest time h = refl
statement_step_reads a b s (Statement-F.Block all) rest time h = refl
statement_step_reads a b s (Statement-F.Delay n ticks body) rest time h = refl
statement_step_reads a b s (Statement-F.Event n terms body) rest time h = refl
statement_step_reads a b s (Statement-F.If n e x y) rest time h = ap (λ v. goes (on (branch (truth v) (flat x.value) (flat y.value) ++ rest))) (value_unchanged a b time time e h)
statement_step_reads a b s (Statement-F.Case n kind x items) rest time h = ap (λ i. goes (on (flat_item i ++ rest))) (taken_kept a b kind x items.items time h)
statement_step_reads a b s (Statement-F.While n e body) rest time h = ap (λ v. goes (on (branch (truth v) (flat body.value ++ perform s ∷ rest) rest))) (value_unchanged a b time time e h)
statement_step_reads a b s (Statement-F.Repeat n signed e body) rest time h = ap (λ v. goes (on (repeated (turns_for signed v) body.value rest))) (value_unchanged a b time time e h)
statement_step_reads a b s (Statement-F.Forever n body) rest time h = refl

-- a step of a process is the same in two stores between which nothing that it reads is changed, but for the line of a `$display`
pub step_reads : StepsReadWhatIsNamed
step_reads a b [] time h = refl
step_reads a b (perform s ∷ rest) time h = statement_step_reads a b s (out-Statement s) rest time h
step_reads a b (turns n s ∷ rest) time h = refl

-- each update names a signal
pub record IsPlain (out : Out) : Type 0 where
  pub update : (w : ℕ × Write) → out.update ≡ Some w → names_some w.1 ≡ true

names_from : (w : Write) → HasPart w → names_some w ≡ true
names_from [] h = absurd (h refl)
names_from (p ∷ ps) h = refl

pub step_plain : (ss : List Signal) (todo : Todo) (store : Store) (time : ℕ) → is_sound_todo ss todo ≡ true → IsPlain (step todo store time)
step_plain ss todo store time h = record { update = λ w is. names_from w.1 ((step_filled ss todo store time h).update w is) }
