-- Where a step of the flat code leads.
use Rattle.std.specs.Prelude.{ℕ, zero, suc, Bool, if◌then◌else◌, ◌≡◌, Option, Some, None, List, [], ◌∷◌, get_or, slice_get, slice_set, drop}
use Rattle.std.specs.declared.vec.Vec.{Vec}
use Rattle.std.specs.declared.alloc.Global.{Global}
use Rattle.vs_design.specs.vs_logic4.specs.declared.case.CaseKind.{CaseKind}
use Rattle.vs_design.specs.vs_logic4.specs.declared.digit.Digit.{Digit}
use Rattle.vs_design.specs.vs_logic4.specs.Comparisons.{truth}
use Rattle.vs_design.specs.declared.expression.Typed.{Typed}
use Rattle.vs_design.specs.declared.statement.Statement.{Statement}
use Rattle.vs_design.specs.declared.statement.Statement.TheOpen.{Statement-F}
use Rattle.vs_design.specs.declared.statement.Statement.TheViews.{out-Statement}
use Rattle.vs_design.specs.Stores.{Store}
use Rattle.vs_strobe.specs.vs_eval.specs.Values.{value_of}
use Rattle.vs_process.specs.declared.draft.Op.{Op}
use Rattle.vs_process.specs.declared.draft.Task.{Task}
use Rattle.vs_process.specs.declared.draft.Task.TheVariants as t
use Rattle.vs_process.specs.declared.halt.Halt.{Halt}
use Rattle.vs_process.specs.declared.halt.Halt.TheVariants as h
use Rattle.vs_process.specs.Changes.{store_after}
use Rattle.vs_process.specs.Extras.{starts_in}
use Rattle.vs_process.specs.Places.{Todo, Item}
use Rattle.vs_process.specs.Steps.{Next, on, after, wait, step, branch, first_of, item_matches, is_default, turns_for}

-- a place, and the counters there
pub record Landing : Type 0 where
  pub place : ℕ
  pub counters : List ℕ

abbrev pub landing : ℕ → List ℕ → Landing
landing place counters = record { place = place; counters = counters }

-- where a test of a `repeat` with so many turns left leads (clause 9.6)
abbrev pub turned : ℕ → Op → List ℕ → Landing
turned zero x counters = landing x.behind counters
turned (suc left) x counters = landing x.first (slice_set counters x.counter left)

-- the start of the first `case` item that passes a test, where it has one
abbrev pub start_where : (Vec Typed Global × Statement → Bool) → List (Vec Typed Global × Statement) → List ℕ → Option ℕ
start_where test [] starts = None
start_where test (i ∷ items) starts = if test i then slice_get starts 0 else start_where test items (drop 1 starts)

abbrev pub place_or : ℕ → Option ℕ → ℕ
place_or behind None = behind
place_or behind (Some place) = place

-- the start of the `case` item that is taken (clause 9.5)
abbrev pub start_taken : CaseKind → List Digit → Store → ℕ → List (Vec Typed Global × Statement) → List ℕ → ℕ → ℕ
start_taken kind digits store time items starts behind =
    place_or behind (first_of (start_where (item_matches kind digits store time) items starts) (start_where is_default items starts))

-- where the step of a statement leads, by its outermost layer (clauses 9.2 and 9.4 to 9.7)
abbrev pub layer_lands : Op → Statement-F Statement → List ℕ → Store → ℕ → Landing
layer_lands x (Statement-F.Null n) counters store time = landing x.behind counters
layer_lands x (Statement-F.Assign n t e) counters store time = landing x.behind counters
layer_lands x (Statement-F.Later n ticks t e) counters store time = landing x.behind counters
layer_lands x (Statement-F.Call n c) counters store time = landing x.behind counters
layer_lands x (Statement-F.Finish n) counters store time = landing x.behind counters
layer_lands x (Statement-F.Block all) counters store time = landing x.first counters
layer_lands x (Statement-F.Delay n ticks body) counters store time = landing x.first counters
layer_lands x (Statement-F.Event n terms body) counters store time = landing x.first counters
layer_lands x (Statement-F.If n e a b) counters store time =
    landing (branch (truth (value_of e store time)) x.first x.second) counters
layer_lands x (Statement-F.Case n kind e items) counters store time =
    landing (start_taken kind (value_of e store time) store time items.items (starts_in x) x.behind) counters
layer_lands x (Statement-F.While n e body) counters store time =
    landing (branch (truth (value_of e store time)) x.first x.behind) counters
layer_lands x (Statement-F.Repeat n signed e body) counters store time =
    turned (turns_for signed (value_of e store time)) x counters
layer_lands x (Statement-F.Forever n body) counters store time = landing x.first counters

abbrev pub statement_lands : Op → Statement → List ℕ → Store → ℕ → Landing
statement_lands x s counters store time = layer_lands x (out-Statement s) counters store time

-- where the step of what an instruction does leads
abbrev pub lands : Op → Task → List ℕ → Store → ℕ → Landing
lands x (t.Perform s) counters store time = statement_lands x s.now counters store time
lands x (t.Turns s) counters store time = turned (get_or counters x.counter 0) x counters

-- what a process still has to do behind a step
abbrev pub todo_after : Next → Todo
todo_after (on todo) = todo
todo_after (after n ticks todo) = todo
todo_after (wait n terms todo) = todo

-- where a step leads that ends so, behind which a process still has this to do
abbrev pub next_of : Halt → Todo → Next
next_of h.Nothing todo = on todo
next_of (h.Delay n ticks) todo = after n ticks.count todo
next_of (h.Wait n terms) todo = wait n terms.now todo

-- the step of a process with this to do first ends so, and leaves the store so
abbrev pub EndsSo : Item → Store → ℕ → Halt → Store → Type 0
EndsSo i store time halt behind =
    (rest : Todo) → let out = step (i ∷ rest) store time in (out.next ≡ next_of halt (todo_after out.next)) × (behind ≡ store_after store out.write)
