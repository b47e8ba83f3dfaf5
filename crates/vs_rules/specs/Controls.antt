-- The delay controls of a text, and the list that a certificate has for each.
use Rattle.std.specs.Prelude.{ℕ, ◌==◌, Option, Some, None, List, [], ◌∷◌, ◌++◌, map, slice_get, if◌then◌else◌}
use Rattle.std.specs.declared.vec.Vec.{Vec}
use Rattle.std.specs.declared.alloc.Global.{Global}
use Rattle.vs_design.specs.declared.expression.Typed.{Typed}
use Rattle.vs_design.specs.declared.design.Process.{Process}
use Rattle.vs_design.specs.declared.statement.Statement.{Statement}
use Rattle.vs_design.specs.declared.statement.Statement.TheOpen.{Statement-F}
use Rattle.vs_design.specs.declared.statement.Statement.TheOpen as f
use Rattle.vs_design.specs.declared.statement.Statement.TheFolds.{fold-Statement}
use Rattle.vs_design.specs.Parts.{Parts}
use Rattle.vs_design.specs.Uses.{joined}

-- one layer of a statement: the numbers of its delay controls, with those of each inner statement in its place; the delay of a nonblocking
-- assignment is none
abbrev pub controls_step : Statement-F (List ℕ) → List ℕ
controls_step (f.Null n) = []
controls_step (f.Assign n t e) = []
controls_step (f.Later n ticks t e) = []
controls_step (f.Call n c) = []
controls_step (f.Finish n) = []
controls_step (f.Block all) = joined all.items
controls_step (f.Delay n ticks body) = n ∷ body.value
controls_step (f.Event n terms body) = body.value
controls_step (f.If n e a b) = a.value ++ b.value
controls_step (f.Case n kind x items) = joined (map (λ (i : Vec Typed Global × List ℕ). i.1) items.items)
controls_step (f.While n e body) = body.value
controls_step (f.Repeat n signed e body) = body.value
controls_step (f.Forever n body) = body.value

-- the numbers of the delay controls of a text, in its order
abbrev pub controls_in : Statement → List ℕ
controls_in = fold-Statement (List ℕ) controls_step

abbrev pub controls_at : Option Process → List ℕ
controls_at None = []
controls_at (Some p) = controls_in p.body

-- those of a process, by its number
abbrev pub controls_of : Parts → ℕ → List ℕ
controls_of d i = controls_at (slice_get d.processes i)

-- the list of a control, by its number: lists stand in the order of the controls
abbrev pub list_of : List ℕ → List (List ℕ) → ℕ → List ℕ
list_of [] lists number = []
list_of (n ∷ ns) [] number = []
list_of (n ∷ ns) (l ∷ lists) number = if n == number then l else list_of ns lists number
