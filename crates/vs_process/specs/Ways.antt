-- The places of a flat code as the points of a text: the ways from one to the next.
use Rattle.std.specs.Prelude.{ℕ, zero, suc, ◌≡◌, Bool, true, false, Option, Some, None, List, [], ◌∷◌, ◌++◌, map, slice_get}
use Rattle.std.specs.List.{list_any}
use Rattle.vs_design.specs.WellFormed.{numbers, counts_from}
use Rattle.vs_design.specs.declared.statement.EventTerm.{EventTerm}
use Rattle.vs_design.specs.declared.statement.Statement.{Statement}
use Rattle.vs_design.specs.declared.statement.Statement.TheOpen.{Statement-F}
use Rattle.vs_design.specs.declared.statement.Statement.TheViews.{out-Statement}
use Rattle.vs_process.specs.declared.draft.Op.{Op}
use Rattle.vs_process.specs.declared.draft.Task.{Task}
use Rattle.vs_process.specs.declared.draft.Task.TheVariants as t
use Rattle.vs_process.specs.Extras.{starts_in}
use Rattle.vs_process.specs.Places.{Todo, flat}
use Rattle.vs_process.specs.Steps.{Next, on, after, wait, is_default}
use Rattle.vs_process.specs.Nexts.{erased, nexts}
use Rattle.vs_process.specs.Links.{Link, todo_at}
use Rattle.vs_process.specs.Numbers.{number_next}
use Rattle.vs_process.specs.Codes.{links_of, IsCodeOf}

-- how a way goes on
pub data Pause : Type 0 where
  -- at once
  none : Pause
  -- through the delay control of this number, with so many ticks
  delay : ℕ → ℕ → Pause
  -- through the event control of this number, with these terms
  event : ℕ → List EventTerm → Pause

-- a way on: the place that it leads to, and how
pub record Way : Type 0 where
  pub to : ℕ
  pub pause : Pause

-- the way to a place at once
abbrev pub way_on : ℕ → Way
way_on place = record { to = place; pause = none }

-- past a `case` to what is behind it, where none of its items is a `default` (clause 9.5)
abbrev pub past_ways : Bool → ℕ → List Way
past_ways true behind = []
past_ways false behind = way_on behind ∷ []

-- the ways from the instruction of a statement
abbrev pub statement_ways : Op → Statement-F Statement → List Way
statement_ways x (Statement-F.Null n) = way_on x.behind ∷ []
statement_ways x (Statement-F.Assign n t e) = way_on x.behind ∷ []
statement_ways x (Statement-F.Later n ticks t e) = way_on x.behind ∷ []
statement_ways x (Statement-F.Call n c) = way_on x.behind ∷ []
statement_ways x (Statement-F.Finish n) = way_on x.behind ∷ []
statement_ways x (Statement-F.Block all) = way_on x.first ∷ []
statement_ways x (Statement-F.Delay n ticks body) = record { to = x.first; pause = delay n ticks.count } ∷ []
statement_ways x (Statement-F.Event n terms body) = record { to = x.first; pause = event n terms.items } ∷ []
statement_ways x (Statement-F.If n e a b) = way_on x.first ∷ way_on x.second ∷ []
statement_ways x (Statement-F.Case n kind e items) = map way_on (starts_in x) ++ past_ways (list_any is_default items.items) x.behind
statement_ways x (Statement-F.While n e body) = way_on x.first ∷ way_on x.behind ∷ []
statement_ways x (Statement-F.Repeat n signed e body) = way_on x.first ∷ way_on x.behind ∷ []
statement_ways x (Statement-F.Forever n body) = way_on x.first ∷ []

-- the ways from an instruction, by what it does
abbrev pub task_ways : Op → Task → List Way
task_ways x (t.Perform s) = statement_ways x (out-Statement s.now)
task_ways x (t.Turns s) = way_on x.first ∷ way_on x.behind ∷ []

-- the ways from an instruction, where there is one
abbrev pub op_ways : Option Op → List Way
op_ways None = way_on 0 ∷ []
op_ways (Some x) = task_ways x x.task

-- the ways from a place of a code; from the end it goes no further
abbrev pub ways : List Op → ℕ → List Way
ways ops zero = way_on 0 ∷ []
ways ops (suc i) = op_ways (slice_get ops i)

-- the point at a place: what is to be done there, but for turns that are left, since no counter is set
abbrev pub point_at : List Link → ℕ → Todo
point_at links place = todo_at links [] place

-- what is to be done at the end of a way, and how it goes there
abbrev pub next_by : Pause → Todo → Next
next_by none todo = on todo
next_by (delay number ticks) todo = after number ticks todo
next_by (event number terms) todo = wait number terms todo

-- where a way leads
abbrev pub next_at : List Link → Way → Next
next_at links w = next_by w.pause (point_at links w.to)

-- the places of the code of a statement are points of its text, and the ways from each are the paths of the text from there
pub record HasWays (s : Statement) (ops : List Op) (start : ℕ) : Type 0 where
  pub starts : point_at (links_of ops) start ≡ flat s
  pub points : (counters : List ℕ) (place : ℕ) → erased (todo_at (links_of ops) counters place) ≡ point_at (links_of ops) place
  pub ways : (place : ℕ) → nexts (point_at (links_of ops) place) ≡ map (next_at (links_of ops)) (ways ops place)

abbrev pub WaysAre : Type 0
WaysAre = (s : Statement) (ops : List Op) (counters start : ℕ) → IsCodeOf s ops counters start → HasWays s ops start

-- where the numbers of a text count up, two places where statements are done and that are one point of the text are one place
abbrev pub OnePlace : Type 0
OnePlace = (s : Statement) (ops : List Op) (counters start : ℕ) → IsCodeOf s ops counters start → counts_from 0 (numbers s) ≡ true →
    (p q n : ℕ) → number_next (point_at (links_of ops) p) ≡ Some n → point_at (links_of ops) p ≡ point_at (links_of ops) q → p ≡ q
