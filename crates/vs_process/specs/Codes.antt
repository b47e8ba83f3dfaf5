-- The flat code of a process: where each of its statements goes on.
use Rattle.std.specs.Prelude.{ℕ, suc, ◌<◌, ◌≡◌, Option, Some, List, [], ◌∷◌, ◌++◌, map, length, slice_get, slice_set}
use Rattle.std.specs.declared.vec.Vec.{Vec}
use Rattle.std.specs.declared.alloc.Global.{Global}
use Rattle.vs_design.specs.declared.expression.Typed.{Typed}
use Rattle.vs_design.specs.declared.statement.Statement.{Statement}
use Rattle.vs_design.specs.declared.statement.Statement.TheOpen.{Statement-F}
use Rattle.vs_design.specs.declared.statement.Statement.TheViews.{out-Statement}
use Rattle.vs_strobe.specs.Lines.{Format, format_of_call}
use Rattle.vs_process.specs.declared.draft.Op.{Op}
use Rattle.vs_process.specs.declared.draft.Task.{Task}
use Rattle.vs_process.specs.declared.draft.Task.TheVariants as t
use Rattle.vs_process.specs.Extras.{format_in, starts_in}
use Rattle.vs_process.specs.Places.{Todo, turns, flat}
use Rattle.vs_process.specs.Links.{Job, performs, tests, Link, todo_at, AreLinked, Leads}
use Rattle.vs_process.specs.Numbers.{AllPlaced}

-- what an instruction does, where its `repeat` has this counter
abbrev pub job_of : ℕ → Task → Job
job_of counter (t.Perform s) = performs s.now
job_of counter (t.Turns s) = tests counter s.now

-- the place of an instruction
abbrev pub link_of : Op → Link
link_of x = record { job = job_of x.counter x.task; behind = x.behind }

-- the places of a code
abbrev pub links_of : List Op → List Link
links_of ops = map link_of ops

-- what a process at a place of a code, with these counters, still has to do
abbrev pub todo_in : List Op → List ℕ → ℕ → Todo
todo_in ops counters place = todo_at (links_of ops) counters place

-- the places of a code, and how many counters it has
pub record Layout : Type 0 where
  pub links : List Link
  pub counters : ℕ

-- from a place on, with a counter set, a statement is done, then the `repeat` with so many turns left, then what is behind the `repeat`
pub record IsTurn (c : Layout) (counter : ℕ) (s : Statement) (first behind : ℕ) : Type 0 where
  pub below : counter < c.counters
  pub leads : (counters : List ℕ) (left : ℕ) → counter < length counters →
      todo_at c.links (slice_set counters counter left) first ≡ flat s ++ turns left s ∷ todo_at c.links counters behind

-- from each of these places on the statement of its `case` item is done
abbrev pub LeadAll : List Link → List (Vec Typed Global × Statement) → List ℕ → ℕ → Type 0
LeadAll links [] [] behind = Unit {0}
LeadAll links (i ∷ items) (p ∷ starts) behind = Leads links (flat i.1) p behind × LeadAll links items starts behind
LeadAll links _ _ behind = ⊥

-- an instruction goes on where its statement does, standing at this place; that of a call has its format
abbrev pub FitsStatement : Layout → Op → ℕ → Statement → Statement-F Statement → Type 0
FitsStatement c x here s (Statement-F.Null n) = Unit {0}
FitsStatement c x here s (Statement-F.Assign n t e) = Unit {0}
FitsStatement c x here s (Statement-F.Later n ticks t e) = Unit {0}
FitsStatement c x here s (Statement-F.Call n call) = format_in x ≡ Some (format_of_call call)
FitsStatement c x here s (Statement-F.Finish n) = Unit {0}
FitsStatement c x here s (Statement-F.Block all) = Leads c.links (flat s) x.first x.behind
FitsStatement c x here s (Statement-F.Delay n ticks body) = Leads c.links (flat body.value) x.first x.behind
FitsStatement c x here s (Statement-F.Event n terms body) = Leads c.links (flat body.value) x.first x.behind
FitsStatement c x here s (Statement-F.If n e a b) =
    Leads c.links (flat a.value) x.first x.behind × Leads c.links (flat b.value) x.second x.behind
FitsStatement c x here s (Statement-F.Case n kind e items) = LeadAll c.links items.items (starts_in x) x.behind
FitsStatement c x here s (Statement-F.While n e body) = Leads c.links (flat body.value) x.first here
FitsStatement c x here s (Statement-F.Repeat n signed e body) = IsTurn c x.counter body.value x.first x.behind
FitsStatement c x here s (Statement-F.Forever n body) = Leads c.links (flat body.value) x.first here

-- the same of what an instruction does
abbrev pub FitsTask : Layout → Op → ℕ → Task → Type 0
FitsTask c x here (t.Perform s) = FitsStatement c x here s.now (out-Statement s.now)
FitsTask c x here (t.Turns s) = IsTurn c x.counter s.now x.first x.behind

-- an instruction goes on where what it does goes on
abbrev pub Fits : Layout → Op → ℕ → Type 0
Fits c x here = FitsTask c x here x.task

abbrev pub layout_of : List Op → ℕ → Layout
layout_of ops counters = record { links = links_of ops; counters = counters }

-- the instructions of a code go on where what they do goes on
pub record IsCode (ops : List Op) (counters : ℕ) : Type 0 where
  pub linked : AreLinked (links_of ops)
  pub fits : (i : ℕ) (x : Op) → slice_get ops i ≡ Some x → Fits (layout_of ops counters) x (suc i)

-- the code of a statement, which starts at a place, and has each statement of it as often as the text has
pub record IsCodeOf (s : Statement) (ops : List Op) (counters start : ℕ) : Type 0 where
  pub code : IsCode ops counters
  pub starts : Leads (links_of ops) (flat s) start 0
  pub stand : AllPlaced s (links_of ops)

-- an instruction stands at a place
abbrev pub IsOpAt : List Op → ℕ → Op → Type 0
IsOpAt ops place x = (i : ℕ) × (place ≡ suc i) × (slice_get ops i ≡ Some x)

-- at a place nothing is left to do
abbrev pub IsEnd : List Op → ℕ → Type 0
IsEnd ops place = (counters : List ℕ) → todo_at (links_of ops) counters place ≡ []

-- a format is that of a statement, where this is a call
abbrev pub IsFormatOf : Option Format → Statement-F Statement → Type 0
IsFormatOf format (Statement-F.Call n call) = format ≡ Some (format_of_call call)
IsFormatOf format _ = Unit {0}

-- the same of what an instruction does
abbrev pub IsFormatFor : Option Format → Task → Type 0
IsFormatFor format (t.Perform s) = IsFormatOf format (out-Statement s.now)
IsFormatFor format (t.Turns s) = Unit {0}
