-- Code that is being written, from its end to its start.
use Rattle.std.specs.Prelude.{ℕ, suc, ◌+◌, ◌<◌, ◌≤◌, ◌≡◌, Bool, true, false, Option, Some, List, [], ◌∷◌, ◌++◌, length, slice_get, slice_set}
use Rattle.std.specs.declared.vec.Vec.{Vec}
use Rattle.std.specs.declared.alloc.Global.{Global}
use Rattle.vs_design.specs.declared.expression.Typed.{Typed}
use Rattle.vs_design.specs.declared.statement.Statement.TheOpen.{Statement-F}
use Rattle.vs_design.specs.declared.statement.Statement.{Statement}
use Rattle.vs_design.specs.declared.statement.Statement.TheViews.{out-Statement}
use Rattle.vs_design.specs.WellFormed.{numbers}
use denote.Ref.{Bor}
use Rattle.vs_process.specs.declared.draft.Extra.{Extra}
use Rattle.vs_process.specs.declared.draft.Op.{Op}
use Rattle.vs_process.specs.declared.draft.Task.{Task}
use Rattle.vs_process.specs.declared.draft.Task.TheVariants.{Perform}
use Rattle.vs_process.specs.declared.draft.Draft.{Draft}
use Rattle.vs_process.specs.Places.{Todo, flat}
use Rattle.vs_process.specs.Links.{Link, todo_at, AreLinked, Leads}
use Rattle.vs_process.specs.Numbers.{times_here, times_in, times_done}
use Rattle.vs_process.specs.Codes.{Layout, links_of, layout_of, Fits, FitsStatement, LeadAll, IsTurn}

-- the statements of a row, blocks opened
abbrev pub flat_all : List Statement → Todo
flat_all [] = []
flat_all (s ∷ rest) = flat s ++ flat_all rest

-- the numbers of a row of statements and of those in them, in their order
abbrev pub numbers_all : List Statement → List ℕ
numbers_all [] = []
numbers_all (s ∷ rest) = numbers s ++ numbers_all rest

-- the same of the statements of `case` items
abbrev pub numbers_in : List (Vec Typed Global × Statement) → List ℕ
numbers_in [] = []
numbers_in (i ∷ items) = numbers i.1 ++ numbers_in items

-- the same of the statements in a statement, by its outermost layer
abbrev pub numbers_inside : Statement-F Statement → List ℕ
numbers_inside (Statement-F.Null n) = []
numbers_inside (Statement-F.Assign n t e) = []
numbers_inside (Statement-F.Later n ticks t e) = []
numbers_inside (Statement-F.Call n c) = []
numbers_inside (Statement-F.Finish n) = []
numbers_inside (Statement-F.Block all) = numbers_all all.items
numbers_inside (Statement-F.Delay n ticks body) = numbers body.value
numbers_inside (Statement-F.Event n terms body) = numbers body.value
numbers_inside (Statement-F.If n e a b) = numbers a.value ++ numbers b.value
numbers_inside (Statement-F.Case n kind e items) = numbers_in items.items
numbers_inside (Statement-F.While n e body) = numbers body.value
numbers_inside (Statement-F.Repeat n signed e body) = numbers body.value
numbers_inside (Statement-F.Forever n body) = numbers body.value

abbrev pub drafted : Draft → Layout
drafted d = layout_of d.ops.items d.counters

-- code that has all the places and counters of another one
pub record Grows (old new : Layout) : Type 0 where
  pub links : (i : ℕ) (l : Link) → slice_get old.links i ≡ Some l → slice_get new.links i ≡ Some l
  pub counters : old.counters ≤ new.counters

-- this holds however the code goes on
abbrev pub Always : Layout → (Layout → Type 0) → Type 0
Always c P = (later : Layout) → AreLinked later.links → Grows c later → P later

-- what is done from a place on reads no counter from this number on
abbrev pub IsFree : Layout → ℕ → ℕ → Type 0
IsFree c depth place =
    (counters : List ℕ) (k left : ℕ) → depth ≤ k → todo_at c.links (slice_set counters k left) place ≡ todo_at c.links counters place

-- however the code goes on, this is done from a place on, and then what is done at another one
abbrev pub AlwaysLeads : Layout → Todo → ℕ → ℕ → Type 0
AlwaysLeads c todo place next = Always c (λ later. Leads later.links todo place next)

abbrev pub AlwaysFree : Layout → ℕ → ℕ → Type 0
AlwaysFree c depth place = Always c (λ later. IsFree later depth place)

-- a draft that another one goes on: what stood there stands there still
pub record IsLonger (old new : Draft) : Type 0 where
  pub grows : Grows (drafted old) (drafted new)
  pub longer : length old.ops.items ≤ length new.ops.items
  pub kept : (i : ℕ) → i < length old.ops.items → slice_get new.ops.items i ≡ slice_get old.ops.items i
  pub linked : AreLinked (links_of new.ops.items)

-- the same, with instructions that go on where what they do goes on
pub record Written (old new : Draft) : Type 0 where
  pub more : IsLonger old new
  pub fits : (i : ℕ) (x : Op) → length old.ops.items ≤ i → slice_get new.ops.items i ≡ Some x →
      Always (drafted new) (λ later. Fits later x (suc i))

-- where code may be put: what is behind it stands, and reads no counter from this number on
pub record IsReady (d : Draft) (next depth : ℕ) : Type 0 where
  pub linked : AreLinked (links_of d.ops.items)
  pub within : next ≤ length d.ops.items
  pub deep : depth ≤ length d.ops.items
  pub free : AlwaysFree (drafted d) depth next

-- this has been written in front of what is done at a place
pub record IsEmitted (old new : Draft) (todo : Todo) (next place : ℕ) : Type 0 where
  pub written : Written old new
  pub within : place ≤ length new.ops.items
  pub leads : AlwaysLeads (drafted new) todo place next

-- however the code goes on, the statements of these `case` items are done from these places on
abbrev pub AlwaysLeadAll : Layout → List (Vec Typed Global × Statement) → List ℕ → ℕ → Type 0
AlwaysLeadAll c items starts next = Always c (λ later. LeadAll later.links items starts next)

-- however the code goes on, this is a turn of a `repeat`
abbrev pub AlwaysTurn : Layout → ℕ → Statement → ℕ → ℕ → Type 0
AlwaysTurn c counter s first behind = Always c (λ later. IsTurn later counter s first behind)

-- whether a statement is a block
abbrev pub is_block : {A : Type 0} → Statement-F A → Bool
is_block (Statement-F.Block all) = true
is_block _ = false

-- the instruction of a statement
abbrev pub op_of : Bor Statement → ℕ → ℕ → ℕ → ℕ → Extra → Op
op_of s behind first second counter extra =
    record { task = Perform s; behind = behind; first = first; second = second; counter = counter; extra = extra }

-- an instruction put next does this statement, and goes on where it must
pub record IsNext (d : Draft) (x : Op) (s : Statement) : Type 0 where
  pub single : is_block (out-Statement s) ≡ false
  pub fits : Always (drafted d) (λ later. FitsStatement later x (suc (length d.ops.items)) s (out-Statement s))

-- a statement that stands behind the one in it again
pub record IsLoop (s body : Statement) : Type 0 where
  pub single : is_block (out-Statement s) ≡ false
  pub fits : (c : Layout) (x : Op) (here : ℕ) → Leads c.links (flat body) x.first here → FitsStatement c x here s (out-Statement s)
  pub inside : numbers_inside (out-Statement s) ≡ numbers body

-- an instruction has been put that goes on nowhere yet, at this place
pub record IsHead (old new : Draft) (task : Task) (next depth place : ℕ) : Type 0 where
  pub more : IsLonger old new
  pub counters : new.counters ≡ old.counters
  pub here : place ≡ suc (length old.ops.items)
  pub last : length new.ops.items ≡ suc (length old.ops.items)
  pub op : Op
  pub is : slice_get new.ops.items (length old.ops.items) ≡ Some op
  pub does : op.task ≡ task
  pub behind : op.behind ≡ next
  pub counter : op.counter ≡ depth

-- a draft has a place more for the statement of this number, where there is one, and no other
abbrev pub AddsOne : Draft → Draft → Option ℕ → Type 0
AddsOne old new number = (n : ℕ) → times_done n (links_of new.ops.items) ≡ times_here n number + times_done n (links_of old.ops.items)

-- a draft has a place more for each statement of these numbers, and no other
abbrev pub Adds : Draft → Draft → List ℕ → Type 0
Adds old new ns = (n : ℕ) → times_done n (links_of new.ops.items) ≡ times_in n ns + times_done n (links_of old.ops.items)
