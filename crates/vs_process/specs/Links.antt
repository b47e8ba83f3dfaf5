-- The places of the flat code of a process, and what a process at one of them still has to do.
use Rattle.std.specs.Prelude.{ℕ, zero, suc, ◌≤◌, ◌≡◌, Option, Some, None, List, [], ◌∷◌, ◌++◌, get_or, slice_get}
use Rattle.vs_design.specs.declared.statement.Statement.{Statement}
use Rattle.vs_process.specs.Places.{Item, perform, turns, Todo}

-- what is done at a place
pub data Job : Type 0 where
  -- a statement
  performs : Statement → Job
  -- a test of a `repeat` that has its count (clause 9.6): the number of its counter, and the statement
  tests : ℕ → Statement → Job

-- a place: what is done there, and the place behind it
pub record Link : Type 0 where
  pub job : Job
  pub behind : ℕ

-- what is done at a place as something that a process still has to do, with these counters
abbrev pub item_of : List ℕ → Job → Item
item_of counters (performs s) = perform s
item_of counters (tests k s) = turns (get_or counters k 0) s

-- from a place on that may be none: what is done there, and then what is to be done from the place behind it on
abbrev pub todo_from : List ℕ → (ℕ → Todo) → Option Link → Todo
todo_from counters rest None = []
todo_from counters rest (Some l) = item_of counters l.job ∷ rest l.behind

-- what a process still has to do, of which so many things at most; place 0 is the end, and the others are numbered from 1 on
abbrev pub todo_within : ℕ → List Link → List ℕ → ℕ → Todo
todo_within zero links counters place = []
todo_within (suc most) links counters zero = []
todo_within (suc most) links counters (suc i) = todo_from counters (λ p. todo_within most links counters p) (slice_get links i)

-- what a process at a place with these counters still has to do
abbrev pub todo_at : List Link → List ℕ → ℕ → Todo
todo_at links counters place = todo_within place links counters place

-- what is behind a place has a lower number
abbrev pub AreLinked : List Link → Type 0
AreLinked links = (i : ℕ) (l : Link) → slice_get links i ≡ Some l → l.behind ≤ i

-- a place at which this is done, and then what is done at another one
abbrev pub Leads : List Link → Todo → ℕ → ℕ → Type 0
Leads links todo place next = (counters : List ℕ) → todo_at links counters place ≡ todo ++ todo_at links counters next
