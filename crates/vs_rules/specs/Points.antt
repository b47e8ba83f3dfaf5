-- The points of processes and the paths of their texts.
use Rattle.std.specs.Prelude.{ℕ, zero, suc, ◌≡◌, ◌&&◌, Bool, true, false, if◌then◌else◌, List, [], ◌∷◌, get_or}
use Rattle.vs_design.specs.declared.statement.EventTerm.{EventTerm}
use Rattle.vs_design.specs.declared.statement.Statement.{Statement}
use Rattle.vs_design.specs.declared.statement.Statement.TheOpen.{Statement-F}
use Rattle.vs_design.specs.declared.statement.Statement.TheViews.{out-Statement}
use Rattle.vs_design.specs.Parts.{Parts}
use Rattle.vs_design.specs.Uses.{reads, writes_signal}
use Rattle.vs_process.specs.Places.{Item, perform, Todo, ended, todo_of}
use Rattle.vs_process.specs.Steps.{Next, on, after, wait, has_nothing, turns_for}
use Rattle.vs_process.specs.vs_eval.specs.Values.{value_of}
use Rattle.vs_process.specs.Nexts.{nexts}
use Rattle.vs_process.specs.States.{start}

-- ---- paths

-- it is an element of a list
pub data Among {A : Type 0} (x : A) : List A → Type 0 where
  first : (xs : List A) → Among x (x ∷ xs)
  further : (y : A) (xs : List A) → Among x xs → Among x (y ∷ xs)

-- a path of the text goes from a point there in one step
abbrev pub Goes : Todo → Next → Type 0
Goes k next = Among next (nexts k)

-- ---- turns that are sure

-- whether there is a turn
abbrev pub has_turn : ℕ → Bool
has_turn zero = false
has_turn (suc n) = true

-- whether a statement is a `repeat` whose count is a constant above 0 (clause 9.6): it has a turn, whatever the store
abbrev pub surely_turns : Statement-F Statement → Bool
surely_turns (Statement-F.Repeat n signed e body) = has_nothing (reads e) && has_turn (turns_for signed (value_of e [] 0))
surely_turns _ = false

-- whether such a statement stands next
abbrev pub todo_turns : Todo → Bool
todo_turns (perform s ∷ rest) = surely_turns (out-Statement s)
todo_turns _ = false

abbrev pub first_alone : {A : Type 0} → List A → List A
first_alone [] = []
first_alone (x ∷ xs) = x ∷ []

-- where a path can go from a point in one step; in version 3 it passes such a `repeat` by a turn alone
abbrev pub nexts_by : Bool → Todo → List Next
nexts_by wide k = if wide && todo_turns k then first_alone (nexts k) else nexts k

-- ---- starts

-- what a process does first
abbrev pub first_todo : Parts → ℕ → Todo
first_todo d i = todo_of (get_or (start d).places i ended)

-- ---- what a step writes and reads

-- whether the step of a statement can name the signal by `=`
abbrev pub statement_writes : Statement-F Statement → ℕ → Bool
statement_writes (Statement-F.Assign n t e) v = writes_signal t v
statement_writes _ v = false

-- whether it can name the signal by `<=`
abbrev pub statement_updates : Statement-F Statement → ℕ → Bool
statement_updates (Statement-F.Later n ticks t e) v = writes_signal t v
statement_updates _ v = false

abbrev pub todo_writes : Todo → ℕ → Bool
todo_writes (perform s ∷ rest) v = statement_writes (out-Statement s) v
todo_writes _ v = false

abbrev pub todo_updates : Todo → ℕ → Bool
todo_updates (perform s ∷ rest) v = statement_updates (out-Statement s) v
todo_updates _ v = false

-- the next step can write the signal by `=`
abbrev pub WritesNow : Todo → ℕ → Type 0
WritesNow k v = todo_writes k v ≡ true

-- the next step can write the signal by `<=`
abbrev pub WritesLater : Todo → ℕ → Type 0
WritesLater k v = todo_updates k v ≡ true

-- ---- points

-- the points of a process that does this first: what it has to do, but for turns that are left, where a statement of its text stands next, be it
-- that a path leads there or not, as behind a `forever`
pub data Point (first : Todo) : Todo → Type 0 where
  begins : Point first first
  goes_on : (k l : Todo) → Point first k → Goes k (on l) → Point first l
  waits : (k l : Todo) (number ticks : ℕ) → Point first k → Goes k (after number ticks l) → Point first l
  listens : (k l : Todo) (number : ℕ) (terms : List EventTerm) → Point first k → Goes k (wait number terms l) → Point first l
  skips : (i : Item) (rest : Todo) → Point first (i ∷ rest) → Point first rest
