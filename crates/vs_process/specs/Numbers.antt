-- The numbers of the statements at the places of a flat code.
use Rattle.std.specs.Prelude.{ℕ, ◌+◌, ◌==◌, ◌≡◌, Bool, true, false, Option, Some, None, List, [], ◌∷◌}
use Rattle.vs_design.specs.WellFormed.{numbers}
use Rattle.vs_design.specs.declared.statement.Statement.{Statement}
use Rattle.vs_design.specs.declared.statement.Statement.TheOpen.{Statement-F}
use Rattle.vs_design.specs.declared.statement.Statement.TheViews.{out-Statement}
use Rattle.vs_process.specs.Places.{perform, turns, Todo}
use Rattle.vs_process.specs.Links.{Link, Job, performs, tests}

-- the number of a statement in its process's text; a block has none
abbrev pub number_of : Statement-F Statement → Option ℕ
number_of (Statement-F.Null n) = Some n
number_of (Statement-F.Assign n t e) = Some n
number_of (Statement-F.Later n ticks t e) = Some n
number_of (Statement-F.Call n c) = Some n
number_of (Statement-F.Finish n) = Some n
number_of (Statement-F.Block all) = None
number_of (Statement-F.Delay n ticks body) = Some n
number_of (Statement-F.Event n terms body) = Some n
number_of (Statement-F.If n e a b) = Some n
number_of (Statement-F.Case n kind e items) = Some n
number_of (Statement-F.While n e body) = Some n
number_of (Statement-F.Repeat n signed e body) = Some n
number_of (Statement-F.Forever n body) = Some n

-- the number of what is to be done next; a test of a `repeat` that has its count has none
abbrev pub number_next : Todo → Option ℕ
number_next [] = None
number_next (perform s ∷ rest) = number_of (out-Statement s)
number_next (turns n s ∷ rest) = None

-- the number of what is done at a place
abbrev pub number_at : Job → Option ℕ
number_at (performs s) = number_of (out-Statement s)
number_at (tests k s) = None

abbrev pub once_where : Bool → ℕ
once_where true = 1
once_where false = 0

-- how often it is this number: once or not at all
abbrev pub times_here : ℕ → Option ℕ → ℕ
times_here n None = 0
times_here n (Some m) = once_where (m == n)

-- how often a number is in a list
abbrev pub times_in : ℕ → List ℕ → ℕ
times_in n [] = 0
times_in n (m ∷ ms) = times_here n (Some m) + times_in n ms

-- at how many places the statement of a number is done
abbrev pub times_done : ℕ → List Link → ℕ
times_done n [] = 0
times_done n (l ∷ links) = times_here n (number_at l.job) + times_done n links

-- statements of each number are done at as many places as the text has of them
abbrev pub AllPlaced : Statement → List Link → Type 0
AllPlaced s links = (n : ℕ) → times_done n links ≡ times_in n (numbers s)
