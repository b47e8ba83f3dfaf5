-- The map of a flat code.
use Rattle.std.specs.Prelude.{ℕ, zero, suc, ◌≡◌, ◌<◌, Option, Some, None, List, [], ◌∷◌, map, length, slice_get, nat_le, if◌then◌else◌}
use Rattle.std.specs.List.{Contains}
use Rattle.vs_design.specs.declared.statement.Statement.{Statement}
use Rattle.vs_process.specs.declared.draft.Op.{Op}
use Rattle.vs_process.specs.declared.draft.Task.{Task}
use Rattle.vs_process.specs.declared.draft.Task.TheVariants as t
use Rattle.vs_process.specs.Places.{perform, Todo, flat}
use Rattle.vs_process.specs.Ways.{Way, ways, task_ways}
use denote.Ref.{Bor}
use Rattle.vs_process.specs.declared.stops.Stop as k
use Rattle.vs_process.specs.Maps.{IsMap}

-- a place of a code, or its end where there is none
abbrev pub inside : ℕ → ℕ → ℕ
inside n place = if nat_le place n then place else 0

abbrev pub tos_in : ℕ → List Way → List ℕ
tos_in n ws = map (λ (w : Way). inside n w.to) ws

abbrev pub code_tos : List Op → ℕ → List ℕ
code_tos ops place = tos_in (length ops) (ways ops place)

abbrev pub op_next : Option Op → ℕ
op_next None = 0
op_next (Some x) = x.behind

abbrev pub code_next : List Op → ℕ → ℕ
code_next ops zero = 0
code_next ops (suc i) = op_next (slice_get ops i)

-- ---- the map as data

-- a place of a map: the statement that is done there, where there is one, the place of what is left to be done without it, and the places where it
-- leads
pub record Stop : Type 0 where
  pub statement : Option Statement
  pub behind : ℕ
  pub tos : List ℕ

abbrev pub stop_next : Option Stop → ℕ
stop_next None = 0
stop_next (Some s) = s.behind

abbrev pub stop_tos : Option Stop → List ℕ
stop_tos None = 0 ∷ []
stop_tos (Some s) = s.tos

abbrev pub stop_statement : Option Stop → Option Statement
stop_statement None = None
stop_statement (Some s) = s.statement

-- the stop at a place: place 0 is the end, and the others are numbered from 1 on
abbrev pub stop_at : List Stop → ℕ → Option Stop
stop_at stops zero = None
stop_at stops (suc i) = slice_get stops i

abbrev pub stops_next : List Stop → ℕ → ℕ
stops_next stops place = stop_next (stop_at stops place)

abbrev pub stops_tos : List Stop → ℕ → List ℕ
stops_tos stops place = stop_tos (stop_at stops place)

-- the statement that is to be done next
abbrev pub next_statement : Todo → Option Statement
next_statement (perform s ∷ rest) = Some s
next_statement _ = None

-- places lead to places below a number alone
pub record LeadsIn (n : ℕ) (stops : List Stop) : Type 0 where
  pub ways : (p q : ℕ) → Contains (stops_tos stops p) q → q < n
  pub behind : (p : ℕ) → stops_next stops p < n

-- a map of the text of a process as data
pub record IsText (body : Statement) (stops : List Stop) (start : ℕ) : Type 0 where
  pub at : ℕ → Todo
  pub is_map : IsMap (flat body) at start (stops_next stops) (stops_tos stops)
  pub says : (p : ℕ) → next_statement (at p) ≡ stop_statement (stop_at stops p)
  pub starts_in : start < suc (length stops)
  pub leads_in : LeadsIn (suc (length stops)) stops

-- ---- of a code

abbrev pub task_statement : Task → Option Statement
task_statement (t.Perform s) = Some s.now
task_statement (t.Turns s) = None

-- the stop of an instruction, of so many
abbrev pub stop_of : ℕ → Op → Stop
stop_of n x = record { statement = task_statement x.task; behind = x.behind; tos = tos_in n (task_ways x x.task) }

-- the stops of a code
abbrev pub code_stops : List Op → List Stop
code_stops ops = map (stop_of (length ops)) ops

-- a stop of a map as it is kept
abbrev pub statement_view : Option (Bor Statement) → Option Statement
statement_view None = None
statement_view (Some s) = Some s.now

abbrev pub stop_view : k.Stop → Stop
stop_view s = record { statement = statement_view s.statement; behind = s.behind; tos = s.tos.items }
