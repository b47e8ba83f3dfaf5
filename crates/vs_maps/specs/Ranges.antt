-- The ranges that are written, read and shown at a place of a map, and the terms that are waited for there.
use Rattle.std.specs.Prelude.{ℕ, ◌≡◌, Option, Some, None, List, []}
use Rattle.std.specs.List.{Contains}
use Rattle.vs_design.specs.declared.range.BitRange.{BitRange}
use Rattle.vs_design.specs.declared.statement.EventTerm.{EventTerm}
use Rattle.vs_design.specs.declared.statement.Statement.{Statement}
use Rattle.vs_design.specs.declared.statement.Statement.TheOpen.{Statement-F}
use Rattle.vs_design.specs.declared.statement.Statement.TheViews.{out-Statement}
use Rattle.vs_process.specs.Stops.{stop_at, stop_statement}
use Rattle.vs_process.specs.Ways.{Pause, event}
use Rattle.vs_rules.specs.vs_process.specs.Threads.{own_reads, own_shows}
use Rattle.vs_rules.specs.Paths.{statement_now, statement_later}
use Rattle.vs_maps.specs.Reaches.{Chart, IsPlace, pause_at}

-- ranges by the statement that is done next
abbrev pub ranges_of : (Statement-F Statement → List BitRange) → Option Statement → List BitRange
ranges_of layer None = []
ranges_of layer (Some s) = layer (out-Statement s)

-- the statement at a place, where there is one
abbrev pub statement_at : Chart → ℕ → Option Statement
statement_at t p = stop_statement (stop_at t.stops p)

-- what the statement at a place writes by `=`, and by `<=`
abbrev pub now_at : Chart → ℕ → List BitRange
now_at t p = ranges_of statement_now (statement_at t p)

abbrev pub later_at : Chart → ℕ → List BitRange
later_at t p = ranges_of statement_later (statement_at t p)

-- what it reads, indices of targets included; arguments of calls and event terms are none
abbrev pub reads_at : Chart → ℕ → List BitRange
reads_at t p = ranges_of own_reads (statement_at t p)

-- what it shows by `$display`
abbrev pub shows_at : Chart → ℕ → List BitRange
shows_at t p = ranges_of own_shows (statement_at t p)

-- one of some ranges is of the signal
abbrev pub HasSignal : List BitRange → ℕ → Type 0
HasSignal rs v = (r : BitRange) × Contains rs r × (r.signal ≡ v)

-- the terms for one of which a pause waits
abbrev pub pause_terms : Pause → List EventTerm
pause_terms (event number terms) = terms
pause_terms _ = []

-- an event control at a place that is a point has the term
abbrev pub HasTermAt : Chart → EventTerm → Type 0
HasTermAt t term = (p : ℕ) × IsPlace t p × Contains (pause_terms (pause_at t p)) term
