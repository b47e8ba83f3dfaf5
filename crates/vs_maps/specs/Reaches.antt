-- What walks on a map lead to.
use Rattle.std.specs.Prelude.{ℕ, suc, ◌≡◌, ◌<◌, ◌==◌, ◌&&◌, Bool, true, false, Option, Some, None, List, [], ◌∷◌, length, map, if◌then◌else◌}
use Rattle.vs_design.specs.declared.statement.Statement.{Statement}
use Rattle.vs_design.specs.declared.statement.Statement.TheViews.{out-Statement}
use Rattle.vs_process.specs.Ways.{Pause, none, delay, event}
use Rattle.vs_process.specs.Maps.{statement_pause}
use denote.Ref.{Bor}
use Rattle.vs_process.specs.declared.stops.Stop as k
use Rattle.vs_process.specs.declared.stops.TextMap as h
use Rattle.vs_process.specs.Stops.{LeadsIn, Stop, stop_view, stop_at, stop_statement, stops_tos, stops_next}
use Rattle.vs_graph.specs.Reached.{Reached, AreReached}
use Rattle.vs_rules.specs.Points.{first_alone, surely_turns}
use Rattle.vs_maps.specs.declared.along.Along.{Along}
use Rattle.vs_maps.specs.declared.along.Along.TheVariants.{Any, Plain, ZeroTime}
use Rattle.vs_maps.specs.declared.pauses.Pause as p
use Rattle.vs_maps.specs.declared.pauses.Pause.TheVariants as pauses

-- whether a way counts
abbrev pub passes : Along → Pause → Bool
passes along none = true
passes Any (delay number ticks) = true
passes (Plain by_turn) (delay number ticks) = false
passes (ZeroTime by_turn) (delay number ticks) = ticks == 0
passes Any (event number terms) = true
passes (Plain by_turn) (event number terms) = false
passes (ZeroTime by_turn) (event number terms) = false

-- how all ways from a statement go on; where there is none, through no control
abbrev pub pause_of : Option Statement → Pause
pause_of None = none
pause_of (Some s) = statement_pause (out-Statement s)

abbrev pub statement_passes : Along → Option Statement → Bool
statement_passes along s = passes along (pause_of s)

-- whether of the ways from a turn that is sure the first alone counts
abbrev pub is_turned : Along → Bool
is_turned Any = false
is_turned (Plain by_turn) = by_turn
is_turned (ZeroTime by_turn) = by_turn

-- whether a statement surely has a turn
abbrev pub statement_turns : Option Statement → Bool
statement_turns None = false
statement_turns (Some s) = surely_turns (out-Statement s)

-- all ways, or the first alone
abbrev pub tos_by_turn : Bool → List ℕ → List ℕ
tos_by_turn first tos = if first then first_alone tos else tos

-- where a map leads by the ways that count
abbrev pub stops_along : Along → List Stop → ℕ → List ℕ
stops_along along stops p =
    if statement_passes along (stop_statement (stop_at stops p))
    then tos_by_turn (is_turned along && statement_turns (stop_statement (stop_at stops p))) (stops_tos stops p)
    else []

-- whether the statement of a stop surely has a turn
abbrev pub stop_turns : Stop → Bool
stop_turns s = statement_turns s.statement

-- where it leads by all its ways, and by leaving out what is done at a place
abbrev pub stops_steps : List Stop → ℕ → List ℕ
stops_steps stops p = stops_next stops p ∷ stops_tos stops p

-- how ways go on, as it is told
abbrev pub pause_view : p.Pause → Pause
pause_view pauses.Nothing = none
pause_view (pauses.Delay number ticks) = delay number ticks
pause_view (pauses.Event number terms) = event number terms.now

-- a stop that is there
abbrev pub stop_seen : Option (Bor k.Stop) → Option Stop
stop_seen None = None
stop_seen (Some s) = Some (stop_view s.now)

-- ---- tables

-- a map, and the place where it starts
pub record Chart : Type 0 where
  pub stops : List Stop
  pub start : ℕ

-- of a map as it is kept
abbrev pub chart_of : h.TextMap → Chart
chart_of t = record { stops = map stop_view t.stops.items; start = t.start }

-- how many places it has, the end among them
abbrev pub places : Chart → ℕ
places t = suc (length t.stops)

-- how all ways from a place go on
abbrev pub pause_at : Chart → ℕ → Pause
pause_at t p = pause_of (stop_statement (stop_at t.stops p))

-- a place is a point
abbrev pub IsPlace : Chart → ℕ → Type 0
IsPlace t p = Reached (stops_steps t.stops) (t.start ∷ []) p

-- ways that take no time lead to a place from the start, by wide rules past a turn that is sure by it alone
abbrev pub InSlot0 : Bool → Chart → ℕ → Type 0
InSlot0 wide t p = Reached (stops_along (ZeroTime wide) t.stops) (t.start ∷ []) p

-- ways through no control do
abbrev pub InPrologue : Bool → Chart → ℕ → Type 0
InPrologue wide t p = Reached (stops_along (Plain wide) t.stops) (t.start ∷ []) p

-- marks say which of the places below a number a walk from one of the seeds leads to
pub record Mark (nexts : ℕ → List ℕ) (seeds : List ℕ) (n : ℕ) (marks : List Bool) : Type 0 where
  pub long : length marks ≡ n
  pub exact : AreReached nexts seeds n marks

-- the places that a path from the start leads to, without time and through no control, are marked so
pub record AreEarly (n : ℕ) (t : Chart) (wide : Bool) (slot0 prologue : List Bool) : Type 0 where
  pub slot0_are : Mark (stops_along (ZeroTime wide) t.stops) (t.start ∷ []) n slot0
  pub prologue_are : Mark (stops_along (Plain wide) t.stops) (t.start ∷ []) n prologue

-- the places are as many, lead to each other alone, and the points are marked so; and so are the stops that surely have a turn
pub record AreTables (n : ℕ) (t : Chart) (turns points : List Bool) : Type 0 where
  pub starts_in : t.start < n
  pub leads_in : LeadsIn n t.stops
  pub turns_are : turns ≡ map stop_turns t.stops
  pub points_are : Mark (stops_steps t.stops) (t.start ∷ []) n points
