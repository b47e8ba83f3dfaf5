-- The edges that roots have where event terms' edges come, by a table.
use Rattle.std.specs.Prelude.{Bool, false, List, get_or, if◌then◌else◌}
use Rattle.vs_design.specs.vs_logic4.specs.declared.edge.Edge.{Edge}
use Rattle.vs_design.specs.declared.statement.EventTerm.{EventTerm}
use Rattle.vs_maps.specs.vs_rules.specs.Copies.{opposite}

-- that of the root of a term's signal, by which signals show a variable inverted
abbrev pub seen_by : List Bool → EventTerm → Edge
seen_by inverted t = if get_or inverted t.range.signal false then opposite t.edge else t.edge
