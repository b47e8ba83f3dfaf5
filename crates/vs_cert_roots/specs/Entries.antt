-- The entries for the signals of edge terms, and edges.
use Rattle.std.specs.Prelude.{ℕ, ◌≡◌, ◌&&◌, not, Bool}
use Rattle.vs_design.specs.vs_logic4.specs.declared.digit.Digit.{Digit}
use Rattle.vs_design.specs.vs_logic4.specs.declared.digit.Digit.TheVariants.{X}
use Rattle.vs_design.specs.vs_logic4.specs.declared.edge.Edge.{Edge}
use Rattle.vs_design.specs.vs_logic4.specs.Edges.{is_edge}
use Rattle.vs_design.specs.Parts.{Parts}
use Rattle.vs_process.specs.Executions.{is_any}
use Rattle.vs_rules.specs.Claims.{Name, Claims, IsSignalNamed, edge_signals, times_in}
use Rattle.vs_rules.specs.Rules.{IsEdgeSignal}

-- an edge, and not any change
abbrev pub is_proper : Edge → Bool
is_proper edge = not (is_any edge)

-- an edge that a change from x to the digit is
abbrev pub is_from_x : Digit → Edge → Bool
is_from_x digit edge = not (is_any edge) && is_edge edge X digit

-- a signal has one entry where an edge term names it, else none
pub record HasEntries (d : Parts) (c : Claims) (v : ℕ) : Type 0 where
  pub one : (name : Name) → IsSignalNamed d v name → IsEdgeSignal d v → times_in name (edge_signals c) ≡ 1
  pub none : (name : Name) → IsSignalNamed d v name → (IsEdgeSignal d v → ⊥) → times_in name (edge_signals c) ≡ 0
