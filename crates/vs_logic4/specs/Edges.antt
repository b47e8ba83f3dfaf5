-- Edges of a digit (clause 9.7.2).
use Rattle.std.specs.Prelude.{Bool, true, false, not}
use Rattle.vs_logic4.specs.declared.digit.Digit.{Digit}
use Rattle.vs_logic4.specs.declared.digit.Digit.TheVariants.{Zero, One, X, Z}
use Rattle.vs_logic4.specs.declared.edge.Edge.{Edge}
use Rattle.vs_logic4.specs.declared.edge.Edge.TheVariants.{Any, Posedge, Negedge}
use Rattle.vs_logic4.specs.Vectors.{same_digit}

-- whether a change from the first digit to the second is an edge of this kind (clause 9.7.2, table 9-1)
abbrev pub is_edge : Edge → Digit → Digit → Bool
is_edge Any before behind = not (same_digit before behind)
is_edge Posedge Zero One = true
is_edge Posedge Zero X = true
is_edge Posedge Zero Z = true
is_edge Posedge X One = true
is_edge Posedge Z One = true
is_edge Posedge _ _ = false
is_edge Negedge One Zero = true
is_edge Negedge One X = true
is_edge Negedge One Z = true
is_edge Negedge X Zero = true
is_edge Negedge Z Zero = true
is_edge Negedge _ _ = false
