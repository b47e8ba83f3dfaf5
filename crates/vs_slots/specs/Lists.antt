-- Lists by numbers.
use Rattle.std.specs.Prelude.{ℕ, List}
use Rattle.std.specs.List.{Contains}
use Rattle.vs_graph.specs.Rows.{row}

-- it is in the list of one of some numbers
abbrev pub IsOneOf : List (List ℕ) → List ℕ → ℕ → Type 0
IsOneOf table numbers r = (i : ℕ) × Contains numbers i × Contains (row table i) r
