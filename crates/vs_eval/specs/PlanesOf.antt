-- Values in two planes.
use Rattle.std.specs.Prelude.{ℕ, List}
use Rattle.vs_design.specs.vs_logic4.specs.declared.digit.Digit.{Digit}
use Rattle.vs_design.specs.vs_logic4.specs.Planes.{digits_of_planes, value_plane, unknown_plane}
use Rattle.vs_eval.specs.declared.node.Planes.{Planes}

-- the planes of a vector
abbrev pub planes_of : List Digit → Planes
planes_of digits = record { value = value_plane digits; unknown = unknown_plane digits }

-- the vector of so many digits that planes hold
abbrev pub digits_of : ℕ → Planes → List Digit
digits_of width p = digits_of_planes width p.value p.unknown
