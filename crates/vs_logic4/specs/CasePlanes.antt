-- Where the digits of a vector count as equal to every other one, by its planes.
use Rattle.std.specs.Prelude.{ℕ, bit_and}
use Rattle.std.specs.Int.{bit_not, w64}
use Rattle.vs_logic4.specs.declared.case.CaseKind.{CaseKind}
use Rattle.vs_logic4.specs.declared.case.CaseKind.TheVariants.{Case, Casez, Casex}

-- the places of the digits that count as equal to every other one, from a value plane and an unknown plane (clause 9.5.1)
abbrev pub wild_plane : CaseKind → ℕ → ℕ → ℕ
wild_plane Case value unknown = 0
wild_plane Casez value unknown = bit_and unknown (bit_not w64 value)
wild_plane Casex value unknown = unknown
