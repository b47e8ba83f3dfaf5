-- How two planes of bits hold a vector.
use Rattle.std.specs.Prelude.{ℕ, zero, suc, ◌+◌, ◌*◌, ◌/◌, ◌%◌, ◌^◌, ◌<◌, ◌≤◌, List, [], ◌∷◌}
use Rattle.vs_logic4.specs.declared.digit.Digit.{Digit}
use Rattle.vs_logic4.specs.declared.digit.Digit.TheVariants.{Zero, One, X, Z}

-- the digit of a bit of the value plane and a bit of the unknown plane (the coding of clause 27.14: `aval` and `bval`)
abbrev pub digit_of_bits : ℕ → ℕ → Digit
digit_of_bits zero zero = Zero
digit_of_bits (suc _) zero = One
digit_of_bits zero (suc _) = Z
digit_of_bits (suc _) (suc _) = X

-- the first digits, lowest first, of a value plane and an unknown plane
abbrev pub digits_of_planes : ℕ → ℕ → ℕ → List Digit
digits_of_planes zero value unknown = []
digits_of_planes (suc width) value unknown =
    digit_of_bits (value % 2) (unknown % 2) ∷ digits_of_planes width (value / 2) (unknown / 2)

-- the bit of a digit in the value plane
abbrev pub value_bit : Digit → ℕ
value_bit Zero = 0
value_bit One = 1
value_bit X = 1
value_bit Z = 0

-- the bit of a digit in the unknown plane
abbrev pub unknown_bit : Digit → ℕ
unknown_bit Zero = 0
unknown_bit One = 0
unknown_bit X = 1
unknown_bit Z = 1

-- the value plane of a vector
abbrev pub value_plane : List Digit → ℕ
value_plane [] = 0
value_plane (d ∷ ds) = value_bit d + 2 * value_plane ds

-- the unknown plane of a vector
abbrev pub unknown_plane : List Digit → ℕ
unknown_plane [] = 0
unknown_plane (d ∷ ds) = unknown_bit d + 2 * unknown_plane ds

-- planes of a vector of 1 to 64 digits: zero above the width
pub record ArePlanes (width value unknown : ℕ) : Type 0 where
  pub some : 0 < width
  pub most : width ≤ 64
  pub value_below : value < 2 ^ width
  pub unknown_below : unknown < 2 ^ width
