-- What an index chooses.
use Rattle.std.specs.Prelude.{ℕ, suc, ℤ, pos, negsuc, ◌-ℤ◌, Bool, true, false, Option, Some, None, List, option_map, nat_lt, if◌then◌else◌}
use Rattle.vs_logic4.specs.declared.digit.Digit.{Digit}
use Rattle.vs_logic4.specs.Arithmetic.{known_number, known_signed_number}
use Rattle.vs_design.specs.declared.expression.Axis.{Axis}

-- the number of an index by its own size and sign, where no digit is x or z
abbrev pub index_number : Bool → List Digit → Option ℤ
index_number true digits = known_signed_number digits
index_number false digits = option_map (λ n. pos n) (known_number digits)

-- the number of the lowest chosen element for an index of this number (clauses 4.3.1 and 5.2.1)
abbrev pub lowest : Axis → ℤ → ℤ
lowest a n = (if a.ascending then a.right -ℤ n else n -ℤ a.right) -ℤ pos a.below

-- a number of the lowest of so many elements, where one of them is in range; otherwise the first number past the end
abbrev pub in_reach : ℕ → ℕ → ℤ → ℤ
in_reach length width (pos n) = if nat_lt n length then pos n else pos length
in_reach length width (negsuc n) = if nat_lt (suc n) width then negsuc n else pos length

-- the same of an index that may have no number
abbrev pub reached : Axis → ℕ → Option ℤ → ℤ
reached a width None = pos a.length
reached a width (Some n) = in_reach a.length width (lowest a n)

-- the number of the lowest of so many elements that an index chooses; past the end where none is in range or a digit of the index is x or z (clause 5.2.1)
abbrev pub place_of : Axis → ℕ → List Digit → ℤ
place_of a width digits = reached a width (index_number a.signed digits)

-- a number that isn't negative
abbrev pub from_zero : ℤ → ℕ
from_zero (pos n) = n
from_zero (negsuc n) = 0

-- the number of the word that an index chooses
abbrev pub word_place : Axis → List Digit → ℕ
word_place a digits = from_zero (place_of a 1 digits)
