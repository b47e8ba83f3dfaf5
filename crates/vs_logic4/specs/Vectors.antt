-- Vectors: lists of digits, lowest first (profile: 1 to 64 of them).
use Rattle.std.specs.Prelude.{ℕ, zero, suc, ◌-◌, ◌&&◌, ◌/◌, ◌%◌, Bool, true, false, List, [], ◌∷◌, ◌++◌, length, take, replicate, slice_index_or}
use Rattle.vs_logic4.specs.declared.digit.Digit.{Digit}
use Rattle.vs_logic4.specs.declared.digit.Digit.TheVariants.{Zero, One, X, Z}

-- the digit of a bit of a number
abbrev pub digit_of_bit : ℕ → Digit
digit_of_bit zero = Zero
digit_of_bit (suc _) = One

-- the vector of a width that a number has in base two, wrapped to the width (clause 3.5.1)
abbrev pub of_number : ℕ → ℕ → List Digit
of_number zero n = []
of_number (suc width) n = digit_of_bit (n % 2) ∷ of_number width (n / 2)

-- x in every place (clause 4.1)
abbrev pub all_unknown : ℕ → List Digit
all_unknown width = replicate width X

-- z in every place (clause 4.1)
abbrev pub all_high_impedance : ℕ → List Digit
all_high_impedance width = replicate width Z

-- the highest digit of a vector, its sign where it is signed (clause 3.5.1)
abbrev pub top_digit : List Digit → Digit
top_digit ds = slice_index_or ds (length ds - 1) X

-- the digit that extends a vector on the left: 0 if unsigned, the top digit if signed (clause 5.5.4)
abbrev pub extension_digit : Bool → List Digit → Digit
extension_digit false ds = Zero
extension_digit true ds = top_digit ds

-- a vector at another width: cut on the left, or extended there (clauses 5.5.4 and 5.6)
abbrev pub resized : Bool → ℕ → List Digit → List Digit
resized signed width ds = take width ds ++ replicate (width - length ds) (extension_digit signed ds)

-- two digits are the same: x matches x alone and z matches z alone (clause 5.1.8)
abbrev pub same_digit : Digit → Digit → Bool
same_digit Zero Zero = true
same_digit One One = true
same_digit X X = true
same_digit Z Z = true
same_digit _ _ = false

-- two vectors have the same digits: case equality (clause 5.1.8)
abbrev pub same_digits : List Digit → List Digit → Bool
same_digits [] [] = true
same_digits [] (e ∷ es) = false
same_digits (d ∷ ds) [] = false
same_digits (d ∷ ds) (e ∷ es) = same_digit d e && same_digits ds es
