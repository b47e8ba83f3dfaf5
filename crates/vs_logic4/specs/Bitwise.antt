-- The bitwise and reduction operators, and what `?:` merges.
use Rattle.std.specs.Prelude.{List, [], ◌∷◌, map}
use Rattle.vs_logic4.specs.declared.digit.Digit.{Digit}
use Rattle.vs_logic4.specs.declared.digit.Digit.TheVariants.{Zero, One}
use Rattle.vs_logic4.specs.Tables.{and_digit, or_digit, xor_digit, xnor_digit, not_digit, merged_digit}

-- an operator on digits at each place of two vectors (clause 5.1.10)
abbrev pub digitwise : (Digit → Digit → Digit) → List Digit → List Digit → List Digit
digitwise f [] es = []
digitwise f (d ∷ ds) [] = []
digitwise f (d ∷ ds) (e ∷ es) = f d e ∷ digitwise f ds es

-- `&` (clause 5.1.10)
abbrev pub bitwise_and : List Digit → List Digit → List Digit
bitwise_and ds es = digitwise and_digit ds es

-- `|` (clause 5.1.10)
abbrev pub bitwise_or : List Digit → List Digit → List Digit
bitwise_or ds es = digitwise or_digit ds es

-- `^` (clause 5.1.10)
abbrev pub bitwise_xor : List Digit → List Digit → List Digit
bitwise_xor ds es = digitwise xor_digit ds es

-- `~^` (clause 5.1.10)
abbrev pub bitwise_xnor : List Digit → List Digit → List Digit
bitwise_xnor ds es = digitwise xnor_digit ds es

-- `~` (clause 5.1.10)
abbrev pub bitwise_not : List Digit → List Digit
bitwise_not ds = map not_digit ds

-- `?:` where the condition is unknown (clause 5.1.13)
abbrev pub merged : List Digit → List Digit → List Digit
merged ds es = digitwise merged_digit ds es

-- an operator between all digits of a vector (clause 5.1.11)
abbrev pub reduced : (Digit → Digit → Digit) → Digit → List Digit → Digit
reduced f unit [] = unit
reduced f unit (d ∷ ds) = f d (reduced f unit ds)

-- `&` of all digits (clause 5.1.11)
abbrev pub reduced_and : List Digit → Digit
reduced_and ds = reduced and_digit One ds

-- `|` of all digits (clause 5.1.11)
abbrev pub reduced_or : List Digit → Digit
reduced_or ds = reduced or_digit Zero ds

-- `^` of all digits (clause 5.1.11)
abbrev pub reduced_xor : List Digit → Digit
reduced_xor ds = reduced xor_digit Zero ds

-- `~&` of all digits (clause 5.1.11)
abbrev pub reduced_nand : List Digit → Digit
reduced_nand ds = not_digit (reduced_and ds)

-- `~|` of all digits (clause 5.1.11)
abbrev pub reduced_nor : List Digit → Digit
reduced_nor ds = not_digit (reduced_or ds)

-- `~^` of all digits (clause 5.1.11)
abbrev pub reduced_xnor : List Digit → Digit
reduced_xnor ds = not_digit (reduced_xor ds)
