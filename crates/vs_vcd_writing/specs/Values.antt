-- Values in a value change dump.
use Rattle.std.specs.Prelude.{ℕ, Bool, true, false, unwrap_or, List, [], ◌∷◌, ◌++◌, codes, map, reverse, if◌then◌else◌}
use Rattle.vs_design.specs.vs_logic4.specs.declared.digit.Digit.{Digit}
use Rattle.vs_design.specs.vs_logic4.specs.declared.digit.Digit.TheVariants.{Zero, One, X, Z}
use Rattle.vs_design.specs.Stores.{Store, word_of}

-- the character of a digit (clause 18.2.2)
abbrev pub digit_character : Digit → ℕ
digit_character Zero = 48
digit_character One = 49
digit_character X = 120
digit_character Z = 122

-- whether extending on the left gives the first digit back where it stands before the second: 0 before 0 or 1, x before x,
-- z before z (clause 18.2.2, table 18-1)
abbrev pub is_extension : Digit → Digit → Bool
is_extension Zero Zero = true
is_extension Zero One = true
is_extension X X = true
is_extension Z Z = true
is_extension _ _ = false

-- digits, the highest first, without the left ones that extending gives back (clause 18.2.2, table 18-2)
abbrev pub shortened : List Digit → List Digit
shortened [] = []
shortened (d ∷ []) = d ∷ []
shortened (d ∷ e ∷ ds) = if is_extension d e then shortened (e ∷ ds) else d ∷ e ∷ ds

-- the change of a signal to a value, given lowest digit first: of one bit the digit and the code, of more `b`, the digits,
-- a space and the code (clause 18.2.2)
abbrev pub value_change : List Digit → List ℕ → List ℕ
value_change (d ∷ []) code = digit_character d ∷ code
value_change ds code = codes "b" ++ map digit_character (shortened (reverse ds)) ++ codes " " ++ code

-- the value that a store shows of a signal: its first word, x where there is none (profile)
abbrev pub shown_value : Store → ℕ → List Digit
shown_value store signal = unwrap_or (word_of store signal 0) (X ∷ [])
