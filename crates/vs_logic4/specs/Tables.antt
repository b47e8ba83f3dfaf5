-- The operators on single digits.
use Rattle.std.specs.Prelude.{ℕ, Bool, true, false}
use Rattle.vs_logic4.specs.declared.digit.Digit.{Digit}
use Rattle.vs_logic4.specs.declared.digit.Digit.TheVariants.{Zero, One, X, Z}
use Rattle.vs_logic4.specs.Vectors.{same_digit}

-- and: 0 decides, else an x or z makes x (clauses 5.1.9 and 5.1.10)
abbrev pub and_digit : Digit → Digit → Digit
and_digit Zero _ = Zero
and_digit _ Zero = Zero
and_digit One One = One
and_digit _ _ = X

-- or: 1 decides, else an x or z makes x (clauses 5.1.9 and 5.1.10)
abbrev pub or_digit : Digit → Digit → Digit
or_digit One _ = One
or_digit _ One = One
or_digit Zero Zero = Zero
or_digit _ _ = X

-- exclusive or: any x or z makes x (clause 5.1.10)
abbrev pub xor_digit : Digit → Digit → Digit
xor_digit Zero Zero = Zero
xor_digit Zero One = One
xor_digit One Zero = One
xor_digit One One = Zero
xor_digit _ _ = X

-- not: x and z make x (clauses 5.1.9 and 5.1.10)
abbrev pub not_digit : Digit → Digit
not_digit Zero = One
not_digit One = Zero
not_digit _ = X

-- exclusive nor (clause 5.1.10)
abbrev pub xnor_digit : Digit → Digit → Digit
xnor_digit d e = not_digit (xor_digit d e)

-- what `?:` gives where its condition is unknown: equal known digits stay, all else is x (clause 5.1.13)
abbrev pub merged_digit : Digit → Digit → Digit
merged_digit Zero Zero = Zero
merged_digit One One = One
merged_digit _ _ = X

-- 0 or 1 (clause 4.1)
abbrev pub is_known_digit : Digit → Bool
is_known_digit Zero = true
is_known_digit One = true
is_known_digit _ = false

-- two known digits that differ (clause 5.1.8)
abbrev pub are_known_and_differ : Digit → Digit → Bool
are_known_and_differ Zero One = true
are_known_and_differ One Zero = true
are_known_and_differ _ _ = false

-- a position of `casez`: a z on either side matches all (clause 9.5.1)
abbrev pub matches_casez : Digit → Digit → Bool
matches_casez Z _ = true
matches_casez _ Z = true
matches_casez d e = same_digit d e

-- a position of `casex`: an x or z on either side matches all (clause 9.5.1)
abbrev pub matches_casex : Digit → Digit → Bool
matches_casex Zero One = false
matches_casex One Zero = false
matches_casex _ _ = true

-- the digit of a truth value (clause 5.1.9)
abbrev pub digit_of_test : Bool → Digit
digit_of_test true = One
digit_of_test false = Zero

-- the letter that stands for a digit (clause 3.5.1)
abbrev pub letter : Digit → ℕ
letter Zero = 48
letter One = 49
letter X = 120
letter Z = 122
