-- The arithmetic and relational operators: formulas on whole numbers where no digit is x or z.
use Rattle.std.specs.Prelude.{ℕ, ◌+◌, ◌*◌, ◌^◌, ◌==◌, ℤ, pos, ◌+ℤ◌, ◌-ℤ◌, ◌*ℤ◌, neg_ℤ, unsigned_abs, int_lt, int_div, int_rem, Bool, true, false, ◌&&◌, if◌then◌else◌, Option, Some, None, List, [], ◌∷◌, length}
use Rattle.std.specs.Int.{int_rem_euclid}
use Rattle.vs_logic4.specs.declared.digit.Digit.{Digit}
use Rattle.vs_logic4.specs.declared.digit.Digit.TheVariants.{One, X}
use Rattle.vs_logic4.specs.Vectors.{same_digit, top_digit, of_number, all_unknown}
use Rattle.vs_logic4.specs.Tables.{digit_of_test}
use Rattle.vs_logic4.specs.Comparisons.{is_known}

-- what a known digit counts in its place
abbrev pub bit_of : Digit → ℕ
bit_of One = 1
bit_of _ = 0

-- the unsigned number of a vector without x and z (clause 3.5.1)
abbrev pub number : List Digit → ℕ
number [] = 0
number (d ∷ ds) = bit_of d + 2 * number ds

-- the signed number of a vector without x and z, in two's complement (clause 3.5.1)
abbrev pub signed_number : List Digit → ℤ
signed_number ds = if same_digit (top_digit ds) One then pos (number ds) -ℤ pos (2 ^ length ds) else pos (number ds)

-- the number of a vector without x and z, signed or unsigned (clause 5.1.6)
abbrev pub integer : Bool → List Digit → ℤ
integer false ds = pos (number ds)
integer true ds = signed_number ds

-- the vector of a width of a whole number, wrapped (clause 5.1.5)
abbrev pub of_integer : ℕ → ℤ → List Digit
of_integer width z = of_number width (unsigned_abs (int_rem_euclid z (pos (2 ^ width))))

-- an operator on numbers, wrapped to the width; x in every place if a digit is x or z (clause 5.1.5)
abbrev pub arithmetic : (ℤ → ℤ → ℤ) → Bool → List Digit → List Digit → List Digit
arithmetic f signed ds es =
    if is_known ds && is_known es then of_integer (length ds) (f (integer signed ds) (integer signed es)) else all_unknown (length ds)

-- `+` (clause 5.1.5)
abbrev pub sum_of : Bool → List Digit → List Digit → List Digit
sum_of = arithmetic (λ a b. a +ℤ b)

-- `-` (clause 5.1.5)
abbrev pub difference : Bool → List Digit → List Digit → List Digit
difference = arithmetic (λ a b. a -ℤ b)

-- `*` (clause 5.1.5)
abbrev pub product : Bool → List Digit → List Digit → List Digit
product = arithmetic (λ a b. a *ℤ b)

-- an operator that also gives x in every place where the right operand is 0 (clause 5.1.5)
abbrev pub division : (ℤ → ℤ → ℤ) → Bool → List Digit → List Digit → List Digit
division f signed ds es = if is_known es && number es == 0 then all_unknown (length ds) else arithmetic f signed ds es

-- `/`, cut toward zero (clause 5.1.5)
abbrev pub quotient : Bool → List Digit → List Digit → List Digit
quotient = division int_div

-- `%`, with the sign of the left operand (clause 5.1.5)
abbrev pub remainder : Bool → List Digit → List Digit → List Digit
remainder = division int_rem

-- `-` of one operand (clause 5.1.5)
abbrev pub negation : Bool → List Digit → List Digit
negation signed ds = if is_known ds then of_integer (length ds) (neg_ℤ (integer signed ds)) else all_unknown (length ds)

-- `+` of one operand (clause 5.1.5; x or z gives x in every place: profile)
abbrev pub unary_plus : List Digit → List Digit
unary_plus ds = if is_known ds then ds else all_unknown (length ds)

-- `<`: x if a digit is x or z (clause 5.1.7)
abbrev pub less_than : Bool → List Digit → List Digit → Digit
less_than signed ds es =
    if is_known ds && is_known es then digit_of_test (int_lt (integer signed ds) (integer signed es)) else X

-- the unsigned number of a vector, where no digit is x or z
abbrev pub known_number : List Digit → Option ℕ
known_number ds = if is_known ds then Some (number ds) else None

-- the signed number of a vector, where no digit is x or z
abbrev pub known_signed_number : List Digit → Option ℤ
known_signed_number ds = if is_known ds then Some (signed_number ds) else None
