-- Numbers with a base (IEEE 1364-2005, clause 3.5.1).
use Rattle.std.specs.Prelude.{ℕ, ◌+◌, ◌-◌, ◌*◌, ◌^◌, ◌==◌, ◌&&◌, ◌||◌, Bool, true, false, List, [], ◌∷◌, ◌++◌, length, take, replicate, Option, None, Some, if◌then◌else◌, nat_lt, nat_le}
use Rattle.std.specs.Char.{is_ascii_digit, is_ascii_hexdigit}
use Rattle.std.specs.Int.{is_in_range}
use Rattle.std.specs.List.{list_all}
use Rattle.vs_logic4.specs.declared.digit.Digit.{Digit}
use Rattle.vs_logic4.specs.declared.digit.Digit.TheVariants.{Zero, X, Z}
use Rattle.vs_logic4.specs.Vectors.{of_number}
use Rattle.vs_lexer.specs.declared.base.Base.{Base}
use Rattle.vs_lexer.specs.declared.base.Base.TheVariants.{Binary, Octal, Decimal, Hexadecimal}
use Rattle.vs_lexer.specs.declared.token.Literal.{Literal}
use Rattle.vs_lexer.specs.Bytes.{in_decimal, is_filler}

-- the number that decimal digits stand for, read after those of n; `_` counts for nothing
abbrev pub value_after : ℕ → List ℕ → ℕ
value_after n [] = n
value_after n (b ∷ bs) = if b == 95 then value_after n bs else value_after (n * 10 + (b - 48)) bs

-- the number that is meant by decimal digits alone: signed, of 32 bits
unfoldable pub plain_literal : ℕ → Literal
plain_literal n = record { value = of_number 32 n; signed = true; based = false }

-- x, in either case
abbrev pub is_unknown : ℕ → Bool
is_unknown b = b == 120 || b == 88

-- z, in either case, or `?`
abbrev pub is_high : ℕ → Bool
is_high b = b == 122 || (b == 90 || b == 63)

abbrev pub is_unknown_or_high : ℕ → Bool
is_unknown_or_high b = is_unknown b || is_high b

-- what says that the number is signed, in either case
abbrev pub is_sign : ℕ → Bool
is_sign b = b == 115 || b == 83

-- the letter of a base, in either case
abbrev pub base_of : ℕ → Option Base
base_of b =
    if b == 98 || b == 66 then Some Binary
    else (if b == 111 || b == 79 then Some Octal
    else (if b == 100 || b == 68 then Some Decimal
    else (if b == 104 || b == 72 then Some Hexadecimal
    else None)))

-- the digits of a base, without x and z
abbrev pub has_digit : Base → ℕ → Bool
has_digit Binary b = is_in_range 48 49 b
has_digit Octal b = is_in_range 48 55 b
has_digit Decimal b = is_ascii_digit b
has_digit Hexadecimal b = is_ascii_hexdigit b

-- what the digits of a literal begin with
abbrev pub starts_digits : Base → ℕ → Bool
starts_digits base b = has_digit base b || is_unknown_or_high b

-- what the digits of a literal go on with
abbrev pub in_digits : Base → ℕ → Bool
in_digits base b = starts_digits base b || b == 95

-- the number of a digit: `0` to `9`, and `a` to `f` in either case
abbrev pub digit_number : ℕ → ℕ
digit_number b = if nat_le 97 b then b - 87 else (if nat_le 65 b then b - 55 else b - 48)

-- the vector of one digit of so many bits, lowest first; of `_` there is none
abbrev pub digit_vector : ℕ → ℕ → List Digit
digit_vector bits b =
    if b == 95 then []
    else (if is_unknown b then replicate bits X
    else (if is_high b then replicate bits Z
    else of_number bits (digit_number b)))

-- the vector of all digits, of so many bits each, lowest first
abbrev pub digits_vector : ℕ → List ℕ → List Digit
digits_vector bits [] = []
digits_vector bits (b ∷ bs) = digits_vector bits bs ++ digit_vector bits b

-- what fills a literal on the left: x or z where its highest digit is one, else 0
abbrev pub filling : Digit → Digit
filling X = X
filling Z = Z
filling _ = Zero

-- the highest of a vector's digits, or else this one
abbrev pub highest : Digit → List Digit → Digit
highest otherwise [] = otherwise
highest otherwise (d ∷ ds) = highest d ds

-- a vector at a size: cut on the left, or filled there
abbrev pub fitted : ℕ → List Digit → List Digit
fitted size ds = take size ds ++ replicate (size - length ds) (filling (highest Zero ds))

-- a digit on the left is lost without harm where filling gives it back
abbrev pub is_lost_freely : Digit → Digit → Bool
is_lost_freely below Zero = true
is_lost_freely X X = true
is_lost_freely Z Z = true
is_lost_freely _ _ = false

-- Whether digits, those from the place n on, above one, need no more than a size.
abbrev pub fits_from : ℕ → ℕ → Digit → List Digit → Bool
fits_from size n below [] = true
fits_from size n below (d ∷ ds) = (nat_lt n size || is_lost_freely below d) && fits_from size (n + 1) d ds

-- how many bits a digit of a base has, where it has a whole number of them
abbrev pub digit_bits : Base → ℕ
digit_bits Binary = 1
digit_bits Octal = 3
digit_bits Decimal = 0
digit_bits Hexadecimal = 4

-- decimal digits are a number, or a single x or z
abbrev pub is_single : List ℕ → Bool
is_single [] = false
is_single (b ∷ bs) = is_unknown_or_high b && list_all is_filler bs

-- whether digits are well formed: in decimal an x or z stands alone
abbrev pub is_well_formed : Base → List ℕ → Bool
is_well_formed Decimal digits = list_all in_decimal digits || is_single digits
is_well_formed _ digits = true

-- the vector of a single decimal x or z, which fills the literal
abbrev pub single_vector : ℕ → List ℕ → List Digit
single_vector size [] = []
single_vector size (b ∷ bs) = replicate size (if is_unknown b then X else Z)

-- the vector of well formed digits at a size
abbrev pub literal_vector : Base → ℕ → List ℕ → List Digit
literal_vector Decimal size digits =
    if list_all in_decimal digits then of_number size (value_after 0 digits) else single_vector size digits
literal_vector base size digits = fitted size (digits_vector (digit_bits base) digits)

-- whether well formed digits need no more than the 32 bits of a literal without a size
abbrev pub fits_unsized : Base → List ℕ → Bool
fits_unsized Decimal digits = if list_all in_decimal digits then nat_lt (value_after 0 digits) (2 ^ 32) else true
fits_unsized base digits = fits_from 32 0 Zero (digits_vector (digit_bits base) digits)

-- the number with a base
unfoldable pub based_literal : Base → ℕ → Bool → List ℕ → Literal
based_literal base size signed digits = record { value = literal_vector base size digits; signed = signed; based = true }
