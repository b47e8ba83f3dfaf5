-- How values are shown in lines (clause 17.1.1).
use Rattle.std.specs.Prelude.{ℕ, zero, suc, ◌+◌, ◌-◌, ◌*◌, ◌/◌, ◌^◌, ◌==◌, pos, ◌*ℤ◌, Bool, true, false, if◌then◌else◌, nat_lt, List, [], ◌∷◌, ◌++◌, length, take, drop, replicate, decimal}
use Rattle.std.specs.Fmt.{signed_decimal}
use Rattle.std.specs.List.{list_any}
use Rattle.vs_design.specs.vs_logic4.specs.declared.digit.Digit.{Digit}
use Rattle.vs_design.specs.vs_logic4.specs.declared.digit.Digit.TheVariants.{X}
use Rattle.vs_design.specs.vs_logic4.specs.Vectors.{same_digit, same_digits, all_unknown, all_high_impedance}
use Rattle.vs_design.specs.vs_logic4.specs.Comparisons.{is_known}
use Rattle.vs_design.specs.vs_logic4.specs.Arithmetic.{number, integer}
use Rattle.vs_strobe.specs.declared.piece.Show.{Show}
use Rattle.vs_strobe.specs.declared.piece.Show.TheVariants.{Binary, Octal, Hex, Decimal, Time, Character, Text}

-- what stands for digits that aren't all known: `x` for x alone, `z` for z alone, `X` where there is an x, else `Z` (clause 17.1.1.4)
abbrev pub unknown_letter : List Digit → ℕ
unknown_letter ds =
    if same_digits ds (all_unknown (length ds)) then 120
    else (if same_digits ds (all_high_impedance (length ds)) then 122
    else (if list_any (same_digit X) ds then 88
    else 90))

-- ---- groups of digits, counted from the right

-- the character of a number below 16
abbrev pub hex_character : ℕ → ℕ
hex_character n = if nat_lt n 10 then 48 + n else 87 + n

-- a group of so many digits; the top one of a value has only those that there are
abbrev pub group : ℕ → ℕ → List Digit → List Digit
group size place ds = take size (drop (size * place) ds)

-- how many groups so many digits make
abbrev pub group_count : ℕ → ℕ → ℕ
group_count size width = (width + (size - 1)) / size

-- what a function gives of each of the lowest groups, the highest of them first
abbrev pub by_groups : (List Digit → ℕ) → ℕ → ℕ → List Digit → List ℕ
by_groups f size zero ds = []
by_groups f size (suc count) ds = f (group size count ds) ∷ by_groups f size count ds

-- the character of a group (clause 17.1.1.4)
abbrev pub group_character : List Digit → ℕ
group_character ds = if is_known ds then hex_character (number ds) else unknown_letter ds

-- characters without the zeros on their left, but for the last character
abbrev pub without_zeros : List ℕ → List ℕ
without_zeros [] = []
without_zeros (c ∷ []) = c ∷ []
without_zeros (c ∷ d ∷ cs) = if c == 48 then without_zeros (d ∷ cs) else c ∷ d ∷ cs

-- the characters of all groups
abbrev pub digits_text : ℕ → List Digit → List ℕ
digits_text size ds = by_groups group_character size (group_count size (length ds)) ds

-- a value in a base of that many digits a group; behind a `%0` without the zeros on its left (clauses 17.1.1.2 and 17.1.1.3)
abbrev pub base_text : Bool → ℕ → List Digit → List ℕ
base_text true size ds = without_zeros (digits_text size ds)
base_text false size ds = digits_text size ds

-- ---- decimals

-- the number of digits times a factor, in decimal; one letter where they aren't all known (clause 17.1.1.4)
abbrev pub number_text : ℕ → Bool → List Digit → List ℕ
number_text factor signed ds = if is_known ds then signed_decimal (integer signed ds *ℤ pos factor) else unknown_letter ds ∷ []

-- how many places the greatest number of a size has; a signed one has a place for its sign besides (clause 17.1.1.3; signed: profile)
abbrev pub decimal_places : Bool → ℕ → ℕ
decimal_places true width = length (decimal (2 ^ (width - 1))) + 1
decimal_places false width = length (decimal (2 ^ width - 1))

-- the places that a directive asks for: none behind a `%0` (clause 17.1.1.3)
abbrev pub room : Bool → ℕ → ℕ
room true places = 0
room false places = places

-- right-justified in so many places
abbrev pub justified : ℕ → List ℕ → List ℕ
justified places text = replicate (places - length text) 32 ++ text

-- ---- characters and texts

-- bytes without the zeros on their left
abbrev pub without_zero_bytes : List ℕ → List ℕ
without_zero_bytes [] = []
without_zero_bytes (b ∷ bs) = if b == 0 then without_zero_bytes bs else b ∷ bs

-- the bytes of a value, from the top; x and z count as 0 (clause 17.1.1.7; x, z and the zeros: profile)
abbrev pub bytes_text : List Digit → List ℕ
bytes_text ds = without_zero_bytes (by_groups number 8 (group_count 8 (length ds)) ds)

-- the low byte of a value; x and z count as 0 (clause 17.1.1.2; x and z: profile)
abbrev pub character_text : List Digit → List ℕ
character_text ds = number (group 8 0 ds) ∷ []

-- ---- directives

-- what a directive shows of a value, behind a `%0` or not, where a unit of time is so many ticks (clauses 17.1.1.2 to 17.1.1.7; the 20 places of
-- a time: clause 17.3.2)
abbrev pub shown_text : Show → Bool → ℕ → Bool → List Digit → List ℕ
shown_text Binary bare ratio signed ds = base_text bare 1 ds
shown_text Octal bare ratio signed ds = base_text bare 3 ds
shown_text Hex bare ratio signed ds = base_text bare 4 ds
shown_text Decimal bare ratio signed ds = justified (room bare (decimal_places signed (length ds))) (number_text 1 signed ds)
shown_text Time bare ratio signed ds = justified (room bare 20) (number_text ratio signed ds)
shown_text Character bare ratio signed ds = character_text ds
shown_text Text bare ratio signed ds = bytes_text ds
