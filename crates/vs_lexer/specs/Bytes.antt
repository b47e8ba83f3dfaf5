-- Classes of bytes.
use Rattle.std.specs.Prelude.{ℕ, ◌==◌, ◌&&◌, ◌||◌, Bool, false, List, [], ◌∷◌, nat_lt, nat_le, not, if◌then◌else◌}
use Rattle.std.specs.Char.{is_ascii_digit, is_ascii_alphabetic, is_ascii_alphanumeric}

-- white space: space, tab, line feed, form feed, carriage return (clause 3.2; carriage return: profile)
abbrev pub is_white : ℕ → Bool
is_white b = b == 32 || (b == 9 || (b == 10 || (b == 12 || b == 13)))

-- what a simple name begins with: a letter or `_` (clause 3.7)
abbrev pub starts_name : ℕ → Bool
starts_name b = is_ascii_alphabetic b || b == 95

-- what a name goes on with: a letter, a digit, `_` or `$` (clause 3.7)
abbrev pub in_name : ℕ → Bool
in_name b = is_ascii_alphanumeric b || (b == 95 || b == 36)

-- what an escaped name consists of: printable bytes without white space, and so its backslash (clause 3.7.1)
abbrev pub in_escaped : ℕ → Bool
in_escaped b = nat_lt 32 b && nat_lt b 127

-- what a decimal number goes on with: a digit or `_` (clause 3.5.1)
abbrev pub in_decimal : ℕ → Bool
in_decimal b = is_ascii_digit b || b == 95

-- what stands on a line: each byte but the line feed
abbrev pub in_line : ℕ → Bool
in_line b = not (b == 10)

-- what may stand in a comment: no control byte but white space (profile)
abbrev pub in_comment : ℕ → Bool
in_comment b = nat_le 32 b || is_white b

-- what may stand in an attribute: no byte above 127 either (profile)
abbrev pub in_attribute : ℕ → Bool
in_attribute b = in_comment b && nat_lt b 128

-- what counts for nothing among digits: `_` (clause 3.5.1)
abbrev pub is_filler : ℕ → Bool
is_filler b = b == 95

-- the bytes begin with one that passes
abbrev pub begins : (ℕ → Bool) → List ℕ → Bool
begins p [] = false
begins p (b ∷ bs) = p b

-- the bytes at the front that pass
abbrev pub front_run : (ℕ → Bool) → List ℕ → List ℕ
front_run p [] = []
front_run p (b ∷ bs) = if p b then b ∷ front_run p bs else []

-- the bytes after them
abbrev pub after_run : (ℕ → Bool) → List ℕ → List ℕ
after_run p [] = []
after_run p (b ∷ bs) = if p b then after_run p bs else b ∷ bs
