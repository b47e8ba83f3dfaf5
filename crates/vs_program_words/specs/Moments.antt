-- Moments, as the words of a command line have them.
use Rattle.std.specs.Prelude.{ℕ, ◌≡◌, ◌++◌, ◌<◌, ◌^◌, Option, Some, None, List, codes}
use Rattle.std.specs.Str.Parse.{IsNumeral, digits_value, without_leading_plus}
use Rattle.vs_design.specs.declared.timescale.TimeUnit.{TimeUnit}
use Rattle.vs_design.specs.declared.timescale.TimeUnit.TheVariants.{Second, Millisecond, Microsecond, Nanosecond, Picosecond, Femtosecond}

-- a text is this number, in decimal digits
abbrev pub IsNumber : Option (List ℕ) → ℕ → Type 0
IsNumber None n = ⊥
IsNumber (Some text) n = IsNumeral 10 (without_leading_plus text) × (n ≡ digits_value 10 (without_leading_plus text))

-- the letters of a unit of time (clause 19.8)
abbrev pub letters_of : TimeUnit → List ℕ
letters_of Second = codes "s"
letters_of Millisecond = codes "ms"
letters_of Microsecond = codes "us"
letters_of Nanosecond = codes "ns"
letters_of Picosecond = codes "ps"
letters_of Femtosecond = codes "fs"

-- a text is a number of ticks, or a number and the letters of a unit
abbrev pub IsMoment : List ℕ → ℕ → Option TimeUnit → Type 0
IsMoment text n None = IsNumber (Some text) n
IsMoment text n (Some unit) = (digits : List ℕ) × (text ≡ digits ++ letters_of unit) × IsNumber (Some digits) n

-- what `--until` asks for: the greatest moment where it is left out
abbrev pub IsUntil : Option (List ℕ) → ℕ → Option TimeUnit → Type 0
IsUntil None n unit = (n ≡ 4611686018427387903) × (unit ≡ None)
IsUntil (Some text) n unit = IsMoment text n unit

-- it is none of these, but for a number that is too large
abbrev pub IsNoMoment : List ℕ → Type 0
IsNoMoment text = (n : ℕ) (unit : Option TimeUnit) → n < 2 ^ 62 → IsMoment text n unit → ⊥
