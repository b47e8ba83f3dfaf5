-- What a value change dump shows: the plain reading of its text.
use Rattle.std.specs.Prelude.{◌≡◌, ℕ, ◌-◌, ◌==◌, ◌&&◌, nat_le, Bool, Option, Some, None, if◌then◌else◌}
use Rattle.std.specs.Prelude.{List, [], ◌∷◌, ◌++◌, length, reverse, replicate, slice_get}
use Rattle.std.specs.Option.{option_or}
use Rattle.std.specs.List.{slice_split, cons_option}
use Rattle.std.specs.Str.{bytes_eq}
use Rattle.std.specs.Str.Parse.{digits_value}
use Rattle.vs_design.specs.vs_logic4.specs.declared.digit.Digit.{Digit}
use Rattle.vs_design.specs.vs_logic4.specs.declared.digit.Digit.TheVariants.{Zero, One, X, Z}
use Rattle.vs_design.specs.Parts.{Parts}
use Rattle.vs_design.specs.Stores.{Store}
use Rattle.vs_design.specs.Traces.{Slot}
use Rattle.vs_design.specs.WellFormed.{width_at}
use Rattle.vs_vcd_writing.specs.Codes.{code, shown, place_of}
use Rattle.vs_vcd_writing.specs.Text.{end_of_definitions}
use Rattle.vs_vcd_writing.specs.Values.{shown_value}

-- ---- lines

-- the lines of a text: what stands between its line feeds
abbrev pub dump_lines : List ℕ → List (List ℕ)
dump_lines text = slice_split (λ b. b == 10) text

-- the lines after the one that ends the header
abbrev pub body_lines : List (List ℕ) → List (List ℕ)
body_lines [] = []
body_lines (l ∷ ls) = if bytes_eq l end_of_definitions then ls else body_lines ls

-- the digit that a character stands for (clause 18.2.2)
abbrev pub digit_of : ℕ → Option Digit
digit_of c =
    if c == 48 then Some Zero else (if c == 49 then Some One else (if c == 120 then Some X else (if c == 122 then Some Z else None)))

-- the digits before the first space
abbrev pub digits_part : List ℕ → List Digit
digits_part [] = []
digits_part (c ∷ cs) = if c == 32 then [] else cons_option (digit_of c) (digits_part cs)

-- what stands after the first space
abbrev pub code_part : List ℕ → List ℕ
code_part [] = []
code_part (c ∷ cs) = if c == 32 then cs else code_part cs

-- what a line of the body says: a time; digits, the highest first, for a code; or neither
pub data Meaning : Type 0 where
  Time : ℕ → Meaning
  Value : List Digit → List ℕ → Meaning
  Neither : Meaning

-- a change of one bit
abbrev pub bit_meaning : Option Digit → List ℕ → Meaning
bit_meaning None code = Neither
bit_meaning (Some d) code = Value (d ∷ []) code

-- what a line of the body says (clauses 18.2.1 and 18.2.2)
abbrev pub meaning : List ℕ → Meaning
meaning [] = Neither
meaning (c ∷ cs) =
    if c == 35 then Time (digits_value 10 cs) else (if c == 98 then Value (digits_part cs) (code_part cs) else bit_meaning (digit_of c) cs)

-- ---- changes

-- a change of a code to digits, the highest first, at a time
pub record Change : Type 0 where
  pub time : ℕ
  pub code : List ℕ
  pub digits : List Digit

-- the change that a line makes at a time
abbrev pub changes_by : ℕ → Meaning → List Change
changes_by time (Time t) = []
changes_by time (Value ds code) = record { time = time; code = code; digits = ds } ∷ []
changes_by time Neither = []

-- the time after a line
abbrev pub time_by : ℕ → Meaning → ℕ
time_by time (Time t) = t
time_by time (Value ds code) = time
time_by time Neither = time

-- the changes of the lines after a time
abbrev pub changes_from : ℕ → List (List ℕ) → List Change
changes_from time [] = []
changes_from time (l ∷ ls) = changes_by time (meaning l) ++ changes_from (time_by time (meaning l)) ls

-- the changes that a dump tells
abbrev pub changes_of : List ℕ → List Change
changes_of text = changes_from 0 (body_lines (dump_lines text))

-- whether it is a change of this code at or before a time
abbrev pub is_change : ℕ → List ℕ → Change → Bool
is_change time code c = nat_le c.time time && bytes_eq c.code code

-- the digits of the last change of a code at or before a time
abbrev pub last_change : ℕ → List ℕ → List Change → Option (List Digit)
last_change time code [] = None
last_change time code (c ∷ cs) = option_or (last_change time code cs) (if is_change time code c then Some c.digits else None)

-- the digit that extends digits on the left: 0 before 0 or 1, x before x, z before z (clause 18.2.2, table 18-1)
abbrev pub left_digit : Digit → Digit
left_digit Zero = Zero
left_digit One = Zero
left_digit X = X
left_digit Z = Z

-- digits, the highest first, extended on the left to a size
abbrev pub extended : ℕ → List Digit → List Digit
extended size [] = []
extended size (d ∷ ds) = replicate (size - length (d ∷ ds)) (left_digit d) ++ d ∷ ds

-- the text shows that a signal of a design has a value, given lowest digit first, at a time: the last change of its code
-- at or before the time, extended on the left to the signal's size
pub record Shows (text : List ℕ) (d : Parts) (time signal : ℕ) (value : List Digit) : Type 0 where
  pub number : ℕ
  pub digits : List Digit
  pub coded : place_of (shown d) signal ≡ Some number
  pub last : last_change time (code number) (changes_of text) ≡ Some digits
  pub size : length value ≡ width_at (slice_get d.signals signal)
  pub extends : extended (length value) digits ≡ reverse value

-- ---- slots

-- the last slot at or before a time
abbrev pub slot_at : ℕ → List Slot → Option Slot
slot_at time [] = None
slot_at time (s ∷ ss) = option_or (slot_at time ss) (if nat_le s.time time then Some s else None)

-- ---- what dumps show

-- a value that a store shows of a signal has the signal's size
abbrev pub HasSize : Parts → Store → ℕ → Type 0
HasSize d store signal = length (shown_value store signal) ≡ width_at (slice_get d.signals signal)

-- a text shows one value of a signal at a time
abbrev pub ShowsOne : Type 0
ShowsOne = (text : List ℕ) (d : Parts) (time signal : ℕ) (a b : List Digit) → Shows text d time signal a → Shows text d time signal b → a ≡ b
