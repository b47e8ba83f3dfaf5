-- Beginnings of lines.
use Rattle.std.specs.Prelude.{◌≡◌, ℕ, ◌<◌, ◌≤◌, ◌^◌, ◌==◌, ◌||◌, Bool, Option, Some, List, ◌++◌, codes, decimal, length, map, reverse}
use Rattle.vs_design.specs.vs_logic4.specs.declared.digit.Digit.{Digit}
use Rattle.vs_design.specs.declared.design.ScopeKind.{ScopeKind}
use Rattle.vs_design.specs.declared.signal.Bounds.{Bounds}
use Rattle.vs_design.specs.declared.signal.SignalKind.{SignalKind}
use Rattle.vs_design.specs.declared.timescale.Magnitude.{Magnitude}
use Rattle.vs_design.specs.declared.timescale.TimeSpan.{TimeSpan}
use Rattle.vs_design.specs.declared.timescale.TimeUnit.{TimeUnit}
use Rattle.vs_vcd_lines.specs.vs_vcd_writing.specs.Codes.{code}
use Rattle.vs_vcd_lines.specs.vs_vcd_writing.specs.Text.{kind_word, magnitude_word, range_text, scope_line, span_text, unit_word}
use Rattle.vs_vcd_lines.specs.vs_vcd_writing.specs.Values.{digit_character, shortened}
use Rattle.vs_vcd_lines.specs.declared.dump.ValueChange.{ValueChange}
use Rattle.vs_vcd_lines.specs.Lines.{change_line, IsRange}
use Rattle.vs_vcd_lines.specs.Names.{IsName, IsScopeName}

-- a text begins another
abbrev pub Begins : List ℕ → List ℕ → Type 0
Begins part whole = (rest : List ℕ) × (whole ≡ part ++ rest)

-- ---- what a tick stands for

-- a word says how many of a unit
abbrev pub IsCount : List ℕ → Type 0
IsCount word = (m : Magnitude) × (word ≡ magnitude_word m)

-- whether a character stands before the `s` of a unit of time
abbrev pub is_multiple : ℕ → Bool
is_multiple b = b == 109 || b == 117 || b == 110 || b == 112 || b == 102

-- a text begins a unit of time and the end of its line
abbrev pub BeginsUnit : List ℕ → Type 0
BeginsUnit part = (u : TimeUnit) × Begins part (unit_word u ++ codes " $end")

-- a text begins what a tick stands for and the end of its line
abbrev pub BeginsSpan : List ℕ → Type 0
BeginsSpan part = (span : TimeSpan) × Begins part (span_text span ++ codes " $end")

-- ---- declarations

-- a text begins the line of a scope of a kind
pub record BeginsScope (kind : ScopeKind) (part : List ℕ) : Type 0 where
  pub name : List ℕ
  pub named : IsScopeName kind name
  pub begins : Begins part (scope_line kind name)

-- a text begins the line of a scope
abbrev pub BeginsSomeScope : List ℕ → Type 0
BeginsSomeScope part = (kind : ScopeKind) × BeginsScope kind part

-- the line of a variable of a kind, a size, a name and a range, whose code has this number
abbrev pub variable_form : SignalKind → ℕ → ℕ → List ℕ → Option Bounds → List ℕ
variable_form kind width number name range =
    codes "$var " ++ kind_word kind ++ codes " " ++ decimal width ++ codes " " ++ code number ++ codes " " ++ name ++ range_text range ++ codes " $end"

-- a text begins the line of a variable, whose code has this number
pub record BeginsVariable (number : ℕ) (part : List ℕ) : Type 0 where
  pub kind : SignalKind
  pub width : ℕ
  pub name : List ℕ
  pub range : Option Bounds
  pub some : 0 < width
  pub most : width ≤ 64
  pub named : IsName name
  pub ranged : IsRange range
  pub begins : Begins part (variable_form kind width number name range)

-- ---- the body

-- the digits of a number begin those of one below 2^64 and above another
abbrev pub Reaches : ℕ → ℕ → Type 0
Reaches number last = (t : ℕ) × (last < t) × (t < 2 ^ 64) × Begins (decimal number) (decimal t)

-- a value isn't the old one, where there is one
abbrev pub IsOther : Option (List Digit) → List Digit → Type 0
IsOther old value = (o : List Digit) → old ≡ Some o → value ≡ o → ⊥

-- a text begins the digits of a value of a size other than the old one, where there is one
pub record BeginsDigits (width : ℕ) (old : Option (List Digit)) (text : List ℕ) : Type 0 where
  pub value : List Digit
  pub wide : length value ≡ width
  pub other : IsOther old value
  pub begins : Begins text (map digit_character (shortened (reverse value)))

-- a text begins the line of a change of the variable of a number and a size, to another value than the old one
pub record BeginsChange (number width : ℕ) (old : Option (List Digit)) (part : List ℕ) : Type 0 where
  pub change : ValueChange
  pub numbered : change.number ≡ number
  pub wide : length change.value ≡ width
  pub other : IsOther old change.value
  pub begins : Begins part (change_line change)
