-- The lines of a value change dump.
use Rattle.std.specs.Prelude.{◌≡◌, ℕ, length, map, reverse, slice_get, nat_lt, ◌&&◌, Bool, ◌<◌, ◌≤◌, Option}
use Rattle.std.specs.Prelude.{Some, None, List, ◌++◌, codes, decimal}
use Rattle.std.specs.List.{list_all}
use Rattle.vs_design.specs.vs_logic4.specs.declared.digit.Digit.{Digit}
use Rattle.vs_design.specs.declared.signal.Bounds.{Bounds}
use Rattle.vs_design.specs.declared.timescale.TimeSpan.{TimeSpan}
use Rattle.vs_vcd_writing.specs.Codes.{code}
use Rattle.vs_vcd_writing.specs.Text.{span_text, kind_word, range_text, scope_line}
use Rattle.vs_vcd_writing.specs.Values.{digit_character, shortened, value_change}
use Rattle.vs_vcd_lines.specs.declared.dump.Declaration.{Declaration}
use Rattle.vs_vcd_lines.specs.declared.dump.Declaration.TheVariants as d
use Rattle.vs_vcd_lines.specs.declared.dump.ValueChange.{ValueChange}
use Rattle.vs_vcd_lines.specs.declared.dump.Variable.{Variable}
use Rattle.vs_vcd_lines.specs.Names.{IsName, IsScopeName, IsShort}

-- the line of the time that a tick stands for (clause 18.2.3)
abbrev pub span_line : TimeSpan → List ℕ
span_line span = codes "$timescale " ++ span_text span ++ codes " $end"

-- the line of a variable, whose code has this number (clause 18.2.3)
abbrev pub variable_line : Variable → ℕ → List ℕ
variable_line v number =
    codes "$var " ++ kind_word v.kind ++ codes " " ++ decimal v.width ++ codes " " ++ code number ++ codes " " ++ v.name.items
    ++ range_text v.range ++ codes " $end"

-- the line of a value (clause 18.2.2)
abbrev pub change_line : ValueChange → List ℕ
change_line c = value_change c.value (code c.number)

-- the bounds of a range are from -2^63 to 2^63 - 1 (profile)
abbrev pub IsRange : Option Bounds → Type 0
IsRange None = Unit {0}
IsRange (Some b) = IsShort b.left × IsShort b.right

-- a variable has a name and a size of 1 to 64 bits (profile)
pub record IsVariable (v : Variable) : Type 0 where
  pub named : IsName v.name.items
  pub some : 0 < v.width
  pub most : v.width ≤ 64
  pub ranged : IsRange v.range

-- a text writes a value of a size, highest digit first, without the left digits that extending gives back (clause 18.2.2)
pub record IsValue (text : List ℕ) (width : ℕ) (value : List Digit) : Type 0 where
  pub wide : length value ≡ width
  pub is : text ≡ map digit_character (shortened (reverse value))

-- the line of a declaration, where the code of the next variable has this number (clause 18.2.3)
abbrev pub declaration_line : Declaration → ℕ → List ℕ
declaration_line (d.Scope kind name) number = scope_line kind name.items
declaration_line (d.Variable v) number = variable_line v number
declaration_line d.Upscope number = codes "$upscope $end"

-- a declaration has names as they are printed, and a size of 1 to 64 bits (profile)
abbrev pub IsDeclaration : Declaration → Type 0
IsDeclaration (d.Scope kind name) = IsScopeName kind name.items
IsDeclaration (d.Variable v) = IsVariable v
IsDeclaration d.Upscope = Unit {0}

-- whether all sizes are of 1 to 64 bits
abbrev pub are_sizes : List ℕ → Bool
are_sizes widths = list_all (λ width. nat_lt 0 width && nat_lt width 65) widths

-- a value is as wide as the variable of its number
abbrev pub IsSized : List ℕ → ValueChange → Type 0
IsSized widths c = slice_get widths c.number ≡ Some (length c.value)
