-- The lines that formats make (clause 17.1).
use Rattle.std.specs.Prelude.{ℕ, ◌/◌, Bool, false, unwrap_or, List, [], ◌∷◌, ◌++◌}
use Rattle.vs_design.specs.vs_logic4.specs.declared.digit.Digit.{Digit}
use Rattle.vs_design.specs.vs_logic4.specs.Vectors.{of_number}
use Rattle.vs_design.specs.Stores.{Store}
use Rattle.vs_eval.specs.Values.{value_of}
use Rattle.vs_design.specs.declared.statement.FormatArg.{FormatArg}
use Rattle.vs_design.specs.declared.statement.FormatArg.TheVariants.{Value, Time}
use Rattle.vs_design.specs.declared.statement.Call.{Call}
use Rattle.vs_strobe.specs.declared.piece.FormatPiece.{FormatPiece}
use Rattle.vs_strobe.specs.declared.piece.FormatPiece.TheVariants.{Byte, Path, Shown}
use Rattle.vs_strobe.specs.Pieces.{pieces_of}
use Rattle.vs_strobe.specs.Values.{shown_text}

-- a format: the pieces of its text, its arguments, the path that `%m` prints, and how many ticks a unit of time is
pub record Format : Type 0 where
  pub pieces : List FormatPiece
  pub args : List FormatArg
  pub path : List ℕ
  pub ratio : ℕ

-- the format of a text
abbrev pub format_of : List ℕ → List FormatArg → List ℕ → ℕ → Format
format_of text args path ratio = record { pieces = unwrap_or (pieces_of text) []; args = args; path = path; ratio = ratio }

-- the format of a call (clause 17.1)
abbrev pub format_of_call : Call → Format
format_of_call c = format_of c.text.items c.args.items c.path.items c.ratio

-- whether an argument is a signed number; `$time` isn't (clause 17.7.1)
abbrev pub is_signed : FormatArg → Bool
is_signed (Value signed e) = signed
is_signed Time = false

-- the value of an argument in a store at a time in ticks; `$time` has 64 bits and counts units (clause 17.7.1)
abbrev pub arg_value : ℕ → FormatArg → Store → ℕ → List Digit
arg_value ratio (Value signed e) store time = value_of e store time
arg_value ratio Time store time = of_number 64 (time / ratio)

-- what pieces and their arguments print
abbrev pub pieces_text : Format → Store → ℕ → List FormatPiece → List FormatArg → List ℕ
pieces_text f store time [] args = []
pieces_text f store time (Byte b ∷ ps) args = b ∷ pieces_text f store time ps args
pieces_text f store time (Path ∷ ps) args = f.path ++ pieces_text f store time ps args
pieces_text f store time (Shown show bare ∷ ps) [] = pieces_text f store time ps []
pieces_text f store time (Shown show bare ∷ ps) (a ∷ args) =
    shown_text show bare f.ratio (is_signed a) (arg_value f.ratio a store time) ++ pieces_text f store time ps args

-- the line of a format in a store at a time in ticks, without the line feed that ends it (clause 17.1)
abbrev pub line_text : Format → Store → ℕ → List ℕ
line_text f store time = pieces_text f store time f.pieces f.args

-- the same with the line feed that ends it (clause 17.1)
abbrev pub full_line : Format → Store → ℕ → List ℕ
full_line f store time = line_text f store time ++ 10 ∷ []
