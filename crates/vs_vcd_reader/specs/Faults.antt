-- Texts that are no value change dump of the layout, and why.
use Rattle.std.specs.Prelude.{◌≡◌, ℕ, ◌≤◌, Bool, true, List, [], ◌∷◌, ◌++◌, length, map}
use Rattle.std.specs.List.{list_all}
use Rattle.vs_design.specs.vs_logic4.specs.declared.digit.Digit.{Digit}
use Rattle.vs_vcd_lines.specs.vs_vcd_writing.specs.Codes.{code}
use Rattle.vs_vcd_lines.specs.vs_vcd_writing.specs.Text.{text_of, end_of_definitions}
use Rattle.vs_vcd_lines.specs.vs_vcd_writing.specs.Values.{digit_character}
use Rattle.vs_vcd_lines.specs.Cuts.{lacks}
use Rattle.vs_vcd_reader.specs.declared.fault.VcdFault.{VcdFault}
use Rattle.vs_vcd_reader.specs.declared.fault.VcdFault.TheVariants as f
use Rattle.vs_vcd_reader.specs.Plain.{PlainDump}
use Rattle.vs_vcd_reader.specs.Layout.{IsLayout, widths_of}

-- ---- lines

-- some text of the layout begins so
pub record IsBeginning (text : List ℕ) : Type 0 where
  pub rest : List ℕ
  pub dump : PlainDump
  pub is : IsLayout (text ++ rest) dump

-- no text of the layout
abbrev pub IsNoDump : List ℕ → Type 0
IsNoDump text = (x : PlainDump) → IsLayout text x → ⊥

-- whether no line feed stands in any of these
abbrev pub are_lines : List (List ℕ) → Bool
are_lines ls = list_all (lacks 10) ls

-- what stands after a line of a text: a line feed and what follows it, or nothing after the last one
pub data IsLineEnd : List ℕ → List ℕ → Type 0 where
  feed : (rest : List ℕ) → IsLineEnd (10 ∷ []) rest
  last : IsLineEnd [] []

-- the first line of a text, ended or the last, that no text of the layout has there, and the lines before it: some text of the layout begins
-- with these, and none with these and that line
pub record IsBadLine (text : List ℕ) (before : List (List ℕ)) (line : List ℕ) : Type 0 where
  pub end : List ℕ
  pub rest : List ℕ
  pub is : text ≡ text_of before ++ line ++ end ++ rest
  pub ended : IsLineEnd end rest
  pub lines : are_lines before ≡ true
  pub one_line : lacks 10 line ≡ true
  pub begun : IsBeginning (text_of before)
  pub bad : IsBeginning (text_of before ++ line ++ end) → ⊥

-- some text of the layout begins so, and it is none itself
pub record IsCutShort (text : List ℕ) : Type 0 where
  pub begun : IsBeginning text
  pub none : IsNoDump text

-- the line that ends the header is among lines
pub record IsBody (before : List (List ℕ)) : Type 0 where
  pub earlier : List (List ℕ)
  pub later : List (List ℕ)
  pub is : before ≡ earlier ++ end_of_definitions ∷ later

-- ---- kinds of lines

-- a line begins with `#`
abbrev pub IsOfTime : List ℕ → Type 0
IsOfTime line = (rest : List ℕ) × (line ≡ 35 ∷ rest)

-- a line has the shape of a change of a code: a digit and the code, or `b`, digits, a space and the code (clause 18.2.2)
pub data IsShaped (number : ℕ) : List ℕ → Type 0 where
  bit : (d : Digit) → IsShaped number (digit_character d ∷ code number)
  word : (d : Digit) (ds : List Digit) → IsShaped number (98 ∷ map digit_character (d ∷ ds) ++ 32 ∷ code number)

-- no variable that is declared in the lines before has the code of this number
abbrev pub IsUndeclared : List (List ℕ) → ℕ → Type 0
IsUndeclared before number =
    (rest : List ℕ) (x : PlainDump) → IsLayout (text_of before ++ rest) x → length (widths_of x.declarations) ≤ number

-- a line has the shape of a change of a code that no variable has
pub record IsOfNoCode (before : List (List ℕ)) (line : List ℕ) : Type 0 where
  pub number : ℕ
  pub shaped : IsShaped number line
  pub undeclared : IsUndeclared before number

-- ---- faults

-- a bad line before the body
pub record IsBadInHeader (text : List ℕ) : Type 0 where
  pub before : List (List ℕ)
  pub line : List ℕ
  pub bad : IsBadLine text before line
  pub header : IsBody before → ⊥

-- a bad line of the body, of a kind
pub record IsBadInBody (text : List ℕ) (IsKind : List (List ℕ) → List ℕ → Type 0) : Type 0 where
  pub before : List (List ℕ)
  pub line : List ℕ
  pub bad : IsBadLine text before line
  pub body : IsBody before
  pub kind : IsKind before line

-- why a text is not of the layout: want of memory is told of none
abbrev pub IsFault : List ℕ → VcdFault → Type 0
IsFault text f.Memory = Unit {0}
IsFault text f.Header = IsBadInHeader text
IsFault text f.Time = IsBadInBody text (λ before line. IsOfTime line)
IsFault text f.Code = IsBadInBody text (λ before line. IsOfNoCode before line)
IsFault text f.Line = IsBadInBody text (λ before line. (IsOfTime line → ⊥) × (IsOfNoCode before line → ⊥))
IsFault text f.Cut = IsCutShort text
