-- The parts of lines, as the readers find them: nothing that is promised rests on these.
use Rattle.std.specs.Prelude.{◌≡◌, ℕ, length, map, ◌<◌, ◌≤◌, true, Option, List, ◌∷◌, ◌++◌, codes, decimal}
use Rattle.std.specs.Fmt.{signed_decimal}
use Rattle.vs_design.specs.declared.signal.Bounds.{Bounds}
use Rattle.vs_design.specs.declared.signal.SignalKind.{SignalKind}
use Rattle.vs_design.specs.vs_logic4.specs.declared.digit.Digit.{Digit}
use Rattle.vs_vcd_writing.specs.Codes.{code}
use Rattle.vs_vcd_writing.specs.Values.{digit_character}
use Rattle.vs_vcd_writing.specs.Text.{kind_word, range_text}
use Rattle.vs_vcd_lines.specs.Cuts.{lacks}
use Rattle.vs_vcd_lines.specs.Names.{IsName, IsShort}
use Rattle.vs_vcd_lines.specs.Lines.{IsRange}

-- three words, each with a space after it, and what stands after them
pub record AreThree (text a b c rest : List ℕ) : Type 0 where
  pub is : text ≡ a ++ (32 ∷ (b ++ (32 ∷ (c ++ (32 ∷ rest)))))
  pub first : lacks 32 a ≡ true
  pub second : lacks 32 b ≡ true
  pub third : lacks 32 c ≡ true

-- a word writes a size of 1 to 64 bits
pub record IsSize (word : List ℕ) (width : ℕ) : Type 0 where
  pub some : 0 < width
  pub most : width ≤ 64
  pub is : word ≡ decimal width

-- a line begins as that of a variable of this kind and size, whose code has this number
pub record IsShape (line : List ℕ) (number : ℕ) (kind : SignalKind) (width : ℕ) (rest : List ℕ) : Type 0 where
  pub some : 0 < width
  pub most : width ≤ 64
  pub is : line ≡ codes "$var " ++ (kind_word kind ++ (32 ∷ (decimal width ++ (32 ∷ (code number ++ (32 ∷ rest))))))

-- a text writes the bounds of a range
pub record AreBounds (text : List ℕ) (b : Bounds) : Type 0 where
  pub left : IsShort b.left
  pub right : IsShort b.right
  pub is : text ≡ signed_decimal b.left ++ (58 ∷ signed_decimal b.right)

-- a text is a name and a range after it
pub record IsRanged (text name : List ℕ) (b : Bounds) : Type 0 where
  pub named : IsName name
  pub left : IsShort b.left
  pub right : IsShort b.right
  pub is : text ≡ name ++ (codes " [" ++ signed_decimal b.left ++ codes ":" ++ signed_decimal b.right ++ codes "]")

-- a text is a name, a range where there is one, and the end of a declaration
pub record IsNamed (text name : List ℕ) (range : Option Bounds) : Type 0 where
  pub named : IsName name
  pub ranged : IsRange range
  pub is : text ≡ name ++ range_text range ++ codes " $end"

-- characters stand for digits, at least one
pub record IsSpelled (text : List ℕ) (ds : List Digit) : Type 0 where
  pub some : 0 < length ds
  pub is : text ≡ map digit_character ds
