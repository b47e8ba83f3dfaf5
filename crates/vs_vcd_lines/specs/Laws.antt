-- What a line says, it says alone.
use Rattle.std.specs.Prelude.{◌≡◌, ℕ}
use Rattle.vs_vcd_lines.specs.declared.dump.Variable.{Variable}
use Rattle.vs_vcd_lines.specs.Lines.{variable_line, IsVariable}

-- two variables are declared alike
pub record AreAlike (v w : Variable) : Type 0 where
  pub kind : v.kind ≡ w.kind
  pub width : v.width ≡ w.width
  pub name : v.name.items ≡ w.name.items
  pub range : v.range ≡ w.range

-- lines that are the same declare variables alike, and their codes have the same number
abbrev pub VariableLinesAreOne : Type 0
VariableLinesAreOne =
    (v w : Variable) (m n : ℕ) → IsVariable v → IsVariable w → variable_line v m ≡ variable_line w n → (m ≡ n) × AreAlike v w
