-- The lines of declarations.
use Rattle.std.proofs.Common.{◌≡◌, ℕ, List, codes}
use Rattle.vs_design.specs.declared.design.ScopeKind.{ScopeKind}
use Rattle.vs_vcd_writing.specs.Text.{scope_line}
use Rattle.vs_vcd_lines.specs.declared.dump.Declaration.{Declaration}
use Rattle.vs_vcd_lines.specs.declared.dump.Declaration.TheVariants as d
use Rattle.vs_vcd_lines.specs.declared.dump.Variable.{Variable}
use Rattle.vs_vcd_lines.specs.Names.{IsScopeName}
use Rattle.vs_vcd_lines.specs.Lines.{declaration_line, variable_line, IsDeclaration, IsVariable}

-- a line of no kind is of no declaration
pub declaration_none : (line : List ℕ) (number : ℕ) → (line ≡ codes "$upscope $end" → ⊥)
    → ((kind : ScopeKind) (name : List ℕ) → IsScopeName kind name → line ≡ scope_line kind name → ⊥)
    → ((v : Variable) → IsVariable v → line ≡ variable_line v number → ⊥) → (x : Declaration) → IsDeclaration x → line ≡ declaration_line x number → ⊥
declaration_none line number closes scope variable (d.Scope kind name) h is = scope kind name.items h is
declaration_none line number closes scope variable (d.Variable v) h is = variable v h is
declaration_none line number closes scope variable d.Upscope h is = closes is
