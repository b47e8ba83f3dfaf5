-- The names of a design that bytes define hold no line feed.
use Rattle.std.proofs.Common.{◌≡◌, ℕ, ◌&&◌, Bool, true, List, [], ◌∷◌, refl, ap₂, ◌∙◌}
use Rattle.std.specs.List.{list_all}
use Rattle.vs_syntax.specs.vs_lexer.specs.declared.token.Kind.{Kind}
use Rattle.vs_syntax.specs.vs_lexer.specs.declared.token.Kind.TheVariants as k
use Rattle.vs_syntax.specs.vs_lexer.specs.NameLines.{is_one_line, has_one_line_name, is_one_line_token}
use Rattle.vs_syntax.specs.vs_lexer.specs.Spelling.{IsSpelled}
use Rattle.vs_syntax.specs.vs_lexer.specs.Tokens.{Lexeme}
use Rattle.vs_elaborate.specs.PrintableNames.{name_passes, token_passes}
use Rattle.vs_syntax.specs.declared.tree.Source.{Source}
use Rattle.vs_design.specs.OneLine.{HasNamesOfOneLine}
use Rattle.vs_design.specs.Parts.{Parts}
use Rattle.vs_elaborate.specs.DesignOf.{DesignOf}
use Rattle.vs_elaborate.specs.Named.{NamesOfModulesAreTokens}
use Rattle.vs_elaborate.specs.OneLine.{HasModulesOfOneLine}
use Rattle.vs_simulate.specs.Honesty.{Defines}

of_kind : (kind : Kind) (bytes : List ℕ) → name_passes is_one_line kind bytes ≡ has_one_line_name kind bytes
of_kind k.Name bytes = refl
of_kind _ bytes = refl

of_tokens : (ts : List Lexeme) → list_all (token_passes is_one_line) ts ≡ list_all is_one_line_token ts
of_tokens [] = refl
of_tokens (t ∷ ts) = ap₂ (λ (a b : Bool). a && b) (of_kind t.kind t.bytes) (of_tokens ts)

-- by the laws of the tokens, of the modules and of the elaboration
pub names_hold : ((source : List ℕ) (tokens : List Lexeme) → IsSpelled source tokens → list_all is_one_line_token tokens ≡ true) → NamesOfModulesAreTokens →
    ((s : Source) (top : List ℕ) (d : Parts) → HasModulesOfOneLine s.modules.items → DesignOf s top d → HasNamesOfOneLine d) →
    (bytes top : List ℕ) (d : Parts) → Defines bytes top d → HasNamesOfOneLine d
names_hold spelled modules defined bytes top d h =
    let tokens = h.read.tokens in
    let each : list_all (token_passes is_one_line) tokens ≡ true = of_tokens tokens ∙ spelled bytes tokens h.read.spelled in
    defined h.source top d (modules is_one_line tokens h.source each h.read.derived) h.defined
