-- The names of modules are among the tokens that derive them.
use Rattle.std.proofs.Common.{◌≡◌, ℕ, ◌&&◌, Bool, true, false, List, [], ◌∷◌, if◌then◌else◌, refl, ap₂, ◌∙◌}
use Rattle.std.specs.List.{list_all}
use Rattle.std.specs.Str.{bytes_eq}
use Rattle.vs_design.specs.vs_logic4.proofs.Basics.{and_left, and_right}
use Rattle.vs_syntax.specs.vs_lexer.specs.declared.token.Kind.{Kind}
use Rattle.vs_syntax.specs.vs_lexer.specs.declared.token.Kind.TheVariants as k
use Rattle.vs_syntax.specs.vs_lexer.specs.Tokens.{Lexeme}
use Rattle.vs_elaborate.specs.PrintableNames.{name_passes, token_passes}
use Rattle.vs_syntax.specs.Symbols.{Symbol, a_name, symbol_named, system_names, symbol_of, symbols}
use Rattle.vs_syntax.specs.SourceNames.{NamesAreTokens, declared_names}
use Rattle.vs_scopes.specs.Uses.{names_used_among, UsedAreTokens}
use Rattle.vs_elaborate.specs.Named.{NamesOfModulesAreTokens}
use Rattle.vs_elaborate.proofs.GoodTextLemmas.{both}

module _ (good : List ℕ → Bool) where
  -- whether a symbol is no name, or one that passes
  abbrev symbol_passes : Symbol → Bool
  symbol_passes (a_name n) = good n
  symbol_passes _ = true

  of_named : (xs : List (List ℕ × Symbol)) (bytes : List ℕ) → list_all (λ (x : List ℕ × Symbol). symbol_passes x.1) xs ≡ true → symbol_passes (symbol_named xs bytes) ≡ true
  of_named [] bytes h = refl
  of_named (x ∷ xs) bytes h =
      elim (bytes_eq x.0 bytes) as (λ b. symbol_passes (if b then x.1 else symbol_named xs bytes) ≡ true) [
        | true ↦ and_left (symbol_passes x.1) (list_all (λ (y : List ℕ × Symbol). symbol_passes y.1) xs) h
        | false ↦ of_named xs bytes (and_right (symbol_passes x.1) (list_all (λ (y : List ℕ × Symbol). symbol_passes y.1) xs) h)
      ]

  of_kind : (kind : Kind) (bytes : List ℕ) → symbol_passes (symbol_of kind bytes) ≡ name_passes good kind bytes
  of_kind (k.Mark m) bytes = refl
  of_kind (k.Word w) bytes = refl
  of_kind k.Name bytes = refl
  of_kind (k.Number l) bytes = refl
  of_kind k.System bytes = of_named system_names bytes refl
  of_kind _ bytes = refl

  of_tokens : (ts : List Lexeme) → list_all symbol_passes (symbols ts) ≡ list_all (token_passes good) ts
  of_tokens [] = refl
  of_tokens (t ∷ ts) = ap₂ (λ (a b : Bool). a && b) (of_kind t.kind t.bytes) (of_tokens ts)

-- by the laws of the syntax and of the pieces of scopes
pub modules_pass : NamesAreTokens → UsedAreTokens → NamesOfModulesAreTokens
modules_pass names used good tokens s h derived =
    let ms = s.modules.items in
    let each : list_all (symbol_passes good) (symbols tokens) ≡ true = of_tokens good tokens ∙ h in
    both good (declared_names ms) (names_used_among ms) (names (symbol_passes good) (symbols tokens) s derived each)
    (used (symbol_passes good) (symbols tokens) s derived each)
