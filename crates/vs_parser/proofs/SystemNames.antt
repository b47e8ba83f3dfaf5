-- System names that the grammar has nowhere.
use Rattle.std.specs.Prelude.{◌≡◌, ℕ, Bool, true, false, not, ◌&&◌, is_none, List, [], ◌∷◌, Option, Some, None, if◌then◌else◌, refl}
use Rattle.std.proofs.Common.{sym, ◌∙◌, ap}
use Rattle.std.specs.Str.{bytes_eq}
use Rattle.std.proofs.lemmas.Bool.{not-true as not_true}
use Rattle.vs_syntax.specs.Symbols.{Symbol, another, system_names, symbol_named, system_symbol}
use Rattle.vs_syntax.specs.vs_logic4.proofs.Basics.{and_left, and_right}
use Rattle.vs_parser.specs.vs_parse_expressions.specs.declared.token.SystemName.{SystemName}
use Rattle.vs_parser.specs.vs_parse_expressions.specs.declared.token.SystemName.TheVariants as n
use Rattle.vs_parser.specs.vs_parse_expressions.specs.Heads.{system_spelled}
use Rattle.vs_parser.specs.LeftOut.{is_no_system}

-- whether a symbol is of a token that no rule of the grammar has
abbrev is_another : Symbol → Bool
is_another another = true
is_another _ = false

abbrev have_rules : List (List ℕ × Symbol) → Bool
have_rules [] = true
have_rules (x ∷ xs) = not (is_another x.1) && have_rules xs

named_another : (xs : List (List ℕ × Symbol)) (bytes : List ℕ) → have_rules xs ≡ true → is_another (symbol_named xs bytes) ≡ is_no_system xs bytes
named_another [] bytes h = refl
named_another (x ∷ xs) bytes h =
    elim (bytes_eq x.0 bytes) as (λ b. is_another (if b then x.1 else symbol_named xs bytes) ≡ (not b && is_no_system xs bytes)) [
      | true ↦ not_true (is_another x.1) (and_left (not (is_another x.1)) (have_rules xs) h)
      | false ↦ named_another xs bytes (and_right (not (is_another x.1)) (have_rules xs) h)
    ]

spelled_none : (r : Option SystemName) → is_another (system_spelled r) ≡ is_none r
spelled_none None = refl
spelled_none (Some (n.Cast s)) = refl
spelled_none (Some (n.Print x)) = refl
spelled_none (Some n.Finish) = refl
spelled_none (Some (n.Dump x)) = refl
spelled_none (Some n.Time) = refl

-- a system name is left out where none of the grammar has its bytes
pub left_out_name : (r : Option SystemName) (bytes : List ℕ) → system_spelled r ≡ system_symbol bytes → is_none r ≡ is_no_system system_names bytes
left_out_name r bytes h = sym (spelled_none r) ∙ ap is_another h ∙ named_another system_names bytes refl
