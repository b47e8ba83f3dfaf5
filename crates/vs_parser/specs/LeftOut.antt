-- Tokens that the subset of the language leaves out (profile).
use Rattle.std.specs.Prelude.{ℕ, Bool, true, false, not, ◌&&◌, List, [], ◌∷◌}
use Rattle.std.specs.Str.{bytes_eq}
use Rattle.vs_syntax.specs.vs_lexer.specs.declared.token.Kind.{Kind}
use Rattle.vs_syntax.specs.vs_lexer.specs.declared.token.Kind.TheVariants as k
use Rattle.vs_syntax.specs.vs_lexer.specs.Tokens as tokens
use Rattle.vs_syntax.specs.Symbols.{Symbol, system_names}

-- whether these are the bytes of none of the system names
abbrev pub is_no_system : List (List ℕ × Symbol) → List ℕ → Bool
is_no_system [] bytes = true
is_no_system (x ∷ xs) bytes = not (bytes_eq x.0 bytes) && is_no_system xs bytes

-- A token of these bytes that is an operator, a reserved word or a system name that the grammar has nowhere: the reserved words that it
-- has are a kind of token of their own.
abbrev pub is_left_out : Kind → List ℕ → Bool
is_left_out (k.Mark x) bytes = tokens.is_left_out x
is_left_out k.LeftOut bytes = true
is_left_out k.System bytes = is_no_system system_names bytes
is_left_out _ bytes = false
