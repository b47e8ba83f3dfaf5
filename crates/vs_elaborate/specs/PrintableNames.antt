-- Names can be printed (IEEE 1364-2005, clauses 3.7 and 3.7.1).
use Rattle.std.specs.Prelude.{ℕ, Bool, true, false, List, [], ◌∷◌}
use Rattle.std.specs.List.{list_all}
use Rattle.vs_lexer.specs.declared.token.Kind.{Kind}
use Rattle.vs_lexer.specs.declared.token.Kind.TheVariants as k
use Rattle.vs_lexer.specs.Bytes.{in_escaped}
use Rattle.vs_lexer.specs.Tokens.{Lexeme, name_of}

-- whether these bytes, where they are a name, stand for one that passes (clauses 3.7 and 3.7.1)
abbrev pub name_passes : (List ℕ → Bool) → Kind → List ℕ → Bool
name_passes good k.Name bytes = good (name_of bytes)
name_passes good _ bytes = true

-- whether a token is no name, or a name that passes
abbrev pub token_passes : (List ℕ → Bool) → Lexeme → Bool
token_passes good x = name_passes good x.kind x.bytes

-- whether a name has a byte, and each of its bytes is printable and no white space (clause 3.7.1)
abbrev pub is_printable_name : List ℕ → Bool
is_printable_name [] = false
is_printable_name (b ∷ bs) = list_all in_escaped (b ∷ bs)
