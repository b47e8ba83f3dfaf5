-- Names hold no line feed (IEEE 1364-2005, clauses 3.7 and 3.7.1).
use Rattle.std.specs.Prelude.{ℕ, ◌==◌, Bool, true, not, List}
use Rattle.std.specs.List.{list_all}
use Rattle.vs_lexer.specs.declared.token.Kind.{Kind}
use Rattle.vs_lexer.specs.declared.token.Kind.TheVariants as k
use Rattle.vs_lexer.specs.Tokens.{Lexeme, name_of}

-- whether no byte is a line feed
abbrev pub is_one_line : List ℕ → Bool
is_one_line bytes = list_all (λ b. not (b == 10)) bytes

-- whether these bytes, where they are a name, stand for one without line feed (clauses 3.7 and 3.7.1)
abbrev pub has_one_line_name : Kind → List ℕ → Bool
has_one_line_name k.Name bytes = is_one_line (name_of bytes)
has_one_line_name _ bytes = true

-- whether a token is no name, or a name without line feed
abbrev pub is_one_line_token : Lexeme → Bool
is_one_line_token x = has_one_line_name x.kind x.bytes
