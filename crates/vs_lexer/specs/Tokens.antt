-- Tokens.
use Rattle.std.specs.Prelude.{ℕ, ◌==◌, Bool, true, false, List, [], ◌∷◌, map, if◌then◌else◌, codes}
use Rattle.vs_lexer.specs.declared.refusal.Refusal.{Refusal}
use Rattle.vs_lexer.specs.declared.refusal.Refusal.TheVariants as r
use Rattle.vs_lexer.specs.declared.token.Kind.{Kind}
use Rattle.vs_lexer.specs.declared.token.Mark.{Mark}
use Rattle.vs_lexer.specs.declared.token.Mark.TheVariants as m
use Rattle.vs_lexer.specs.declared.token.Token.{Token}

-- a token: what it is, the place of its first byte in the source, and its bytes
pub record Lexeme : Type 0 where
  pub kind : Kind
  pub place : ℕ
  pub bytes : List ℕ

-- a token without where its bytes lie in memory
abbrev pub lexeme : Token → Lexeme
lexeme t = record { kind = t.kind; place = t.place; bytes = t.bytes.now }

abbrev pub lexemes : List Token → List Lexeme
lexemes ts = map lexeme ts

-- the name that a name's bytes stand for: an escaped name's backslash is no part of it (clause 3.7.1)
abbrev pub name_of : List ℕ → List ℕ
name_of [] = []
name_of (b ∷ bs) = if b == 92 then bs else b ∷ bs

-- the operators that the subset leaves out (profile)
abbrev pub is_left_out : Mark → Bool
is_left_out m.Power = true
is_left_out m.Trigger = true
is_left_out m.ParallelPath = true
is_left_out m.FullPath = true
is_left_out m.EventAnd = true
is_left_out _ = false

-- the number of a refusal, as it is printed (profile)
abbrev pub refusal_text : Refusal → List ℕ
refusal_text r.BadByte = codes "L1"
refusal_text r.Unclosed = codes "L2"
refusal_text r.BadLiteral = codes "L3"
refusal_text r.TooLarge = codes "L4"
refusal_text r.BadDirective = codes "L5"
refusal_text r.TooLong = codes "L6"
