-- How operands and left sides begin.
use Rattle.std.specs.Prelude.{◌≡◌, ℕ, false, List, ◌∷◌, Option, Some, None}
use Rattle.vs_syntax.specs.vs_lexer.specs.declared.token.Kind.{Kind}
use Rattle.vs_syntax.specs.vs_lexer.specs.declared.token.Mark.TheVariants as m
use Rattle.vs_syntax.specs.Symbols.{Symbol, a_mark, a_cast, a_print, a_finish, a_dump, a_time, another, any_name, any_number, class_of, same_class, symbol_of, first}
use Rattle.vs_syntax.specs.Views.{unary_mark}
use Rattle.vs_parse_expressions.specs.declared.head.OperandHead.{OperandHead}
use Rattle.vs_parse_expressions.specs.declared.head.OperandHead.TheVariants as o
use Rattle.vs_parse_expressions.specs.declared.token.SystemName.{SystemName}
use Rattle.vs_parse_expressions.specs.declared.token.SystemName.TheVariants as n
use Rattle.vs_parse_expressions.specs.declared.head.LeftHead.{LeftHead}
use Rattle.vs_parse_expressions.specs.declared.head.LeftHead.TheVariants as l
use Rattle.vs_parse_expressions.specs.Answers.{seen}

-- the token of these bytes is no number
abbrev pub NoNumber : Kind → List ℕ → Type 0
NoNumber kind bytes = same_class (class_of (symbol_of kind bytes)) any_number ≡ false

-- the symbols begin an operand so
abbrev pub BeginsOperand : List Symbol → OperandHead → Type 0
BeginsOperand ts o.Number = first ts ≡ any_number
BeginsOperand ts o.Name = first ts ≡ any_name
BeginsOperand ts (o.Unary op rest) = ts ≡ a_mark (unary_mark op) ∷ seen rest.now
BeginsOperand ts (o.Open rest) = ts ≡ a_mark m.Open ∷ seen rest.now
BeginsOperand ts (o.Brace rest) = ts ≡ a_mark m.OpenBrace ∷ seen rest.now
BeginsOperand ts (o.Cast s rest) = ts ≡ a_cast s ∷ seen rest.now

-- the symbols begin the left side of an assignment so
abbrev pub BeginsTarget : List Symbol → LeftHead → Type 0
BeginsTarget ts l.Name = first ts ≡ any_name
BeginsTarget ts (l.Brace rest) = ts ≡ a_mark m.OpenBrace ∷ seen rest.now

-- the symbol of a system name, if it is one of the grammar
abbrev pub system_spelled : Option SystemName → Symbol
system_spelled None = another
system_spelled (Some (n.Cast s)) = a_cast s
system_spelled (Some (n.Print x)) = a_print x
system_spelled (Some n.Finish) = a_finish
system_spelled (Some (n.Dump x)) = a_dump x
system_spelled (Some n.Time) = a_time
