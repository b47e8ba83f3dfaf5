-- The operators of expressions, by their marks (IEEE 1364-2005, clauses 5.1 and 5.1.2).
use Rattle.std.specs.Prelude.{◌≡◌, ℕ, true, false, List, ◌∷◌, Option, None, Some}
use Rattle.vs_syntax.specs.vs_logic4.specs.declared.operators.Unary.{Unary}
use Rattle.vs_syntax.specs.vs_logic4.specs.declared.operators.Unary.TheVariants as u
use Rattle.vs_syntax.specs.vs_logic4.specs.declared.operators.Binary.{Binary}
use Rattle.vs_syntax.specs.vs_logic4.specs.declared.operators.Binary.TheVariants as b
use Rattle.vs_syntax.specs.vs_lexer.specs.declared.token.Mark.{Mark}
use Rattle.vs_syntax.specs.vs_lexer.specs.declared.token.Mark.TheVariants as m
use Rattle.vs_syntax.specs.Symbols.{Symbol, a_mark, the_mark, first}
use Rattle.vs_syntax.specs.Grammar.{levels, level_at}
use Rattle.vs_syntax.specs.Tables.{mark_fronts, among}
use Rattle.vs_syntax.specs.Views.{binary_mark}

-- the operator that a mark is before an operand
abbrev pub unary_of : Mark → Option Unary
unary_of m.Plus = Some u.Plus
unary_of m.Minus = Some u.Minus
unary_of m.Not = Some u.LogicalNot
unary_of m.Tilde = Some u.Not
unary_of m.And = Some u.ReduceAnd
unary_of m.Nand = Some u.ReduceNand
unary_of m.Or = Some u.ReduceOr
unary_of m.Nor = Some u.ReduceNor
unary_of m.Xor = Some u.ReduceXor
unary_of m.Xnor = Some u.ReduceXnor
unary_of _ = None

-- the level and the operator that a mark is between operands
abbrev pub binary_of : Mark → Option (ℕ × Binary)
binary_of m.Star = Some (0, b.Multiply)
binary_of m.Slash = Some (0, b.Divide)
binary_of m.Percent = Some (0, b.Remainder)
binary_of m.Plus = Some (1, b.Add)
binary_of m.Minus = Some (1, b.Subtract)
binary_of m.ShiftLeft = Some (2, b.ShiftLeft)
binary_of m.ShiftRight = Some (2, b.ShiftRight)
binary_of m.ArithmeticShiftLeft = Some (2, b.SignedShiftLeft)
binary_of m.ArithmeticShiftRight = Some (2, b.SignedShiftRight)
binary_of m.Less = Some (3, b.Less)
binary_of m.LessEqual = Some (3, b.LessEqual)
binary_of m.Greater = Some (3, b.Greater)
binary_of m.GreaterEqual = Some (3, b.GreaterEqual)
binary_of m.Equal = Some (4, b.Equal)
binary_of m.NotEqual = Some (4, b.NotEqual)
binary_of m.CaseEqual = Some (4, b.CaseEqual)
binary_of m.CaseNotEqual = Some (4, b.CaseNotEqual)
binary_of m.And = Some (5, b.And)
binary_of m.Xor = Some (6, b.Xor)
binary_of m.Xnor = Some (6, b.Xnor)
binary_of m.Or = Some (7, b.Or)
binary_of m.LogicalAnd = Some (8, b.LogicalAnd)
binary_of m.LogicalOr = Some (9, b.LogicalOr)
binary_of _ = None

-- the next symbol is no operator of the level
abbrev pub NoOperator : ℕ → List Symbol → Type 0
NoOperator n ts = among (first ts) (mark_fronts 0 (level_at levels n)) ≡ false

-- The symbols are an operator of the level and those behind it.
pub record BeginsLink (n : ℕ) (ts : List Symbol) (op : Binary) (after : List Symbol) : Type 0 where
  pub level : among (the_mark (binary_mark op)) (mark_fronts 0 (level_at levels n)) ≡ true
  pub text : ts ≡ a_mark (binary_mark op) ∷ after
