-- What the operators of expressions give.
use Rattle.std.specs.Prelude.{Bool, true, false, List, [], ◌∷◌}
use Rattle.vs_logic4.specs.declared.digit.Digit.{Digit}
use Rattle.vs_logic4.specs.declared.operators.Unary.{Unary}
use Rattle.vs_logic4.specs.declared.operators.Unary.TheVariants as u
use Rattle.vs_logic4.specs.declared.operators.Binary.{Binary}
use Rattle.vs_logic4.specs.declared.operators.Binary.TheVariants as b
use Rattle.vs_logic4.specs.declared.operators.Sizing.{Sizing}
use Rattle.vs_logic4.specs.declared.operators.Sizing.TheVariants as s
use Rattle.vs_logic4.specs.Vectors.{same_digits}
use Rattle.vs_logic4.specs.Tables.{and_digit, or_digit, not_digit, digit_of_test}
use Rattle.vs_logic4.specs.Bitwise.{bitwise_and, bitwise_or, bitwise_xor, bitwise_xnor, bitwise_not, reduced_and, reduced_or, reduced_xor, reduced_nand, reduced_nor, reduced_xnor}
use Rattle.vs_logic4.specs.Comparisons.{truth, logical_equality}
use Rattle.vs_logic4.specs.Arithmetic.{sum_of, difference, product, quotient, remainder, negation, unary_plus, less_than}
use Rattle.vs_logic4.specs.Shifts.{left_shift, right_shift}

-- ---- sizes

-- whether an operator of one operand gives one bit, whatever its operand's size (clause 5.4.1)
abbrev pub gives_bit : Unary → Bool
gives_bit u.Plus = false
gives_bit u.Minus = false
gives_bit u.Not = false
gives_bit _ = true

-- how an operator of two operands sizes them and its result (clause 5.4.1)
abbrev pub sizing_of : Binary → Sizing
sizing_of b.ShiftLeft = s.Shift
sizing_of b.ShiftRight = s.Shift
sizing_of b.SignedShiftLeft = s.Shift
sizing_of b.SignedShiftRight = s.Shift
sizing_of b.Less = s.Comparison
sizing_of b.LessEqual = s.Comparison
sizing_of b.Greater = s.Comparison
sizing_of b.GreaterEqual = s.Comparison
sizing_of b.Equal = s.Comparison
sizing_of b.NotEqual = s.Comparison
sizing_of b.CaseEqual = s.Comparison
sizing_of b.CaseNotEqual = s.Comparison
sizing_of b.LogicalAnd = s.Logical
sizing_of b.LogicalOr = s.Logical
sizing_of _ = s.Alike

-- whether operands of this sizing have one size (clause 5.4.1)
abbrev pub is_even : Sizing → Bool
is_even s.Alike = true
is_even s.Shift = false
is_even s.Comparison = true
is_even s.Logical = false

-- whether the result of this sizing has one bit; else it has as many as the left operand (clause 5.4.1)
abbrev pub is_one_bit : Sizing → Bool
is_one_bit s.Alike = false
is_one_bit s.Shift = false
is_one_bit s.Comparison = true
is_one_bit s.Logical = true

-- ---- results

-- what an operator gives of one operand; `-` wraps signed and unsigned numbers alike (clause 5.1)
abbrev pub unary : Unary → List Digit → List Digit
unary u.Plus ds = unary_plus ds
unary u.Minus ds = negation false ds
unary u.Not ds = bitwise_not ds
unary u.LogicalNot ds = not_digit (truth ds) ∷ []
unary u.ReduceAnd ds = reduced_and ds ∷ []
unary u.ReduceNand ds = reduced_nand ds ∷ []
unary u.ReduceOr ds = reduced_or ds ∷ []
unary u.ReduceNor ds = reduced_nor ds ∷ []
unary u.ReduceXor ds = reduced_xor ds ∷ []
unary u.ReduceXnor ds = reduced_xnor ds ∷ []

-- what an operator gives of two operands, which are signed numbers or unsigned ones (clauses 5.1 and 5.5.1)
abbrev pub binary : Binary → Bool → List Digit → List Digit → List Digit
binary b.Multiply signed ds es = product signed ds es
binary b.Divide signed ds es = quotient signed ds es
binary b.Remainder signed ds es = remainder signed ds es
binary b.Add signed ds es = sum_of signed ds es
binary b.Subtract signed ds es = difference signed ds es
binary b.ShiftLeft signed ds es = left_shift ds es
binary b.ShiftRight signed ds es = right_shift false ds es
binary b.SignedShiftLeft signed ds es = left_shift ds es
binary b.SignedShiftRight signed ds es = right_shift signed ds es
binary b.Less signed ds es = less_than signed ds es ∷ []
binary b.LessEqual signed ds es = not_digit (less_than signed es ds) ∷ []
binary b.Greater signed ds es = less_than signed es ds ∷ []
binary b.GreaterEqual signed ds es = not_digit (less_than signed ds es) ∷ []
binary b.Equal signed ds es = logical_equality ds es ∷ []
binary b.NotEqual signed ds es = not_digit (logical_equality ds es) ∷ []
binary b.CaseEqual signed ds es = digit_of_test (same_digits ds es) ∷ []
binary b.CaseNotEqual signed ds es = not_digit (digit_of_test (same_digits ds es)) ∷ []
binary b.And signed ds es = bitwise_and ds es
binary b.Xor signed ds es = bitwise_xor ds es
binary b.Xnor signed ds es = bitwise_xnor ds es
binary b.Or signed ds es = bitwise_or ds es
binary b.LogicalAnd signed ds es = and_digit (truth ds) (truth es) ∷ []
binary b.LogicalOr signed ds es = or_digit (truth ds) (truth es) ∷ []
