-- Operators of two operands of one context.
use Rattle.std.specs.Prelude.{ℕ, Bool, List}
use Rattle.vs_design.specs.vs_logic4.specs.declared.digit.Digit.{Digit}
use Rattle.vs_design.specs.vs_logic4.specs.declared.operators.Binary.{Binary}
use Rattle.vs_design.specs.vs_logic4.specs.Operators.{binary, sizing_of}
use Rattle.vs_eval.specs.Values.{left_side, right_side}

-- what an operator gives of two sides, each at the size at which the operator takes it (clauses 5.1 and 5.4.1)
abbrev pub operated : Binary → ℕ → Bool → List Digit → List Digit → List Digit
operated op width signed left right = binary op signed (left_side (sizing_of op) width left) (right_side (sizing_of op) width right)
