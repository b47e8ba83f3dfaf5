-- How a `case` statement compares (clauses 9.5 and 9.5.1).
use Rattle.std.specs.Prelude.{Bool, true, false, ◌&&◌, ◌||◌, List, [], ◌∷◌}
use Rattle.vs_logic4.specs.declared.digit.Digit.{Digit}
use Rattle.vs_logic4.specs.declared.digit.Digit.TheVariants.{X, Z}
use Rattle.vs_logic4.specs.declared.case.CaseKind.{CaseKind}
use Rattle.vs_logic4.specs.declared.case.CaseKind.TheVariants.{Casez, Casex}
use Rattle.vs_logic4.specs.Vectors.{same_digit}

-- whether a digit counts as equal to every other one (clause 9.5.1)
abbrev pub is_wild : CaseKind → Digit → Bool
is_wild Casez Z = true
is_wild Casex X = true
is_wild Casex Z = true
is_wild _ _ = false

-- whether two digits match
abbrev pub digits_match : CaseKind → Digit → Digit → Bool
digits_match kind a b = is_wild kind a || is_wild kind b || same_digit a b

-- whether two vectors of one size match, digit by digit
abbrev pub matches : CaseKind → List Digit → List Digit → Bool
matches kind [] [] = true
matches kind (a ∷ as') (b ∷ bs) = digits_match kind a b && matches kind as' bs
matches kind _ _ = false
