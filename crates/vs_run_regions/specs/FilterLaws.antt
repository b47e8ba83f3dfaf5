-- Lists that have an element.
use Rattle.std.specs.Prelude.{Bool, true, false, List, [], ◌∷◌}

-- whether a list has an element
abbrev pub is_filled : {A : Type 0} → List A → Bool
is_filled [] = false
is_filled (x ∷ xs) = true
