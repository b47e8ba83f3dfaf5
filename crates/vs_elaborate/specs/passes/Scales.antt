-- What the functions on time scales answer.
use Rattle.std.specs.Prelude.{List, [], ◌∷◌, Option, Some, None}

-- a value, where there is one, as a list
abbrev pub as_list : {A : Type 0} → Option A → List A
as_list None = []
as_list (Some x) = x ∷ []

-- the first of a list, where there is one
abbrev pub first_of : {A : Type 0} → List A → Option A
first_of [] = None
first_of (x ∷ xs) = Some x
