-- The truth of a vector and the equality operators.
use Rattle.std.specs.Prelude.{Bool, true, false, ◌&&◌, ◌||◌, if◌then◌else◌, List, [], ◌∷◌}
use Rattle.std.specs.List.{list_any, list_all}
use Rattle.vs_logic4.specs.declared.digit.Digit.{Digit}
use Rattle.vs_logic4.specs.declared.digit.Digit.TheVariants.{Zero, One, X}
use Rattle.vs_logic4.specs.Vectors.{same_digit}
use Rattle.vs_logic4.specs.Tables.{is_known_digit, are_known_and_differ, matches_casez, matches_casex}

-- no digit is x or z
abbrev pub is_known : List Digit → Bool
is_known ds = list_all is_known_digit ds

-- some position of two vectors meets a test
abbrev pub some_position : (Digit → Digit → Bool) → List Digit → List Digit → Bool
some_position test [] es = false
some_position test (d ∷ ds) [] = false
some_position test (d ∷ ds) (e ∷ es) = test d e || some_position test ds es

-- each position of two vectors meets a test
abbrev pub each_position : (Digit → Digit → Bool) → List Digit → List Digit → Bool
each_position test [] es = true
each_position test (d ∷ ds) [] = true
each_position test (d ∷ ds) (e ∷ es) = test d e && each_position test ds es

-- the truth of a vector: 1 if some digit is 1, 0 if all are 0, else x (clause 5.1.9)
abbrev pub truth : List Digit → Digit
truth ds = if list_any (same_digit One) ds then One else (if list_all (same_digit Zero) ds then Zero else X)

-- `==`: 0 if two known digits differ at some position, else x if a digit is x or z, else 1 (clause 5.1.8, profile)
abbrev pub logical_equality : List Digit → List Digit → Digit
logical_equality ds es =
    if some_position are_known_and_differ ds es then Zero else (if is_known ds && is_known es then One else X)

-- an item of `casez` matches (clause 9.5.1)
abbrev pub casez_equality : List Digit → List Digit → Bool
casez_equality ds es = each_position matches_casez ds es

-- an item of `casex` matches (clause 9.5.1)
abbrev pub casex_equality : List Digit → List Digit → Bool
casex_equality ds es = each_position matches_casex ds es
