-- The shift operators.
use Rattle.std.specs.Prelude.{ℕ, ◌-◌, min, Bool, if◌then◌else◌, List, ◌++◌, length, take, drop, replicate}
use Rattle.vs_logic4.specs.declared.digit.Digit.{Digit}
use Rattle.vs_logic4.specs.declared.digit.Digit.TheVariants.{Zero}
use Rattle.vs_logic4.specs.Vectors.{extension_digit, all_unknown}
use Rattle.vs_logic4.specs.Comparisons.{is_known}
use Rattle.vs_logic4.specs.Arithmetic.{number}

-- a vector moved left by a number of places, with 0 behind it (clause 5.1.12)
abbrev pub moved_left : ℕ → List Digit → List Digit
moved_left n ds = replicate (min n (length ds)) Zero ++ take (length ds - n) ds

-- a vector moved right by a number of places, with 0 or, where signed, its top digit behind it (clause 5.1.12)
abbrev pub moved_right : Bool → ℕ → List Digit → List Digit
moved_right signed n ds = drop n ds ++ replicate (min n (length ds)) (extension_digit signed ds)

-- `<<` and `<<<`: x in every place if the amount has an x or z (clause 5.1.12)
abbrev pub left_shift : List Digit → List Digit → List Digit
left_shift ds amount = if is_known amount then moved_left (number amount) ds else all_unknown (length ds)

-- `>>` unsigned, and `>>>` with the sign of its value: x in every place if the amount has an x or z (clause 5.1.12)
abbrev pub right_shift : Bool → List Digit → List Digit → List Digit
right_shift signed ds amount =
    if is_known amount then moved_right signed (number amount) ds else all_unknown (length ds)
