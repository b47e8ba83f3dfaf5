-- What is kept of each signal, as codes and words: nothing that is promised rests on this.
use Rattle.std.specs.Prelude.{ℕ, Option, List, [], ◌∷◌}
use Rattle.vs_design.specs.vs_logic4.specs.declared.digit.Digit.{Digit}
use Rattle.vs_vcd_writing.specs.declared.kept.Kept.{Kept}

-- of each signal the number of its code and its word
abbrev pub kept_of : List (Option ℕ) → List (List Digit) → List Kept
kept_of [] words = []
kept_of (c ∷ cs) [] = []
kept_of (c ∷ cs) (w ∷ ws) = record { code = c; value = w } ∷ kept_of cs ws
