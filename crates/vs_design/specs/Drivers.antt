-- The start of a store as it is made, one driven place after another: nothing that is promised rests on these.
use Rattle.std.specs.Prelude.{ℕ, ◌==◌, false, if◌then◌else◌, List, [], ◌∷◌, length, replicate}
use Rattle.vs_logic4.specs.declared.digit.Digit.{Digit}
use Rattle.vs_logic4.specs.Vectors.{all_unknown}
use Rattle.vs_design.specs.declared.design.Assign.{Assign}
use Rattle.vs_design.specs.declared.signal.Signal.{Signal}
use Rattle.vs_design.specs.declared.statement.Aim.{Aim}
use Rattle.vs_design.specs.declared.statement.Aim.TheVariants.{Fixed, Chosen}
use Rattle.vs_design.specs.Stores.{Store, changed_at, overlaid, start_digits}
use Rattle.vs_design.specs.Uses.{aim_range}

-- what a word holds without a driver
abbrev pub undriven_word : Signal → List Digit
undriven_word s = start_digits (λ place. false) s.kind 0 s.width

-- a word with x in the bits that a place has
abbrev pub driven_word : Aim → List Digit → List Digit
driven_word (Fixed s) word = if s.word == 0 then overlaid s.low (all_unknown s.width) word else word
driven_word (Chosen s index low) word = all_unknown (length word)

-- a word for each signal, with x in the bits that a place has
abbrev pub driven_at : Aim → List (List Digit) → List (List Digit)
driven_at a words = changed_at (driven_word a) (aim_range a).signal words

abbrev pub driven_by : List Aim → List (List Digit) → List (List Digit)
driven_by [] words = words
driven_by (a ∷ as') words = driven_by as' (driven_at a words)

abbrev pub all_driven : List Assign → List (List Digit) → List (List Digit)
all_driven [] words = words
all_driven (a ∷ rest) words = all_driven rest (driven_by a.target.parts.items words)

-- each word as often as its signal has words, by their counts
abbrev pub in_copies : List ℕ → List (List Digit) → Store
in_copies [] words = []
in_copies (n ∷ ns) [] = []
in_copies (n ∷ ns) (w ∷ ws) = replicate n w ∷ in_copies ns ws
