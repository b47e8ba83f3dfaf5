-- What a policy that makes the choices of a list chooses.
use Rattle.std.specs.Prelude.{ℕ, ◌%◌, List, [], ◌∷◌}

-- the choice among so many: that of the first number, modulo how many there are; the first one where no number is left (profile)
abbrev pub listed_choice : List ℕ → ℕ → ℕ
listed_choice [] n = 0
listed_choice (v ∷ vs) n = v % n

-- the numbers after the first one
abbrev pub other_choices : List ℕ → List ℕ
other_choices [] = []
other_choices (v ∷ vs) = vs
