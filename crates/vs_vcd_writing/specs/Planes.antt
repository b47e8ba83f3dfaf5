-- Words in flat planes: nothing that is promised rests on these.
use Rattle.std.specs.Prelude.{ℕ, ◌==◌, ◌&&◌, Bool, List, [], ◌∷◌}
use Rattle.vs_design.specs.vs_logic4.specs.declared.digit.Digit.{Digit}
use Rattle.vs_design.specs.vs_logic4.specs.Planes.{digits_of_planes, ArePlanes}

-- the words of these widths, value planes and unknown planes
abbrev pub words_of : List ℕ → List ℕ → List ℕ → List (List Digit)
words_of [] vs us = []
words_of (w ∷ ws) [] us = []
words_of (w ∷ ws) (v ∷ vs) [] = []
words_of (w ∷ ws) (v ∷ vs) (u ∷ us) = digits_of_planes w v u ∷ words_of ws vs us

-- each plane is as long as the others, and each word of 1 to 64 digits: its planes are zero above its width
abbrev pub AreWords : List ℕ → List ℕ → List ℕ → Type 0
AreWords [] [] [] = Unit {0}
AreWords [] [] (u ∷ us) = ⊥
AreWords [] (v ∷ vs) us = ⊥
AreWords (w ∷ ws) [] us = ⊥
AreWords (w ∷ ws) (v ∷ vs) [] = ⊥
AreWords (w ∷ ws) (v ∷ vs) (u ∷ us) = ArePlanes w v u × AreWords ws vs us

-- whether no flag is set: that of the width, that of the value plane, and that of the unknown plane
abbrev pub are_same : ℕ → ℕ → ℕ → Bool
are_same w v u = (w == 0 && v == 0) && u == 0
