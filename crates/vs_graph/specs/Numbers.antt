-- Numbers in order, and where one stands.
use Rattle.std.specs.Prelude.{ℕ, ◌≡◌, ◌<◌, ◌==◌, true, false, Option, Some, None, List, get_or, length}

-- each number is below those after it
abbrev pub Rise : List ℕ → Type 0
Rise xs = (i j : ℕ) → i < j → j < length xs → get_or xs i 0 < get_or xs j 0

-- the first place of a number, where it is there
abbrev pub IsPlaceOf : List ℕ → ℕ → Option ℕ → Type 0
IsPlaceOf xs x None = (k : ℕ) → k < length xs → (get_or xs k 0 == x) ≡ false
IsPlaceOf xs x (Some i) = (i < length xs) × ((get_or xs i 0 == x) ≡ true) × ((k : ℕ) → k < i → (get_or xs k 0 == x) ≡ false)
