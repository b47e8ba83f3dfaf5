-- Identifier codes of a value change dump, and which signals have one.
use Rattle.std.specs.Prelude.{ℕ, zero, suc, ◌+◌, ◌-◌, ◌/◌, ◌%◌, ◌==◌, nat_lt, Bool, if◌then◌else◌}
use Rattle.std.specs.Prelude.{Option, Some, None, is_some, List, [], ◌∷◌}
use Rattle.vs_design.specs.declared.signal.Signal.{Signal}
use Rattle.vs_design.specs.Parts.{Parts}

-- the first characters of a code, at most one more than the fuel
abbrev pub code_with_fuel : ℕ → ℕ → List ℕ
code_with_fuel zero n = (33 + n % 94) ∷ []
code_with_fuel (suc fuel) n = if nat_lt n 94 then (33 + n) ∷ [] else (33 + n % 94) ∷ code_with_fuel fuel (n / 94 - 1)

-- the code of this number: printable characters from `!` to `~` (clause 18.2.1; which ones: profile)
abbrev pub code : ℕ → List ℕ
code n = code_with_fuel n n

-- whether a signal is an array (clause 4.9)
abbrev pub is_array : Signal → Bool
is_array s = is_some s.words

-- the numbers of those signals that are no array, where the first signal has this number
abbrev pub shown_from : ℕ → List Signal → List ℕ
shown_from number [] = []
shown_from number (s ∷ ss) = if is_array s then shown_from (suc number) ss else number ∷ shown_from (suc number) ss

-- the numbers of the signals that a dump shows, in design order: those that are no array (profile)
abbrev pub shown : Parts → List ℕ
shown d = shown_from 0 d.signals

-- the place of a number in a list whose first place is this one, where it stands there
abbrev pub place_from : ℕ → List ℕ → ℕ → Option ℕ
place_from place [] number = None
place_from place (n ∷ ns) number = if n == number then Some place else place_from (suc place) ns number

-- the place of a number in a list; that of a signal among the shown ones is the number of its code (profile)
abbrev pub place_of : List ℕ → ℕ → Option ℕ
place_of numbers number = place_from 0 numbers number
