-- Activated updates by their number among these.
use Rattle.std.specs.Prelude.{ℕ, zero, suc, not, Bool, List, [], ◌∷◌, if◌then◌else◌}
use Rattle.vs_process.specs.States.{Update, is_due}

-- whether an update is activated
abbrev pub is_active : Update → Bool
is_active u = u.active

-- the place in the whole list of the activated update of this number, the oldest being 0; the list's length where there is none
abbrev pub place_of_active : ℕ → List Update → ℕ
place_of_active k [] = 0
place_of_active zero (u ∷ us) = if u.active then 0 else suc (place_of_active zero us)
place_of_active (suc k) (u ∷ us) = suc (if u.active then place_of_active k us else place_of_active (suc k) us)

-- whether an update is activated, or isn't due at this time
abbrev pub not_due : ℕ → Update → Bool
not_due time u = not (is_due time u)
