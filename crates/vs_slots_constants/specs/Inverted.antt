-- Which signals show a variable inverted, as a table.
use Rattle.std.specs.Prelude.{ℕ, ◌≡◌, ◌↔◌, Bool, true, false, List, get_or}
use Rattle.vs_design.specs.Parts.{Parts}
use Rattle.vs_rules.specs.Copies.{IsInverted}

-- for each signal, whether it shows a variable inverted
abbrev pub AreInverted : Parts → Bool → List Bool → Type 0
AreInverted d wide table = (v : ℕ) → (get_or table v false ≡ true ↔ IsInverted d wide v)
