-- Terms that fire.
use Rattle.std.specs.Prelude.{ℕ, List}
use Rattle.std.specs.List.{Contains}
use Rattle.vs_design.specs.declared.statement.EventTerm.{EventTerm}
use Rattle.vs_design.specs.Parts.{Parts}
use Rattle.vs_maps.specs.vs_rules.specs.Claims.{Claims}
use Rattle.vs_maps.specs.vs_rules.specs.Slots.{Fires}

-- one of some terms can fire at a residue
abbrev pub TermsFire : Parts → Claims → List EventTerm → ℕ → Type 0
TermsFire d c terms r = (t : EventTerm) × Contains terms t × Fires d c t r
