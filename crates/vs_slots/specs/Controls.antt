-- The lists of delay controls.
use Rattle.std.specs.Prelude.{ℕ, List, map}
use Rattle.vs_maps.specs.vs_rules.specs.Certificates.{residues_from}
use Rattle.vs_maps.specs.vs_rules.specs.Controls.{list_of}
use Rattle.vs_slots.specs.declared.controls.ControlLists as l

-- the list of a control, by its number, as lists are kept
abbrev pub list_by : l.ControlLists → ℕ → List ℕ
list_by x number = list_of x.controls (map residues_from x.lists.now) number
