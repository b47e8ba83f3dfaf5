-- Selects whose expressions are measured.
use Rattle.std.specs.Prelude.{◌≡◌, List, Option, Result, Ok, Err}
use Rattle.std.specs.List.{All, list_any}
use Rattle.std.specs.declared.vec.Vec.{Vec}
use Rattle.std.specs.declared.alloc.Global.{Global}
use Rattle.vs_syntax.specs.declared.tree.PartSelect.{PartSelect}
use Rattle.vs_widths.specs.declared.forms.Measured.{Measured}
use Rattle.vs_widths.specs.declared.faults.WidthFault.{WidthFault}
use Rattle.vs_widths.specs.Findings.{Lacks, Refuses}
use Rattle.vs_widths.specs.Selects.{Select, select_has_fault}
use Rattle.vs_widths.specs.select_passes.Places.{selects_meaning, IsFlexibleSelect}

-- measured selects are those that mean this
pub record AreMeasured (ss : List Select) (xs : List (Measured × Option (PartSelect × Measured))) : Type 0 where
  pub means : selects_meaning xs ≡ ss
  pub flexible : All IsFlexibleSelect xs

-- what measuring answers of selects that mean this
abbrev pub MeasuresSelects : List Select → Result (Vec (Measured × Option (PartSelect × Measured)) Global) WidthFault → Type 0
MeasuresSelects ss (Ok xs) = AreMeasured ss xs.items
MeasuresSelects ss (Err e) = Refuses (Lacks (λ r. list_any (select_has_fault r) ss)) e
