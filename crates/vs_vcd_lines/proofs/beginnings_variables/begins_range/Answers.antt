use Rattle.std.proofs.Common.{codes}
use Rattle.vs_vcd_lines.specs.BeginningsParts.{AreBoundsEnd}
use Rattle.vs_vcd_lines.proofs.PartLemmas.{prefixed_after, prefixed_before}
use Rattle.vs_vcd_lines.proofs.ScopeLemmas.{bounds_some}
use Rattle.vs_vcd_lines.proofs.beginnings_variables.begins_range.Goals as goal

pub returns-in-Some : goal.returns-in-Some
returns-in-Some c =
    prefixed_after (codes " [") AreBoundsEnd c.args.text.now c.in-Some.bounds.now c.begins_bounds.result c.in-Some.ensures c.begins_bounds.ensures

pub returns-in-None : goal.returns-in-None
returns-in-None c = prefixed_before (codes " [") AreBoundsEnd c.args.text.now c.begins.result c.in-None.ensures bounds_some c.begins.ensures
