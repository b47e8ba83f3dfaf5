use Rattle.std.proofs.Common.{codes}
use Rattle.vs_vcd_lines.specs.BeginningsParts.{IsKindRest}
use Rattle.vs_vcd_lines.proofs.PartLemmas.{prefixed_after, prefixed_before}
use Rattle.vs_vcd_lines.proofs.BeginningsVariableLemmas.{shape_some, variable_told}
use Rattle.vs_vcd_lines.proofs.beginnings_variables.begins_variable.Goals as goal

pub returns-in-Some : goal.returns-in-Some
returns-in-Some c =
    variable_told c.args.number c.args.part.now c.begins_shape.result
    (prefixed_after (codes "$var ") (IsKindRest c.args.number) c.args.part.now c.in-Some.rest.now c.begins_shape.result c.in-Some.ensures c.begins_shape.ensures)

pub returns-in-None : goal.returns-in-None
returns-in-None c =
    variable_told c.args.number c.args.part.now c.begins.result
    (prefixed_before (codes "$var ") (IsKindRest c.args.number) c.args.part.now c.begins.result c.in-None.ensures (shape_some c.args.number) c.begins.ensures)
