use Rattle.vs_vcd_lines.proofs.VariableLemmas.{declared_rest, variable_shape, shape_rest, variable_named, variable_made}
use Rattle.vs_vcd_lines.proofs.variables.variable_of.Goals as goal

pub returns-in_default : goal.returns-in_default
returns-in_default c = λ v h is. c.in_default.ensures v.kind v.width (declared_rest v) (variable_shape c.args.line.now c.args.number v h is)

pub returns-in_default-named_of : goal.returns-in_default-named_of
returns-in_default-named_of c = λ v h is.
    c.in_default-named_of.ensures v.name.items v.range
    (variable_named c.in-Some.rest.now v h
    (shape_rest c.args.line.now c.args.number c.in-Some.kind v.kind c.in-Some.width v.width c.in-Some.rest.now (declared_rest v) c.in-Some.ensures
    (variable_shape c.args.line.now c.args.number v h is)))

pub returns : goal.returns
returns c = variable_made c.args.line.now c.in-Some.rest.now c.in-Some-named_of.text.now c.args.number _ c.in_ok-name.ensures.items c.in-Some.ensures c.in-Some-named_of.ensures
