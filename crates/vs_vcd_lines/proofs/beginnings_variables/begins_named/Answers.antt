use Rattle.vs_vcd_lines.specs.BeginningsParts.{IsVariableEnd}
use Rattle.vs_vcd_lines.proofs.PartLemmas.{named_after, named_within}
use Rattle.vs_vcd_lines.proofs.BeginningsVariableLemmas.{variable_end_some, variable_tails}
use Rattle.vs_vcd_lines.proofs.beginnings_variables.begins_named.Goals as goal

pub returns-in-Some : goal.returns-in-Some
returns-in-Some c =
    named_after IsVariableEnd c.args.text.now c.in-Some.rest.now c.begins_variable_end.result variable_tails c.in-Some.ensures c.begins_variable_end.ensures

pub returns-in-None : goal.returns-in-None
returns-in-None c = named_within IsVariableEnd c.args.text.now c.begins_name.result variable_tails variable_end_some c.in-None.ensures c.begins_name.ensures
