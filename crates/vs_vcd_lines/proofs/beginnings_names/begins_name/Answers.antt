use Rattle.vs_vcd_lines.proofs.BeginningsNameLemmas.{name_escaped}
use Rattle.vs_vcd_lines.proofs.beginnings_names.begins_name.Goals as goal

pub returns-in-Some : goal.returns-in-Some
returns-in-Some c = name_escaped c.args.text.now c.in-Some.rest.now c.begins_escaped.result c.in-Some.ensures c.begins_escaped.ensures
