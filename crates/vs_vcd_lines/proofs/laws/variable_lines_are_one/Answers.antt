use Rattle.vs_vcd_lines.proofs.LawLemmas.{variable_lines_once}
use Rattle.vs_vcd_lines.proofs.laws.variable_lines_are_one.Goals as goal

pub returns : goal.returns
returns c = variable_lines_once
