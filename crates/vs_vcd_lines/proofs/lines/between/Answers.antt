use Rattle.std.proofs.Common.{◌++◌, ◌∙◌, append_assoc}
use Rattle.vs_vcd_lines.proofs.LineLemmas.{between_is}
use Rattle.vs_vcd_lines.proofs.lines.between.Goals as goal

pub returns-in-Some : goal.returns-in-Some
returns-in-Some c = between_is c.args.line.now c.args.beginning.now c.in-Some.rest.now c.args.end.now c.before-in-Some.result c.in-Some.ensures c.before-in-Some.ensures

pub returns-in-None : goal.returns-in-None
returns-in-None c = λ middle is. c.in-None.ensures (middle ++ c.args.end.now) (is ∙ append_assoc c.args.beginning.now middle c.args.end.now)
