use Rattle.vs_vcd_lines.proofs.LineLemmas.{time_is}
use Rattle.vs_vcd_lines.proofs.lines.time_of.Goals as goal

pub returns-in-Some : goal.returns-in-Some
returns-in-Some c = time_is c.args.line.now c.in-Some.digits.now c.unsigned_of.result c.in-Some.ensures c.unsigned_of.ensures
