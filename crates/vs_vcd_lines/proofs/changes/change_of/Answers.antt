use Rattle.vs_vcd_lines.proofs.ChangeLemmas.{change_none}
use Rattle.vs_vcd_lines.proofs.changes.change_of.Goals as goal

pub returns-in-None : goal.returns-in-None
returns-in-None c = change_none c.args.line.now c.args.widths.now c.requires c.in-None.ensures c.wide_change.result c.wide_change.ensures
