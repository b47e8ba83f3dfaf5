use Rattle.vs_vcd_lines.proofs.BeginningsWordLemmas.{other_none, other_some}
use Rattle.vs_vcd_lines.proofs.beginnings_changes.is_other.Goals as goal

pub returns-in-Some : goal.returns-in-Some
returns-in-Some c = other_some c.args.old c.args.value c.in-Some.old c.same.result c.in-Some.is c.same.ensures

pub returns-in-None : goal.returns-in-None
returns-in-None c = other_none c.args.old c.args.value c.in-None.is
