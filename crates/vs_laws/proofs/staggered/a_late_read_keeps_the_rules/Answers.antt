use Rattle.vs_laws.proofs.Late.{a_late_read_keeps_the_rules}
use Rattle.vs_laws.proofs.staggered.a_late_read_keeps_the_rules.Goals as goal

pub returns : goal.returns
returns c = a_late_read_keeps_the_rules
