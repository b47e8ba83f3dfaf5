use Rattle.vs_laws.proofs.RiseRules.{rise_keeps_the_rules}
use Rattle.vs_laws.proofs.ruled.a_rise_keeps_the_rules.Goals as goal

pub returns : goal.returns
returns c = rise_keeps_the_rules
