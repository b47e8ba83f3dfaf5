use Rattle.vs_laws.proofs.Resets.{reset_keeps_the_rules}
use Rattle.vs_laws.proofs.wide.a_reset_keeps_the_rules.Goals as goal

pub returns : goal.returns
returns c = reset_keeps_the_rules
