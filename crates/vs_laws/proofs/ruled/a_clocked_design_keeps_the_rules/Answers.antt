use Rattle.vs_laws.proofs.SwapLater.{clocked_design_keeps_the_rules}
use Rattle.vs_laws.proofs.ruled.a_clocked_design_keeps_the_rules.Goals as goal

pub returns : goal.returns
returns c = clocked_design_keeps_the_rules
