use Rattle.vs_independence.proofs.Ruled.{rules_make_independent}
use Rattle.vs_independence.proofs.rule_laws.rules_make_independent.Goals as goal

pub returns : goal.returns
returns c = rules_make_independent
