use Rattle.vs_independence.proofs.Ruled.{rules_discipline}
use Rattle.vs_independence.proofs.rule_laws.rules_discipline.Goals as goal

pub returns : goal.returns
returns c = rules_discipline
