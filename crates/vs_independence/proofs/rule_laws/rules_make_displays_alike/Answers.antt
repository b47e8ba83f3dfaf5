use Rattle.vs_independence.proofs.RulesShown.{rules_make_displays_alike}
use Rattle.vs_independence.proofs.rule_laws.rules_make_displays_alike.Goals as goal

pub returns : goal.returns
returns c = rules_make_displays_alike
