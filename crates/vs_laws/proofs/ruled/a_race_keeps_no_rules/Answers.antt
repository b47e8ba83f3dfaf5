use Rattle.vs_laws.proofs.RaceRules.{race_keeps_no_rules}
use Rattle.vs_laws.proofs.ruled.a_race_keeps_no_rules.Goals as goal

pub returns : goal.returns
returns c = race_keeps_no_rules
