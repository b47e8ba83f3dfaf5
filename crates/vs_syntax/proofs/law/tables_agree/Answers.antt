use Rattle.vs_syntax.proofs.Checks.{rule_null, rule_low, rule_fronts}
use Rattle.vs_syntax.proofs.law.tables_agree.Goals as goal

pub returns : goal.returns
returns c = record { without_tokens = rule_null; least_nesting = rule_low; beginnings = rule_fronts }
