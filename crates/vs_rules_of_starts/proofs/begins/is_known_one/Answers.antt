use Rattle.vs_rules_of_starts.proofs.BeginningLemmas.{known_digit}
use Rattle.vs_rules_of_starts.proofs.begins.is_known_one.Goals as goal

pub returns-in-Some : goal.returns-in-Some
returns-in-Some c = known_digit c.args.digit c.in-Some.digit c.in-Some.is c.is_known.result c.is_known.ensures
