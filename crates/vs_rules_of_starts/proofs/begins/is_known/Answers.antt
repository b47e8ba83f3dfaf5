use Rattle.vs_rules_of_starts.proofs.BeginningLemmas.{known_zero, known_one, unknown_x, unknown_z}
use Rattle.vs_rules_of_starts.proofs.begins.is_known.Goals as goal

pub returns-in-Zero : goal.returns-in-Zero
returns-in-Zero c = known_zero c.args.digit c.in-Zero.is

pub returns-in-One : goal.returns-in-One
returns-in-One c = known_one c.args.digit c.in-One.is

pub returns-in-X : goal.returns-in-X
returns-in-X c = unknown_x c.args.digit c.in-X.is

pub returns-in-Z : goal.returns-in-Z
returns-in-Z c = unknown_z c.args.digit c.in-Z.is
