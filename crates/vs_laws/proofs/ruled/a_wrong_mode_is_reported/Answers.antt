use Rattle.vs_laws.proofs.RiseRules.{wrong_mode_is_reported}
use Rattle.vs_laws.proofs.ruled.a_wrong_mode_is_reported.Goals as goal

pub returns : goal.returns
returns c = wrong_mode_is_reported
