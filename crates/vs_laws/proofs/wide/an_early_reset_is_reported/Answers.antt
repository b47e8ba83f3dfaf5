use Rattle.vs_laws.proofs.Resets.{early_reset_is_reported}
use Rattle.vs_laws.proofs.wide.an_early_reset_is_reported.Goals as goal

pub returns : goal.returns
returns c = early_reset_is_reported
