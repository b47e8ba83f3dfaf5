use Rattle.vs_rules.proofs.Tested.{tested_are_wide_certificates}
use Rattle.vs_rules.proofs.laws.tested_are_wide_certificates.Goals as goal

pub returns : goal.returns
returns c = tested_are_wide_certificates
