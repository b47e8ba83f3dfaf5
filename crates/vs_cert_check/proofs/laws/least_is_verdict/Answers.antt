use Rattle.vs_cert_check.proofs.Verdicts.{least_is_verdict}
use Rattle.vs_cert_check.proofs.laws.least_is_verdict.Goals as goal

pub returns : goal.returns
returns c = least_is_verdict
