use Rattle.vs_certificate.proofs.Sameness.{same_from_value, value_from_same}
use Rattle.vs_certificate.proofs.laws.value_has_one_certificate.Goals as goal

pub returns : goal.returns
returns g c d = (same_from_value c d, value_from_same c d)
