use Rattle.vs_cert_roots.proofs.FirstLemmas.{first_by_places}
use Rattle.vs_cert_roots.proofs.laws.first_by_places.Goals as goal

pub returns : goal.returns
returns c = first_by_places
