use Rattle.vs_cert_roots.proofs.HotLemmas.{roots_by_places}
use Rattle.vs_cert_roots.proofs.laws.roots_by_places.Goals as goal

pub returns : goal.returns
returns c = roots_by_places
