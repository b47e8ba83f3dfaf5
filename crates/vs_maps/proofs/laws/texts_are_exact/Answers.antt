use Rattle.vs_maps.proofs.Exact.{texts_are_exact}
use Rattle.vs_maps.proofs.laws.texts_are_exact.Goals as goal

pub returns : goal.returns
returns c = texts_are_exact
