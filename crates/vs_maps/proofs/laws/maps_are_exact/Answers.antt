use Rattle.vs_maps.proofs.Join.{exact}
use Rattle.vs_maps.proofs.laws.maps_are_exact.Goals as goal

pub returns : goal.returns
returns c = exact
