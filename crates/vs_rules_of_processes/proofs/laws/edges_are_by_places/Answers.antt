use Rattle.vs_rules_of_processes.proofs.EdgeLemmas.{edges_are_by_places}
use Rattle.vs_rules_of_processes.proofs.laws.edges_are_by_places.Goals as goal

pub returns : goal.returns
returns c = edges_are_by_places
