use Rattle.vs_laws.proofs.SwapNow.{race_of_edges}
use Rattle.vs_laws.proofs.ruled.a_race_of_edges_keeps_no_rules.Goals as goal

pub returns : goal.returns
returns c = race_of_edges
