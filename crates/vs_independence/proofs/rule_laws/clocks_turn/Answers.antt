use Rattle.vs_independence.proofs.Ruled.{clocks_turn}
use Rattle.vs_independence.proofs.rule_laws.clocks_turn.Goals as goal

pub returns : goal.returns
returns c = clocks_turn
