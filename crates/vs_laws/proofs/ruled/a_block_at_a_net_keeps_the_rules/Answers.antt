use Rattle.vs_laws.proofs.Block.{block_at_a_net_keeps_the_rules}
use Rattle.vs_laws.proofs.ruled.a_block_at_a_net_keeps_the_rules.Goals as goal

pub returns : goal.returns
returns c = block_at_a_net_keeps_the_rules
