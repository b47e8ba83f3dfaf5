use Rattle.vs_laws.proofs.Block.{block_keeps_the_rules}
use Rattle.vs_laws.proofs.ruled.a_block_keeps_the_rules.Goals as goal

pub returns : goal.returns
returns c = block_keeps_the_rules
