use Rattle.vs_process.proofs.Blocks.{blocks_exclude}
use Rattle.vs_process.proofs.process_laws.blocks_exclude.Goals as goal

pub returns : goal.returns
returns c = blocks_exclude
