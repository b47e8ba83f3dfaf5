use Rattle.vs_process.proofs.Blocks.{inside_follows}
use Rattle.vs_process.proofs.process_laws.inside_follows.Goals as goal

pub returns : goal.returns
returns c = inside_follows
