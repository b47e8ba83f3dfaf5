use Rattle.vs_process.proofs.Blocks.{none_inside_first}
use Rattle.vs_process.proofs.process_laws.none_inside_first.Goals as goal

pub returns : goal.returns
returns c = none_inside_first
