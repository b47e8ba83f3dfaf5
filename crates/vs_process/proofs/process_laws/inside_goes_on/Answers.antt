use Rattle.vs_process.proofs.Blocks.{inside_goes_on}
use Rattle.vs_process.proofs.process_laws.inside_goes_on.Goals as goal

pub returns : goal.returns
returns c = inside_goes_on
