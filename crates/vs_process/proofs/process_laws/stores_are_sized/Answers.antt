use Rattle.vs_process.proofs.Sizes.{stores_are_sized}
use Rattle.vs_process.proofs.process_laws.stores_are_sized.Goals as goal

pub returns : goal.returns
returns c = stores_are_sized
