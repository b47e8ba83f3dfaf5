use Rattle.vs_laws.proofs.Alone.{finish_differs}
use Rattle.vs_laws.proofs.differences.finish_alone_differs.Goals as goal

pub returns : goal.returns
returns c = finish_differs
