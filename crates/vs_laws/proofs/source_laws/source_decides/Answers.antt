use Rattle.vs_laws.proofs.Verdicts.{source_decides}
use Rattle.vs_laws.proofs.source_laws.source_decides.Goals as goal

pub returns : goal.returns
returns c = source_decides c.one_design.ensures.source
