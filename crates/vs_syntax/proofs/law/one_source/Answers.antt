use Rattle.vs_syntax.proofs.SameSources.{one_source}
use Rattle.vs_syntax.proofs.law.one_source.Goals as goal

pub returns : goal.returns
returns c = one_source
