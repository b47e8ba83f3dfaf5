use Rattle.vs_process.proofs.Filled.{filled}
use Rattle.vs_process.proofs.writing_laws.writes_have_parts.Goals as goal

pub returns : goal.returns
returns c = filled
