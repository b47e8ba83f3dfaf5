use Rattle.vs_laws.proofs.Mirror.{mirror}
use Rattle.vs_laws.proofs.disciplined.a_block_is_disciplined.Goals as goal

pub returns : goal.returns
returns c = mirror
