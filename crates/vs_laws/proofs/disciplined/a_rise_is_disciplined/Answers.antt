use Rattle.vs_laws.proofs.Rise.{rise_is_disciplined}
use Rattle.vs_laws.proofs.disciplined.a_rise_is_disciplined.Goals as goal

pub returns : goal.returns
returns c = rise_is_disciplined
