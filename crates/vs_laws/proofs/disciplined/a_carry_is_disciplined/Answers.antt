use Rattle.vs_laws.proofs.Carry.{carry}
use Rattle.vs_laws.proofs.disciplined.a_carry_is_disciplined.Goals as goal

pub returns : goal.returns
returns c = carry
