use Rattle.vs_prep_macros.proofs.Cuttings.{one_cutting}
use Rattle.vs_prep_macros.proofs.laws.one_cutting.Goals as goal

pub returns : goal.returns
returns c = λ bytes pieces others a b. one_cutting a b
