use Rattle.std.proofs.Common.{subst}
use Rattle.std.proofs.lemmas.Bool.{false≢true}
use Rattle.std.specs.Prelude.{IsTrue}
use Rattle.vs_sign_off.proofs.unequal.unequal_at.Goals as goal

pub returns-clause-differ : goal.returns-clause-differ
returns-clause-differ c = λ e. false≢true (subst IsTrue c.if-same.false (c.same.ensures.1 e))
