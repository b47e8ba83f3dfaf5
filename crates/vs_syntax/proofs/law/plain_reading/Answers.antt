use Rattle.std.proofs.Common.{refl}
use Rattle.vs_syntax.proofs.Plainly.{plainly, greedy}
use Rattle.vs_syntax.proofs.law.plain_reading.Goals as goal

pub returns : goal.returns
returns c = record { derived_is_plain = λ x p. plainly p; plain_is_derived = λ x p. greedy p refl refl }
