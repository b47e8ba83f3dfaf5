use Rattle.vs_logic4.proofs.Properties.{same_digits_make_equal_lem}
use Rattle.vs_logic4.proofs.laws.same_digits_make_equal.Goals as goal

pub returns : goal.returns
returns c = same_digits_make_equal_lem
