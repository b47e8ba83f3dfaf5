use Rattle.vs_logic4.proofs.Properties.{get_or-with_part}
use Rattle.vs_logic4.proofs.laws.digit_after_put.Goals as goal

pub returns : goal.returns
returns c = get_or-with_part
