use Rattle.vs_logic4.proofs.Properties.{resized-own_width}
use Rattle.vs_logic4.proofs.laws.resize_to_own_width.Goals as goal

pub returns : goal.returns
returns c = resized-own_width
