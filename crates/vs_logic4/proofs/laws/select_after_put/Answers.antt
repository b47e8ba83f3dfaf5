use Rattle.vs_logic4.proofs.Properties.{selected-with_part, slice_get-with_part}
use Rattle.vs_logic4.proofs.laws.select_after_put.Goals as goal

pub returns : goal.returns
returns c = record { inside = selected-with_part; outside = slice_get-with_part }
