use Rattle.vs_eval.proofs.SizesHold.{value_has}
use Rattle.vs_eval.proofs.sizes_hold.Goals as goal

pub returns : goal.returns
returns c e n store time h = value_has store time e n h
