use Rattle.vs_eval.proofs.ReadsHold.{value_kept}
use Rattle.vs_eval.proofs.reads_hold.Goals as goal

pub returns : goal.returns
returns c e old new time h = value_kept old new time e h
