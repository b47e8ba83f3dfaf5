use Rattle.vs_eval.proofs.WritesHold.{parts_keep}
use Rattle.vs_eval.proofs.writes_hold.Goals as goal

pub returns : goal.returns
returns c t digits before store time signal word place h = parts_keep before time signal word place 0 t.parts.items digits store h
