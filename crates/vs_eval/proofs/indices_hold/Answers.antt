use Rattle.vs_eval.proofs.WritesHold.{parts_same}
use Rattle.vs_eval.proofs.indices_hold.Goals as goal

pub returns : goal.returns
returns c t digits old new time h = parts_same old new time 0 t.parts.items digits h
