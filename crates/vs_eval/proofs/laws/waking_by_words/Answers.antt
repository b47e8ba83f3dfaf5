use Rattle.vs_eval.proofs.WakingLemmas.{waking_by_parts}
use Rattle.vs_eval.proofs.laws.waking_by_words.Goals as goal

pub returns : goal.returns
returns c = λ terms store w. waking_by_parts terms store w
