use Rattle.vs_time_wheel.proofs.Replayed.{answer_alike}
use Rattle.vs_time_wheel.proofs.calls.same_answers.Goals as goal

pub returns : goal.returns
returns g c = λ calls. answer_alike calls _ _ _ _ c.requires.bag c.requires.clock
