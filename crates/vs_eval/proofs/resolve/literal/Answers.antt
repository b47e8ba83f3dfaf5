use Rattle.vs_eval.proofs.MeantLemmas.{literal_means}
use Rattle.vs_eval.proofs.resolve.literal.Goals as goal

pub returns : goal.returns
returns c = λ signals values law. literal_means signals values c.args.digits c.planes.result c.width-width.result c.planes.ensures c.width-width.ensures.digits law
