use Rattle.vs_eval.proofs.OperandLemmas.{repeat_means}
use Rattle.vs_eval.proofs.resolve.repeated.Goals as goal

pub returns : goal.returns
returns c = λ signals values m.
    repeat_means signals values c.args.x.0 c.args.count c.args.x.1 c.repeated_size-size.result.width c.in_ok-new.field-0 c.repeated_size-size.ensures c.in_ok-new.ensures.ok m
