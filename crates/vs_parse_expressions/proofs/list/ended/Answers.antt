use Rattle.std.proofs.lemmas.Result.{err_from_is_err_and}
use Rattle.vs_parse_expressions.proofs.list.ended.Goals as goal

pub returns-in_err-rest-clause-mark : goal.returns-in_err-rest-clause-mark
returns-in_err-rest-clause-mark g c = λ depth.
    let p = err_from_is_err_and c.from_residual.result c.from_residual.ensures.1 in
    rw (p.1, p.2) (c.in_err-rest.ensures depth)

pub returns-clause-mark : goal.returns-clause-mark
returns-clause-mark g c = λ depth. c.in_ok-rest.ensures depth
