use Rattle.std.proofs.lemmas.Result.{err_from_is_err_and}
use Rattle.vs_elab_statements.proofs.StatementLemmas.{means_repeat, repeat_body_refused, repeat_overfull}
use Rattle.vs_elab_statements.proofs.bodies.repeat_body.Goals as goal

pub returns-clause-answer : goal.returns-clause-answer
returns-clause-answer c envs p v =
    means_repeat c.args.view.now.list.now envs p c.in_ok-number.number _ c.args.s.now _ c.in_ok-body.body c.in_ok-new.field-0 c.in_ok-number.ensures c.in_ok-new.ensures.ok (c.in_ok-body.ensures.answer envs p v)

pub returns-in_err-number-clause-answer : goal.returns-in_err-number-clause-answer
returns-in_err-number-clause-answer c envs p v =
    let q = err_from_is_err_and c.from_residual.result c.from_residual.ensures.1 in
    rw (q.1, q.2) (repeat_overfull c.args.view.now.list.now envs p c.args.s.now c.in_err-number.field-0.0 c.in_err-number.ensures)

pub returns-in_err-body-clause-answer : goal.returns-in_err-body-clause-answer
returns-in_err-body-clause-answer c envs p v =
    let q = err_from_is_err_and c.from_residual-in_err-body.result c.from_residual-in_err-body.ensures.1 in
    rw (q.1, q.2) (repeat_body_refused c.args.view.now.list.now envs p _ c.args.s.now c.in_err-body.field-0.0 c.in_ok-number.ensures.1.0 (c.in_err-body.ensures.answer envs p v))
