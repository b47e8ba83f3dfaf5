use Rattle.std.proofs.lemmas.Result.{err_from_is_err_and}
use Rattle.vs_elab_statements.proofs.StatementLemmas.{states_Print, print_overfull, print_refused}
use Rattle.vs_elab_statements.proofs.simple.print.Goals as goal

pub returns-clause-answer : goal.returns-clause-answer
returns-clause-answer c envs p v =
    states_Print c.args.view.now.list.now envs p c.args.next.now c.in_ok-number.number _ c.args.task c.args.all.now c.in_ok-made.made c.in_ok-number.ensures (c.in_ok-made.ensures envs p v)

pub returns-in_err-number-clause-answer : goal.returns-in_err-number-clause-answer
returns-in_err-number-clause-answer c envs p v =
    let q = err_from_is_err_and c.from_residual.result c.from_residual.ensures.1 in
    rw (q.1, q.2) (print_overfull c.args.view.now.list.now envs p c.args.next.now c.args.task c.args.all.now c.in_err-number.field-0.0 c.in_err-number.ensures)

pub returns-in_err-made-clause-answer : goal.returns-in_err-made-clause-answer
returns-in_err-made-clause-answer c envs p v =
    let q = err_from_is_err_and c.from_residual-in_err-made.result c.from_residual-in_err-made.ensures.1 in
    rw (q.1, q.2) (print_refused c.args.view.now.list.now envs p c.args.next.now c.args.task c.args.all.now c.in_err-made.field-0.0 (c.in_err-made.ensures envs p v))
