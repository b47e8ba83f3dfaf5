use Rattle.std.proofs.lemmas.Result.{err_from_is_err_and}
use Rattle.vs_elab_statements.proofs.StatementLemmas.{states_numbered, numbered_refused, sides_refused}
use Rattle.vs_elab_statements.proofs.numbers.numbered.Goals as goal

pub returns-clause-answer : goal.returns-clause-answer
returns-clause-answer c envs p v =
    states_numbered c.args.view.now.list.now envs p c.args.next.now c.in_ok-number.number _ c.args.left.now c.args.e.now c.in_ok-target.target c.in_ok-target.source c.in_ok-number.ensures (rw v.names at c.in_ok-target.ensures)

pub returns-in_err-number-clause-answer : goal.returns-in_err-number-clause-answer
returns-in_err-number-clause-answer c envs p v =
    let q = err_from_is_err_and c.from_residual.result c.from_residual.ensures.1 in
    rw (q.1, q.2) (numbered_refused c.args.view.now.list.now envs p c.args.next.now c.args.left.now c.args.e.now c.in_err-number.field-0.0 c.in_err-number.ensures)

pub returns-in_err-target-clause-answer : goal.returns-in_err-target-clause-answer
returns-in_err-target-clause-answer c envs p v =
    let q = err_from_is_err_and c.from_residual-in_err-target.result c.from_residual-in_err-target.ensures.1 in
    rw (q.1, q.2) (sides_refused c.args.view.now.list.now envs p c.args.next.now c.args.left.now c.args.e.now c.in_err-target.field-0.0 (rw v.names at c.in_err-target.ensures))
