use Rattle.std.proofs.lemmas.Result.{err_from_is_err_and}
use Rattle.vs_elab_statements.specs.Members.{named_signal}
use Rattle.vs_elab_statements.proofs.StatementLemmas.{means_set, set_refused}
use Rattle.vs_elab_statements.proofs.bodies.set_body.Goals as goal

pub returns-clause-answer : goal.returns-clause-answer
returns-clause-answer c envs p v =
    means_set c.args.view.now.list.now envs p (record { target = named_signal c.args.target.now; value = c.args.value.now }) c.in_ok-target.target c.in_ok-target.source (rw v.names at c.in_ok-target.ensures)

pub returns-in_err-target-clause-answer : goal.returns-in_err-target-clause-answer
returns-in_err-target-clause-answer c envs p v =
    let q = err_from_is_err_and c.from_residual.result c.from_residual.ensures.1 in
    rw (q.1, q.2) (set_refused c.args.view.now.list.now envs p (record { target = named_signal c.args.target.now; value = c.args.value.now }) c.in_err-target.field-0.0 (rw v.names at c.in_err-target.ensures))
