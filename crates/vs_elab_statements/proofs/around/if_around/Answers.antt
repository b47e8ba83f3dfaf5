use Rattle.std.proofs.Common.{refl}
use Rattle.std.proofs.lemmas.Result.{err_from_is_err_and}
use Rattle.vs_elab_statements.proofs.StatementLemmas.{states_If, if_refused}
use Rattle.vs_elab_statements.proofs.around.if_around.Goals as goal

pub returns-clause-answer : goal.returns-clause-answer
returns-clause-answer c envs p first middle next x o v h g =
    states_If c.args.view.now.list.now envs p first c.args.inner.0 middle next c.args.e.now _ c.in_ok-condition.condition x o c.in_ok-first.first c.in_ok-second.second x.value c.args.inner.1 c.args.other h g (rw (v.names, c.deref.ensures) at c.in_ok-condition.ensures) refl c.in_ok-first.ensures.ok c.in_ok-second.ensures.ok

pub returns-in_err-condition-clause-answer : goal.returns-in_err-condition-clause-answer
returns-in_err-condition-clause-answer c envs p first middle next x o v h g =
    let q = err_from_is_err_and c.from_residual.result c.from_residual.ensures.1 in
    rw (q.1, q.2) (if_refused c.args.view.now.list.now envs p first c.args.e.now x o c.in_err-condition.field-0.0 (rw (v.names, c.deref.ensures) at c.in_err-condition.ensures))
