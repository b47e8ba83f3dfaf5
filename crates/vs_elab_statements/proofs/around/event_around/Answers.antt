use Rattle.std.proofs.Common.{refl}
use Rattle.std.proofs.lemmas.Result.{err_from_is_err_and}
use Rattle.vs_elab_statements.proofs.StatementLemmas.{states_Event, event_refused}
use Rattle.vs_elab_statements.proofs.around.event_around.Goals as goal

pub returns-clause-answer : goal.returns-clause-answer
returns-clause-answer c envs p first next x v h =
    states_Event c.args.view.now.list.now envs p first c.args.inner.0 next x c.in_ok-new.field-0 x.value c.args.inner.1 h refl c.in_ok-new.ensures.ok c.args.control.now c.in_ok-terms.terms (rw v.names at c.in_ok-terms.ensures)

pub returns-in_err-terms-clause-answer : goal.returns-in_err-terms-clause-answer
returns-in_err-terms-clause-answer c envs p first next x v h =
    let q = err_from_is_err_and c.from_residual.result c.from_residual.ensures.1 in
    rw (q.1, q.2) (event_refused c.args.view.now.list.now envs p first x c.args.control.now c.in_err-terms.field-0.0 (rw v.names at c.in_err-terms.ensures))
