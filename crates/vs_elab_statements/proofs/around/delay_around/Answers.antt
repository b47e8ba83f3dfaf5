use Rattle.std.proofs.Common.{refl}
use Rattle.std.proofs.lemmas.Result.{err_from_is_err_and}
use Rattle.vs_elab_statements.proofs.StatementLemmas.{states_Delay, delay_refused}
use Rattle.vs_elab_statements.proofs.around.delay_around.Goals as goal

pub returns-clause-answer : goal.returns-clause-answer
returns-clause-answer c envs p first next x v h =
    states_Delay c.args.view.now.list.now envs p first c.args.inner.0 next x c.in_ok-new.field-0 x.value c.args.inner.1 h refl c.in_ok-new.ensures.ok c.args.value.now c.in_ok-ticks.ticks (rw (v.names, v.ratio) at c.in_ok-ticks.ensures)

pub returns-in_err-ticks-clause-answer : goal.returns-in_err-ticks-clause-answer
returns-in_err-ticks-clause-answer c envs p first next x v h =
    let q = err_from_is_err_and c.from_residual.result c.from_residual.ensures.1 in
    rw (q.1, q.2) (delay_refused c.args.view.now.list.now envs p first x c.args.value.now c.in_err-ticks.field-0.0 (rw (v.names, v.ratio) at c.in_err-ticks.ensures))
