use Rattle.std.proofs.lemmas.Result.{err_from_is_err_and}
use Rattle.vs_elab_statements.proofs.StatementLemmas.{states_Later, later_refused, due_refused}
use Rattle.vs_elab_statements.proofs.simple.later.Goals as goal

pub returns-clause-answer : goal.returns-clause-answer
returns-clause-answer c envs p v =
    states_Later c.args.view.now.list.now envs p c.args.next.now c.in_ok-number.number _ c.args.left.now c.args.value.now c.args.e.now c.in_ok-ticks.ticks c.in_ok-number.target c.in_ok-number.source (rw (c.deref.ensures, c.deref-2.ensures) at (c.in_ok-number.ensures.answer envs p v)) (rw (v.names, v.ratio) at c.in_ok-ticks.ensures)

pub returns-in_err-number-clause-answer : goal.returns-in_err-number-clause-answer
returns-in_err-number-clause-answer c envs p v =
    let q = err_from_is_err_and c.from_residual.result c.from_residual.ensures.1 in
    rw (q.1, q.2) (later_refused c.args.view.now.list.now envs p c.args.next.now c.args.left.now c.args.value.now c.args.e.now c.in_err-number.field-0.0 (rw (c.deref.ensures, c.deref-2.ensures) at (c.in_err-number.ensures.answer envs p v)))

pub returns-in_err-ticks-clause-answer : goal.returns-in_err-ticks-clause-answer
returns-in_err-ticks-clause-answer c envs p v =
    let q = err_from_is_err_and c.from_residual-in_err-ticks.result c.from_residual-in_err-ticks.ensures.1 in
    rw (q.1, q.2) (due_refused c.args.view.now.list.now envs p c.args.next.now c.args.left.now c.args.value.now c.args.e.now c.in_err-ticks.field-0.0 (rw (v.names, v.ratio) at c.in_err-ticks.ensures))
