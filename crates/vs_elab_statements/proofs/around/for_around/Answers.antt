use Rattle.std.proofs.Common.{refl}
use Rattle.std.proofs.lemmas.Result.{err_from_is_err_and}
use Rattle.vs_elab_statements.proofs.StatementLemmas.{states_For, test_refused, step_refused}
use Rattle.vs_elab_statements.proofs.around.for_around.Goals as goal

pub returns-clause-answer : goal.returns-clause-answer
returns-clause-answer c envs p first middle x v b h =
    states_For c.args.view.now.list.now envs p first middle _ _ c.args.begin.0 c.args.inner.0 _ c.args.head.now x c.args.begin.1 _ c.args.begin.2 _ _ _ x.value c.args.inner.1 c.in_ok-repeated.field-0 b h (rw (v.names, c.deref.ensures) at c.in_ok-condition.ensures) (rw (c.deref-2.ensures, c.deref-3.ensures) at (c.in_ok-last.ensures.answer envs p v)) refl c.in_ok-repeated.ensures

pub returns-in_err-condition-clause-answer : goal.returns-in_err-condition-clause-answer
returns-in_err-condition-clause-answer c envs p first middle x v b h =
    let q = err_from_is_err_and c.from_residual.result c.from_residual.ensures.1 in
    rw (q.1, q.2) (test_refused c.args.view.now.list.now envs p first c.args.head.now x c.in_err-condition.field-0.0 (rw (v.names, c.deref.ensures) at c.in_err-condition.ensures))

pub returns-in_err-last-clause-answer : goal.returns-in_err-last-clause-answer
returns-in_err-last-clause-answer c envs p first middle x v b h =
    let q = err_from_is_err_and c.from_residual-in_err-last.result c.from_residual-in_err-last.ensures.1 in
    rw (q.1, q.2) (step_refused c.args.view.now.list.now envs p first c.args.head.now x middle c.args.next.now x.value c.in_err-last.field-0.0 b.1.next_is h.1.1.next_is refl (rw (c.deref-2.ensures, c.deref-3.ensures) at (c.in_err-last.ensures.answer envs p v)))
