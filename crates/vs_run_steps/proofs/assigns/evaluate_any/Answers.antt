use Rattle.vs_run_steps.proofs.RunLemmas.{run_none, run_some, state_none, state_some}
use Rattle.vs_run_steps.proofs.assigns.evaluate_any.Goals as goal

pub returns-then-not-differs-clause-come : goal.returns-then-not-differs-clause-come
returns-then-not-differs-clause-come g c =
    state_none c.args.forms.now c.args.run.now c.leave.new.self c.args.run.now.watched.events.queue c.args.assign c.in_ok-digits.digits c.in_ok-digits.differs
    c.requires.run c.requires.active c.in_ok-digits.ensures c.if-not-differs.true c.leave.ensures

pub returns-then-not-differs-clause-run : goal.returns-then-not-differs-clause-run
returns-then-not-differs-clause-run g c =
    run_none c.args.forms.now c.args.run.now c.leave.new.self c.args.assign c.in_ok-digits.digits c.in_ok-digits.differs c.requires.run c.requires.active c.in_ok-digits.ensures
    c.if-not-differs.true c.leave.ensures

pub returns-clause-come : goal.returns-clause-come
returns-clause-come g c =
    state_some c.args.forms.now c.args.run.now c.leave-2.new.self c.args.run.now.watched.events.queue c.args.assign c.in_ok-digits.digits c.in_ok-digits.differs
    c.requires.run c.requires.active c.in_ok-digits.ensures c.if-not-differs.false c.leave-2.ensures

pub returns-clause-run : goal.returns-clause-run
returns-clause-run g c =
    run_some c.args.forms.now c.args.run.now c.leave-2.new.self c.args.assign c.in_ok-digits.digits c.in_ok-digits.differs c.requires.run c.requires.active c.in_ok-digits.ensures
    c.if-not-differs.false c.leave-2.ensures
