use Rattle.std.proofs.Common.{subst}
use Rattle.vs_run_steps.specs.Runs.{state_of}
use Rattle.vs_run_steps.specs.Evaluations.{IsEvaluation}
use Rattle.std.proofs.Common.{Bool}
use Rattle.vs_run_steps.proofs.OutcomesLemmas.{come_anyhow}
use Rattle.vs_run_steps.proofs.RunLemmas.{assign_there, run_none, state_none}
use Rattle.vs_run_steps.proofs.assigns.evaluate_placed.Goals as goal

pub spot_evaluation-requires-clause-there : goal.spot_evaluation-requires-clause-there
spot_evaluation-requires-clause-there g c = assign_there c.args.forms.now (state_of c.args.run.now) c.args.assign c.requires.run.1.reached c.requires.active

pub returns-in_default-clause-come : goal.returns-in_default-clause-come
returns-in_default-clause-come g c =
    come_anyhow c.args.at_once c.args.assign c.in_ok-come.come (state_of c.args.run.now) (state_of c.evaluate_any.new.run) c.in_ok-come.ensures.come

pub returns-then-not-differs-clause-come : goal.returns-then-not-differs-clause-come
returns-then-not-differs-clause-come g c =
    state_none c.args.forms.now c.args.run.now c.leave.new.self c.args.run.now.watched.events.queue c.args.assign c.in-Some.placed.digits c.in-Some.placed.differs c.requires.run c.requires.active
    c.in-Some.ensures.evaluation c.if-not-differs.true c.leave.ensures

pub returns-then-not-differs-clause-run : goal.returns-then-not-differs-clause-run
returns-then-not-differs-clause-run g c =
    run_none c.args.forms.now c.args.run.now c.leave.new.self c.args.assign c.in-Some.placed.digits c.in-Some.placed.differs c.requires.run c.requires.active c.in-Some.ensures.evaluation
    c.if-not-differs.true c.leave.ensures

pub give-requires-clause-value : goal.give-requires-clause-value
give-requires-clause-value g c =
    subst (λ (b : Bool). IsEvaluation c.args.forms.now c.args.assign c.args.run.now.watched.store c.args.run.now.regions.time c.in-Some.placed.digits b) c.if-not-differs.false
    c.in-Some.ensures.evaluation

pub give-requires-clause-place : goal.give-requires-clause-place
give-requires-clause-place g c = λ a at. c.in-Some.ensures.place a at
