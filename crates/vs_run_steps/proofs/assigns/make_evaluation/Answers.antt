use Rattle.std.proofs.Common.{◌==◌, not, true, Bool, List, sym, ap, subst}
use Rattle.std.proofs.lemmas.Bool.{eq-eqb, ne_eqb}
use Rattle.vs_design.specs.vs_logic4.specs.declared.digit.Digit.{Digit}
use Rattle.vs_design.specs.vs_logic4.specs.Planes.{digits_of_planes}
use Rattle.vs_run_steps.specs.Runs.{state_of}
use Rattle.vs_run_steps.specs.Evaluations.{IsEvaluation}
use Rattle.vs_run_steps.proofs.RunLemmas.{assign_there, run_none, state_none}
use Rattle.vs_run_steps.proofs.assigns.make_evaluation.Goals as goal

pub copy_evaluation-requires-clause-there : goal.copy_evaluation-requires-clause-there
copy_evaluation-requires-clause-there g c = assign_there c.args.forms.now (state_of c.args.run.now) c.args.assign c.requires.run.1.reached c.requires.active

pub returns-then-differing-eq0-clause-come : goal.returns-then-differing-eq0-clause-come
returns-then-differing-eq0-clause-come g c =
    state_none c.args.forms.now c.args.run.now c.leave.new.self c.args.run.now.watched.events.queue c.args.assign
    (digits_of_planes c.in-Some.copied.spot.now.width c.in-Some.copied.change.new_value c.in-Some.copied.change.new_unknown)
    (not (c.differing.result == 0)) c.requires.run c.requires.active (c.in-Some.ensures.evaluation c.differing.result c.differing.ensures)
    (ap not (eq-eqb c.differing.result 0 c.if-differing-eq0.true)) c.leave.ensures

pub returns-then-differing-eq0-clause-run : goal.returns-then-differing-eq0-clause-run
returns-then-differing-eq0-clause-run g c =
    run_none c.args.forms.now c.args.run.now c.leave.new.self c.args.assign
    (digits_of_planes c.in-Some.copied.spot.now.width c.in-Some.copied.change.new_value c.in-Some.copied.change.new_unknown)
    (not (c.differing.result == 0)) c.requires.run c.requires.active (c.in-Some.ensures.evaluation c.differing.result c.differing.ensures)
    (ap not (eq-eqb c.differing.result 0 c.if-differing-eq0.true)) c.leave.ensures

pub give-requires-clause-value : goal.give-requires-clause-value
give-requires-clause-value g c =
    subst (λ (l : List Digit). IsEvaluation c.args.forms.now c.args.assign c.args.run.now.watched.store c.args.run.now.regions.time l true) (sym c.from_planes-digits.ensures)
    (subst (λ (b : Bool). IsEvaluation c.args.forms.now c.args.assign c.args.run.now.watched.store c.args.run.now.regions.time
    (digits_of_planes c.in-Some.copied.spot.now.width c.in-Some.copied.change.new_value c.in-Some.copied.change.new_unknown) b)
    (ap not (ne_eqb c.differing.result 0 c.if-differing-eq0.false)) (c.in-Some.ensures.evaluation c.differing.result c.differing.ensures))

pub give-requires-clause-place : goal.give-requires-clause-place
give-requires-clause-place g c = λ a at. c.in-Some.ensures.place a at
