use Rattle.std.proofs.Common.{refl, subst, arith}
use Rattle.vs_run_active.specs.vs_process.specs.declared.moves.Move.TheVariants.{Evaluate}
use Rattle.vs_run_steps.specs.declared.assigns.Evaluated.{Evaluated}
use Rattle.vs_run_steps.specs.Outcomes.{HasOutcome}
use Rattle.vs_run_steps.specs.Runs.{state_of}
use Rattle.vs_run_steps.proofs.MadeLemmas.{made_one}
use Rattle.vs_run_steps.proofs.assigns.evaluate.Goals as goal

pub returns-in-Same-clause-made : goal.returns-in-Same-clause-made
returns-in-Same-clause-made g c =
    made_one (state_of c.args.run.now) (state_of c.make_evaluation.new.run) (Evaluate c.args.assign) refl c.requires.active
    (subst (λ (e : Evaluated). HasOutcome c.args.at_once c.args.assign e (state_of c.args.run.now) (state_of c.make_evaluation.new.run)) c.in-Same.is c.in_ok-make_evaluation.ensures.come)

pub returns-in_ok-push-in-Waits-clause-made : goal.returns-in_ok-push-in-Waits-clause-made
returns-in_ok-push-in-Waits-clause-made g c =
    made_one (state_of c.args.run.now) (state_of c.make_evaluation.new.run) (Evaluate c.args.assign) refl c.requires.active
    (subst (λ (e : Evaluated). HasOutcome c.args.at_once c.args.assign e (state_of c.args.run.now) (state_of c.make_evaluation.new.run)) c.in-Waits.is c.in_ok-make_evaluation.ensures.come)

pub returns-in-Same-clause-one : goal.returns-in-Same-clause-one
returns-in-Same-clause-one g c = λ one.
    subst (λ (e : Evaluated). HasOutcome c.args.at_once c.args.assign e (state_of c.args.run.now) (state_of c.make_evaluation.new.run)) c.in-Same.is c.in_ok-make_evaluation.ensures.come

pub returns-in_ok-push-in-Waits-clause-one : goal.returns-in_ok-push-in-Waits-clause-one
returns-in_ok-push-in-Waits-clause-one g c = λ one.
    subst (λ (e : Evaluated). HasOutcome c.args.at_once c.args.assign e (state_of c.args.run.now) (state_of c.make_evaluation.new.run)) c.in-Waits.is c.in_ok-make_evaluation.ensures.come

pub returns-in-Written-clause-one : goal.returns-in-Written-clause-one
returns-in-Written-clause-one g c = λ one. absurd (omega (arith, one))
