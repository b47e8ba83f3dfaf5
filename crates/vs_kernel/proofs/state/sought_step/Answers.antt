use Rattle.std.proofs.Common.{◌≡◌, ◌∙◌, ℕ, false, refl, sym, arith, below_more}
use Rattle.vs_run_regions.specs.vs_process.specs.Places.{is_going}
use Rattle.vs_run_regions.specs.vs_process.specs.declared.moves.Move.TheVariants.{Step}
use Rattle.vs_run_regions.specs.vs_process.specs.Executions.{is_enabled}
use Rattle.vs_run_steps.specs.Runs.{counters_of, state_of}
use Rattle.vs_run_steps.proofs.RunsLemmas.{places_long}
use Rattle.vs_kernel.proofs.ActiveLemmas.{none_any}
use Rattle.vs_kernel.proofs.state.sought_step.Goals as goal

pub loop-process-init : goal.loop-process-init
loop-process-init g c = λ i below. absurd (omega (arith, below))

pub loop-process-preserved : goal.loop-process-preserved
loop-process-preserved g c =
    below_more (λ (i : ℕ). is_enabled (state_of c.args.run.now) (Step i) ≡ false) c.loop-process.process c.loop-process.invariant (sym c.is_going.ensures ∙ c.if-is_going.false)

pub returns-then-is_going : goal.returns-then-is_going
returns-then-is_going g c = ((refl, sym c.is_going.ensures ∙ c.if-is_going.true), tt)

pub returns : goal.returns
returns g c =
    let long = places_long (counters_of c.args.run.now) c.args.run.now.watched.events.processes in
    none_any is_going (state_of c.args.run.now).places (λ i below. c.loop-process.invariant i (omega (arith, below, long, c.len-process-end.ensures, c.loop-process-test.false)))
