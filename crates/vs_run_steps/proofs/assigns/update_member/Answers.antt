use Rattle.std.proofs.Common.{refl, sym}
use Rattle.vs_run_active.specs.vs_process.specs.declared.moves.Move.TheVariants.{Propagate}
use Rattle.vs_run_active.specs.vs_process.specs.States.{settled}
use Rattle.vs_run_steps.specs.Runs.{state_of}
use Rattle.vs_run_steps.proofs.RunLemmas.{agrees_left, design_of, pending_digits, run_moved, written_then}
use Rattle.vs_run_steps.proofs.assigns.update_member.Goals as goal

pub drive-requires : goal.drive-requires
drive-requires g c κs within = (
  within,
  (
    agrees_left c.args.forms.now c.args.run.now c.settle.new.self c.args.assign settled (λ x. refl) c.requires c.settle.ensures,
    (
      design_of c.args.forms.now c.args.run.now c.requires,
      pending_digits c.args.forms.now (state_of c.args.run.now) c.args.assign c.in-Some.x.now c.in-Some-pending.digits c.requires.1.reached c.in-Some.ensures
          (sym c.in-Some-pending.ensures),
    ),
  ),
)

pub returns-clause-made : goal.returns-clause-made
returns-clause-made g c = λ yes.
    written_then c.args.forms.now (state_of c.args.run.now) (state_of c.drive.new.run) c.settle.new.self c.args.assign c.in-Some.x.now c.in-Some-pending.digits
    c.requires.1.reached c.in-Some.ensures (sym c.in-Some-pending.ensures) c.settle.ensures c.in_ok-drive.ensures.driven

pub returns-clause-run : goal.returns-clause-run
returns-clause-run g c =
    run_moved c.args.forms.now (Propagate c.args.assign) c.args.run.now c.drive.new.run c.requires
    (written_then c.args.forms.now (state_of c.args.run.now) (state_of c.drive.new.run) c.settle.new.self c.args.assign c.in-Some.x.now c.in-Some-pending.digits
    c.requires.1.reached c.in-Some.ensures (sym c.in-Some-pending.ensures) c.settle.ensures c.in_ok-drive.ensures.driven)
    c.in_ok-drive.ensures.keeps.agrees
