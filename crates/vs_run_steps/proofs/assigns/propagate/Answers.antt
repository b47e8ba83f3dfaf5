use Rattle.std.proofs.Common.{refl, ◌∙◌}
use Rattle.vs_run_active.specs.vs_process.specs.declared.moves.Move.TheVariants.{Propagate}
use Rattle.vs_run_steps.specs.Runs.{state_of}
use Rattle.vs_run_steps.proofs.MadeLemmas.{made_one}
use Rattle.vs_run_steps.proofs.assigns.propagate.Goals as goal

pub returns-clause-made : goal.returns-clause-made
returns-clause-made g c =
    made_one (state_of c.args.run.now) (state_of c.update_member.new.run) (Propagate c.args.assign) refl c.requires.active
    (c.in_ok-update_member.ensures.made (c.in_ok-update_member.ensures.told ∙ c.requires.active))

pub returns-clause-state : goal.returns-clause-state
returns-clause-state g c = c.in_ok-update_member.ensures.made (c.in_ok-update_member.ensures.told ∙ c.requires.active)
