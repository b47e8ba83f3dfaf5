use Rattle.std.proofs.Common.{◌≡◌, ◌≤◌, Bool, false, true, ℕ, sym, ◌∙◌, ap, subst}
use Rattle.vs_design.specs.Parts.{Parts}
use Rattle.vs_run_regions.specs.vs_process.specs.Executions.{apply, is_enabled}
use Rattle.vs_run_regions.specs.vs_process.specs.States.{State}
use Rattle.vs_kernel.specs.Running.{region_move}
use Rattle.vs_run_steps.specs.Runs.{IsRunOf, state_of}
use Rattle.vs_kernel.proofs.moves.leave.Goals as goal

pub make_region-requires-clause-run : goal.make_region-requires-clause-run
make_region-requires-clause-run g c =
    subst (λ (d : Parts). IsRunOf d c.note_wave.new.run) (sym c.note_wave.ensures.design) (c.note_wave.ensures.run c.args.run.now.design.now c.requires.run)

pub make_region-requires-clause-going : goal.make_region-requires-clause-going
make_region-requires-clause-going g c = subst (λ (s : State). s.over ≡ false) (sym c.note_wave.ensures.state) c.requires.going

pub make_region-requires-clause-enabled : goal.make_region-requires-clause-enabled
make_region-requires-clause-enabled g c = subst (λ (s : State). is_enabled s (region_move c.args.region) ≡ true) (sym c.note_wave.ensures.state) c.requires.enabled

pub returns-clause-run : goal.returns-clause-run
returns-clause-run g c =
    subst (λ (d : Parts). IsRunOf d c.make_region.new.run) c.note_wave.ensures.design c.in_ok-make_region.ensures.run

pub returns-clause-made : goal.returns-clause-made
returns-clause-made g c = c.in_ok-make_region.ensures.made ∙ ap (apply (region_move c.args.region)) c.note_wave.ensures.state

pub returns-clause-marks : goal.returns-clause-marks
returns-clause-marks g c = c.in_ok-make_region.ensures.marks ∙ c.note_wave.ensures.marks
