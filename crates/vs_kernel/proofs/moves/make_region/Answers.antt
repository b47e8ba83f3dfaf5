use Rattle.std.proofs.Common.{◌≡◌, true, sym, subst}
use Rattle.vs_run_regions.specs.vs_process.specs.Executions.{apply, is_enabled}
use Rattle.vs_kernel.specs.declared.state.Region.{Region}
use Rattle.vs_kernel.specs.Running.{region_move}
use Rattle.vs_run_steps.specs.Runs.{state_of}
use Rattle.vs_kernel.proofs.moves.make_region.Goals as goal

pub activate-requires-clause-enabled : goal.activate-requires-clause-enabled
activate-requires-clause-enabled g c = subst (λ (x : Region). is_enabled (state_of c.args.run.now) (region_move x) ≡ true) c.in-Updates.is c.requires.enabled

pub end_slot-requires-clause-enabled : goal.end_slot-requires-clause-enabled
end_slot-requires-clause-enabled g c = subst (λ (x : Region). is_enabled (state_of c.args.run.now) (region_move x) ≡ true) c.in-End.is c.requires.enabled

pub returns-in_ok-rouse-in-Inactive-clause-made : goal.returns-in_ok-rouse-in-Inactive-clause-made
returns-in_ok-rouse-in-Inactive-clause-made g c =
    subst (λ (x : Region). state_of c.rouse.new.run ≡ apply (region_move x) (state_of c.args.run.now)) (sym c.in-Inactive.is) c.in_ok-rouse-in-Inactive.ensures.made

pub returns-in-Updates-clause-made : goal.returns-in-Updates-clause-made
returns-in-Updates-clause-made g c =
    subst (λ (x : Region). state_of c.activate.new.run ≡ apply (region_move x) (state_of c.args.run.now)) (sym c.in-Updates.is) c.activate.ensures.made

pub returns-in_ok-end_slot-in-End-clause-made : goal.returns-in_ok-end_slot-in-End-clause-made
returns-in_ok-end_slot-in-End-clause-made g c =
    subst (λ (x : Region). state_of c.end_slot.new.run ≡ apply (region_move x) (state_of c.args.run.now)) (sym c.in-End.is) c.in_ok-end_slot-in-End.ensures.made
