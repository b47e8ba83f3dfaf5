use Rattle.vs_design.specs.vs_logic4.specs.Planes.{digits_of_planes}
use Rattle.vs_process.specs.Spots.{spot_write}
use Rattle.vs_run_steps.proofs.RunsLemmas.{wrote, wrote_state}
use Rattle.vs_run_steps.proofs.run.RunState.write_planes.Goals as goal

pub returns-clause-state : goal.returns-clause-state
returns-clause-state g c =
    wrote_state g.plan.design g.plan.terms c.args.self.now c.write.new.self c.args.self.now.changes (spot_write c.args.spot.now (digits_of_planes c.args.spot.now.width c.args.value c.args.unknown))
    c.requires.1.0 c.write.ensures.store c.in_ok-write.ensures.made

pub returns-clause-keeps : goal.returns-clause-keeps
returns-clause-keeps g c =
    wrote g.plan.design g.plan.terms c.args.self.now c.write.new.self c.args.self.now.changes (spot_write c.args.spot.now (digits_of_planes c.args.spot.now.width c.args.value c.args.unknown))
    c.requires.1.0 c.write.ensures.store c.write.ensures.tables c.in_ok-write.ensures.made c.write.ensures.marked
