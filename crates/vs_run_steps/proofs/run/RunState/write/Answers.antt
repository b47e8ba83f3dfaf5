use Rattle.vs_run_steps.proofs.RunsLemmas.{wrote_spot, wrote_spot_state}
use Rattle.vs_run_steps.proofs.run.RunState.write.Goals as goal

pub returns-clause-state : goal.returns-clause-state
returns-clause-state g c =
    wrote_spot_state g.plan.design g.plan.terms c.args.self.now c.write.new.self c.args.spot.now c.value_plane-value.result c.unknown_plane-unknown.result c.args.digits c.requires.1.0 c.requires.1.1.1
    c.value_plane-value.ensures c.unknown_plane-unknown.ensures c.write.ensures.store c.in_ok-write.ensures.made

pub returns-clause-keeps : goal.returns-clause-keeps
returns-clause-keeps g c =
    wrote_spot g.plan.design g.plan.terms c.args.self.now c.write.new.self c.args.spot.now c.value_plane-value.result c.unknown_plane-unknown.result c.args.digits c.requires.1.0 c.requires.1.1.1
    c.value_plane-value.ensures c.unknown_plane-unknown.ensures c.write.ensures.store c.write.ensures.tables c.in_ok-write.ensures.made c.write.ensures.marked
