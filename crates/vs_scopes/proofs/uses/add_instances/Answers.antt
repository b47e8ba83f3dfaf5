use Rattle.vs_scopes.proofs.TurnLemmas.{one_more, all_taken}
use Rattle.vs_scopes.specs.Uses.{instance_names}
use Rattle.vs_scopes.proofs.uses.add_instances.Goals as goal

pub loop-one-preserved : goal.loop-one-preserved
loop-one-preserved c = one_more instance_names c.args.list.now c.loop-one.one-index c.one-item.result _ _ _ c.loop-one.invariant c.loop-one-test.true c.one-item.is c.in_ok-add_connections.ensures

pub returns : goal.returns
returns c = all_taken instance_names c.args.list.now c.loop-one.one-index _ _ c.loop-one.invariant c.loop-one-test.false
