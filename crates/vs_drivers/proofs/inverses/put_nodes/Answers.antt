use Rattle.std.proofs.Common.{get_or}
use Rattle.vs_maps.specs.vs_graph.proofs.Sets.{contains_at}
use Rattle.vs_drivers.proofs.inverses.put_nodes.Goals as goal

pub node-requires-clause-within : goal.node-requires-clause-within
node-requires-clause-within c =
    c.requires.within (get_or c.args.signals.now c.loop-v.v-index 0) (contains_at c.args.signals.now c.loop-v.v-index c.loop-v-test.true)
