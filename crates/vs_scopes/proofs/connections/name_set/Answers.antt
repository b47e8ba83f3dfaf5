use Rattle.std.proofs.Common.{arith}
use Rattle.vs_scopes.proofs.ConnectionLemmas.{set_at}
use Rattle.vs_scopes.proofs.connections.name_set.Goals as goal

pub loop-name-preserved : goal.loop-name-preserved
loop-name-preserved c = set_at c.args.names.now c.loop-name.name-index _ c.loop-name.set c.bind.new.self (omega arith) c.in_ok-bind.ensures c.loop-name.invariant
