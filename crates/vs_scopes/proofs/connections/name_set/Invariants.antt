use Rattle.std.proofs.Common.{take}
use Rattle.vs_scopes.specs.passes.Ends.{borrowed, IsSet}
use Rattle.vs_scopes.proofs.connections.name_set.Given as goal

abbrev pub invariant-loop-name : goal.invariant-loop-name
invariant-loop-name l = IsSet (borrowed (take l.name-index l.names)) l.set
