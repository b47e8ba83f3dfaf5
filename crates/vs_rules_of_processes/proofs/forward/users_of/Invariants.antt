use Rattle.std.proofs.Common.{◌+◌, length}
use Rattle.vs_graph.proofs.RowLemmas.{AreSoFar}
use Rattle.vs_rules_of_processes.specs.Forward.{IsUser}
use Rattle.vs_rules_of_processes.proofs.forward.users_of.Given as goal

abbrev pub invariant-loop-n : goal.invariant-loop-n
invariant-loop-n l = AreSoFar (IsUser l.facts.design l.facts.claims) (length l.facts.design.signals + l.n) (length l.facts.design.signals) l.users
