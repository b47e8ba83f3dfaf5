use Rattle.std.proofs.Common.{◌≡◌, ℕ, List, ◌++◌, length, drop}
use Rattle.vs_scopes.specs.Connections.{in_text, in_order}
use Rattle.vs_scopes.specs.passes.Ends.{read_ends}
use Rattle.vs_scopes.proofs.connections.ordered.Given as goal

abbrev pub invariant-loop-place : goal.invariant-loop-place
invariant-loop-place l = (ns : List (List ℕ)) → length ns ≡ l.count → read_ends l.ends.items ++ in_order (drop l.place (in_text l.first l.rest)) (drop l.place ns) ≡ in_order (in_text l.first l.rest) ns
