use Rattle.std.proofs.Common.{ℕ, List, [], ◌∷◌, take}
use Rattle.vs_syntax.specs.declared.tree.Connection.{Connection}
use Rattle.vs_scopes.specs.passes.Ends.{IsSet, Gathers}
use Rattle.vs_scopes.proofs.connections.gather_rest.Given as goal

abbrev pub invariant-loop-connection : goal.invariant-loop-connection
invariant-loop-connection l = (ns : List (List ℕ)) (c : Connection) → IsSet ns l.set → Gathers ns (c ∷ []) l.fn.given → Gathers ns (c ∷ take l.connection-index l.rest) l.given
