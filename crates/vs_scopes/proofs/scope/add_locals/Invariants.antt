use Rattle.std.proofs.Common.{◌≡◌, ◌++◌, map, take}
use Rattle.vs_scopes.specs.Pieces.{local}
use Rattle.vs_scopes.specs.Reads.{read_piece}
use Rattle.vs_scopes.proofs.scope.add_locals.Given as goal

abbrev pub invariant-loop-one : goal.invariant-loop-one
invariant-loop-one l = map read_piece l.pieces.items ≡ map read_piece l.fn.pieces.items ++ map local (take l.one-index l.locals)
