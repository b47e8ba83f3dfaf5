use Rattle.std.proofs.Common.{map, take}
use Rattle.vs_scopes.specs.Reads.{read_piece}
use Rattle.vs_scopes.specs.scopes_passes.Declared.{AreKinds}
use Rattle.vs_scopes.proofs.declared.kinds_said.Given as goal

abbrev pub invariant-loop-piece : goal.invariant-loop-piece
invariant-loop-piece l = AreKinds (map read_piece (take l.piece-index l.pieces)) l.kinds
