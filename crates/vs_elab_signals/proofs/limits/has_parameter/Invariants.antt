use Rattle.std.proofs.Common.{◌≡◌, map, drop}
use Rattle.std.specs.List.{list_any}
use Rattle.vs_elab_signals.specs.vs_scopes.specs.Reads.{read_piece}
use Rattle.vs_scopes.specs.Scopes.{is_parameter}
use Rattle.vs_elab_signals.proofs.limits.has_parameter.Given as goal

abbrev pub invariant-loop-piece : goal.invariant-loop-piece
invariant-loop-piece l = list_any is_parameter (map read_piece l.pieces) ≡ list_any is_parameter (map read_piece (drop l.piece-index l.pieces))
