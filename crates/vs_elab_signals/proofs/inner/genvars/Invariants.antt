use Rattle.std.proofs.Common.{◌≡◌, ◌++◌, map, drop}
use Rattle.std.specs.List.{flat_map}
use Rattle.vs_elab_signals.specs.vs_scopes.specs.Reads.{read_piece}
use Rattle.vs_scopes.specs.Declarations.{genvars_in}
use Rattle.vs_scopes.specs.scopes_passes.Answers.{borrowed}
use Rattle.vs_elab_signals.proofs.inner.genvars.Given as goal

abbrev pub invariant-loop-piece : goal.invariant-loop-piece
invariant-loop-piece l = borrowed l.names.items ++ flat_map genvars_in (map read_piece (drop l.piece-index l.pieces)) ≡ flat_map genvars_in (map read_piece l.pieces)
