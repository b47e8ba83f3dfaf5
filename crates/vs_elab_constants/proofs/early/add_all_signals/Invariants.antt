use Rattle.std.proofs.Common.{None, map, take}
use Rattle.std.specs.List.{flat_map}
use Rattle.vs_scopes.specs.Reads.{read_piece}
use Rattle.vs_scopes.specs.Declarations.{declared_in, signal_names}
use Rattle.vs_scopes.specs.scopes_passes.Declared.{AddsNames}
use Rattle.vs_elab_constants.specs.passes.Early.{bound_by}
use Rattle.vs_elab_constants.proofs.early.add_all_signals.Given as goal

abbrev pub invariant-loop-piece : goal.invariant-loop-piece
invariant-loop-piece l = AddsNames l.fn.names l.names (signal_names (bound_by l.signals) (flat_map (declared_in (λ n. None)) (map read_piece (take l.piece-index l.pieces))))
