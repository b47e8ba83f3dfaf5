use Rattle.std.proofs.Common.{◌≡◌, map, drop}
use Rattle.vs_scopes.specs.Reads.{read_piece}
use Rattle.vs_scopes.specs.Ports.{port_names, port_names_among, has_stray_port}
use Rattle.vs_scopes.specs.scopes_passes.Parts.{read_port}
use Rattle.vs_elab_signals.specs.passes.Strays.{has_other_name}
use Rattle.vs_elab_signals.proofs.stray.has_stray_port.Given as goal

abbrev pub invariant-loop-piece : goal.invariant-loop-piece
invariant-loop-piece l =
    has_stray_port (map read_port l.ports) (map read_piece l.pieces) ≡ has_other_name (port_names (map read_port l.ports)) (port_names_among (map read_piece (drop l.piece-index l.pieces)))
