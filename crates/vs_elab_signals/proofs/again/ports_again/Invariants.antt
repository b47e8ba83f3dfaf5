use Rattle.std.proofs.Common.{[], map, take}
use Rattle.vs_scopes.specs.Reads.{read_piece}
use Rattle.vs_scopes.specs.Ports.{is_of_items, names_where, port_names_among}
use Rattle.vs_scopes.specs.scopes_passes.Answers.{borrowed}
use Rattle.vs_scopes.specs.scopes_passes.Parts.{read_port}
use Rattle.vs_elab_signals.specs.passes.Counting.{Leaves}
use Rattle.vs_elab_signals.proofs.again.ports_again.Given as goal

abbrev pub invariant-loop-piece : goal.invariant-loop-piece
invariant-loop-piece l = Leaves (names_where is_of_items (map read_port l.ports)) (port_names_among (map read_piece (take l.piece-index l.pieces))) [] (borrowed l.again.items) l.counts
