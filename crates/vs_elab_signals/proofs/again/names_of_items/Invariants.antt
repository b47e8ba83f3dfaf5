use Rattle.std.proofs.Common.{◌≡◌, ◌++◌, map, drop}
use Rattle.vs_scopes.specs.Ports.{is_of_items, names_where}
use Rattle.vs_scopes.specs.scopes_passes.Answers.{borrowed}
use Rattle.vs_scopes.specs.scopes_passes.Parts.{read_port}
use Rattle.vs_elab_signals.proofs.again.names_of_items.Given as goal

abbrev pub invariant-loop-port : goal.invariant-loop-port
invariant-loop-port l = borrowed l.names.items ++ names_where is_of_items (map read_port (drop l.port-index l.ports)) ≡ names_where is_of_items (map read_port l.ports)
